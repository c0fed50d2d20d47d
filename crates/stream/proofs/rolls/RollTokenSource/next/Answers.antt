use Rattle.std.proofs.Common.{ap, ◌∙◌}
use Rattle.stream.specs.Rolled.{means, rolled}
use Rattle.stream.proofs.Rolling.{few, means_forward}
use Rattle.stream.proofs.rolls.RollTokenSource.next.Goals as goal

pub returns : goal.returns
returns c =
    let r = rolled c.args.self.now in
    record { gives = c.first-answer.ensures; leaves = ap means c.pass.ensures ∙ means_forward r; few = few r; steps = c.pass.ensures }
