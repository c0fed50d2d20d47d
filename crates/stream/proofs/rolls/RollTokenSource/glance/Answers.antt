use Rattle.std.proofs.Common.{refl}
use Rattle.stream.specs.Rolled.{rolled}
use Rattle.stream.proofs.Rolling.{few}
use Rattle.stream.proofs.rolls.RollTokenSource.glance.Goals as goal

pub returns : goal.returns
returns c = record { gives = c.first.ensures; leaves = refl; few = few (rolled c.args.self.now); keeps = refl }
