use Rattle.std.proofs.Common.{◌∙◌}
use Rattle.scan.proofs.Prefixes.{common_pairs}
use Rattle.scan.proofs.common.Goals as goal

pub returns-clause-is : goal.returns-clause-is
returns-clause-is c = c.alike.ensures.is ∙ common_pairs c.args.a.now c.args.b.now
