use Rattle.std.proofs.Common.{rules}
use Rattle.session.proofs.Finds.{found_sized}
use Rattle.session.proofs.record.Session.found.Goals as goal

pub returns-clause-sized : goal.returns-clause-sized
returns-clause-sized c = found_sized c.args.self.now c.rule_from.result (search rules)
