use Rattle.stream.proofs.Meant.{glanced}
use Rattle.stream.proofs.sessions.SessionTokenSource.glance.Goals as goal

pub returns : goal.returns
returns c = glanced c.args.self.now c.glance.new.self _ c.glance.ensures
