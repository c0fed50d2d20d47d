use Rattle.stream.proofs.Meant.{nexted}
use Rattle.stream.proofs.sessions.SessionTokenSource.next.Goals as goal

pub returns : goal.returns
returns c = nexted c.args.self.now c.next.new.self _ c.next.ensures
