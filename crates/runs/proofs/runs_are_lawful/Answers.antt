use Rattle.runs.proofs.Lawfully.{runs_lawful}
use Rattle.runs.proofs.runs_are_lawful.Goals as goal

pub returns : goal.returns
returns c = runs_lawful
