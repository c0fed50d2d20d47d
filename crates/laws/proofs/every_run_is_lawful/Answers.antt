use Rattle.laws.proofs.Going.{layer_law, session_law}
use Rattle.laws.proofs.every_run_is_lawful.Goals as goal

pub returns : goal.returns
returns g c = record { sessions = session_law; layers = layer_law g.S.TokenSource.meaning g.S.TokenSource.stays g.S.TokenSource.moves }
