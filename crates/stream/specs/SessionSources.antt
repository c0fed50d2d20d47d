-- A session as a source of tokens: what it means, and what a glance and a next leave of it.
use Rattle.std.specs.Prelude.{◌≡◌}
use Rattle.lexer.specs.Answers.{answer}
use Rattle.lexer.specs.Runs.{Meaning}
use Rattle.lexer.specs.States.{State}
use Rattle.runs.specs.Coming.{meant}
use Rattle.session.specs.Calls.{handing}
use Rattle.session.specs.Sessions.{state_of}
use Rattle.session.specs.declared.record.Session.{Session}

abbrev pub Stays : State → State → Type 0
Stays σ τ = τ ≡ σ

abbrev pub Moves : State → State → Type 0
Moves σ τ = τ ≡ handing σ (answer σ)

abbrev pub session_means : Session → Meaning
session_means s = meant (state_of s)

abbrev pub SessionStays : Session → Session → Type 0
SessionStays a b = Stays (state_of a) (state_of b)

abbrev pub SessionMoves : Session → Session → Type 0
SessionMoves a b = Moves (state_of a) (state_of b)
