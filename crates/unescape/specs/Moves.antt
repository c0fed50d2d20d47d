-- What one step answers and leaves.
use Rattle.std.specs.Prelude.{ℕ, Ok, Err, Option, Result}
use Rattle.unescape.specs.Escapes.{Move}
use Rattle.unescape.specs.declared.record.Escape.{Escape}
use Rattle.unescape.specs.declared.record.State.{State}

abbrev pub given : Result Move Escape → Result (Option ℕ) Escape
given (Ok m) = Ok m.out
given (Err e) = Err e

-- a refusal leaves the state as it was
abbrev pub after : State → Result Move Escape → State
after s (Ok m) = m.state
after s (Err e) = s
