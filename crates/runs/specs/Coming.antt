-- What is still to come from a state on.
use Rattle.std.specs.Prelude.{ℕ, ◌+◌, ◌*◌, cond, List, [], ◌∷◌, length, Some, None, Ok, Err, Option, Result}
use Rattle.token.specs.declared.fault.Fault.{Fault}
use Rattle.token.specs.declared.place.Token.{Token}
use Rattle.lexer.specs.Answers.{behind}
use Rattle.lexer.specs.Runs.{Meaning, run}
use Rattle.lexer.specs.States.{State, ahead}

-- twice the tokens to come are never more than this
abbrev pub budget : State → ℕ
budget σ = 3 * length (ahead σ) + 2 * length σ.standing.levels + cond σ.standing.ended 0 2

-- the tokens to come and the ending
abbrev pub meant : State → Meaning
meant σ = run (budget σ) σ

abbrev pub ended : Option Fault → Result (Option Token) Fault
ended None = Ok None
ended (Some f) = Err f

-- what comes first: a token, or with none left the ending
abbrev pub tell_by : List Token → Option Fault → Result (Option Token) Fault
tell_by [] ending = ended ending
tell_by (t ∷ ts) ending = Ok (Some t)

abbrev pub tell : Meaning → Result (Option Token) Fault
tell m = tell_by m.tokens m.ending

-- what is left once the first, if any, is taken off
abbrev pub rest : Meaning → Meaning
rest m = record { tokens = behind m.tokens; ending = m.ending }
