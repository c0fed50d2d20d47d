-- All tokens of a text, and how it ends.
use Rattle.std.specs.Prelude.{ℕ, zero, suc, ◌+◌, ◌/◌, List, [], ◌∷◌, length, Some, None, Ok, Err, Option, Result}
use Rattle.token.specs.declared.fault.Fault.{Fault}
use Rattle.token.specs.declared.place.Token.{Token}
use Rattle.lexer.specs.Answers.{after, answer}
use Rattle.lexer.specs.States.{Rooms, State, opening}

-- tokens to come, and the ending: clean, or a fault
pub record Meaning : Type 0 where
  pub tokens : List Token
  pub ending : Option Fault

abbrev pub onward : Result (Option Token) Fault → (Token → Meaning) → Meaning
onward (Ok (Some t)) rest = record { tokens = t ∷ (rest t).tokens; ending = (rest t).ending }
onward (Ok None) rest = record { tokens = []; ending = None }
onward (Err f) rest = record { tokens = []; ending = Some f }

-- what so many calls hand out
abbrev pub run : ℕ → State → Meaning
run zero σ = record { tokens = []; ending = None }
run (suc k) σ = onward (answer σ) (λ t. run k (after σ t))

-- a text of n bytes has at most n + n / 2 + 1 tokens
abbrev pub tokens_of : List ℕ → Rooms → Meaning
tokens_of text rooms = run (length text + length text / 2 + 1) (opening text rooms)
