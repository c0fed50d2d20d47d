-- Tokens handed out one after another, from one state to another.
use Rattle.std.specs.Prelude.{◌≡◌, List, [], ◌∷◌, Some, Ok}
use Rattle.token.specs.declared.place.Token.{Token}
use Rattle.lexer.specs.Answers.{after, answer}
use Rattle.lexer.specs.States.{State}

pub data Hands : State → List Token → State → Type 0 where
  done : {σ : State} → Hands σ [] σ
  more : {σ τ : State} {ts : List Token} (t : Token) → answer σ ≡ Ok (Some t) → Hands (after σ t) ts τ → Hands σ (t ∷ ts) τ
