-- What the calls of a session answer, and what they leave.
use Rattle.std.specs.Prelude.{◌≡◌, Some, None, Ok, Err, Option, Result}
use Rattle.token.specs.declared.fault.Fault.{Fault}
use Rattle.token.specs.declared.place.Position.{Position}
use Rattle.token.specs.declared.place.Token.{Token}
use Rattle.lexer.specs.Answers.{after, answer}
use Rattle.lexer.specs.States.{State}

-- a token that is answered is handed out; a fault, and nothing after Eof, leave all as it was
abbrev pub handing : State → Result (Option Token) Fault → State
handing σ (Ok (Some t)) = after σ t
handing σ (Ok None) = σ
handing σ (Err f) = σ

-- a call of next: before, answer, after
pub record SessionNexts (σ : State) (r : Result (Option Token) Fault) (τ : State) : Type 0 where
  pub answers : r ≡ answer σ
  pub leaves : τ ≡ handing σ r

-- a call of glance
pub record SessionGlances (σ : State) (r : Result (Option Token) Fault) (τ : State) : Type 0 where
  pub answers : r ≡ answer σ
  pub leaves : τ ≡ σ

-- a call of place
pub record SessionPlaces (σ : State) (r : Position) (τ : State) : Type 0 where
  pub answers : r ≡ σ.place
  pub leaves : τ ≡ σ
