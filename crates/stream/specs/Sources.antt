-- What the calls of every source of tokens answer, and what they leave.
use Rattle.std.specs.Prelude.{◌≡◌, ◌≤◌, length, Option, Result}
use Rattle.token.specs.declared.fault.Fault.{Fault}
use Rattle.token.specs.declared.place.Token.{Token}
use Rattle.lexer.specs.Runs.{Meaning}
use Rattle.runs.specs.Coming.{rest, tell}

-- a call of glance, on a source before and after: what comes first is answered, and the meaning stays
pub record Glances {A : Type 0} (meaning : A → Meaning) (stays : A → A → Type 0) (a : A) (r : Result (Option Token) Fault) (b : A) : Type 0 where
  pub gives : r ≡ tell (meaning a)
  pub leaves : meaning b ≡ meaning a
  pub few : length (meaning a).tokens ≤ 98305
  pub keeps : stays a b

-- a call of next: what comes first is answered and taken off
pub record Nexts {A : Type 0} (meaning : A → Meaning) (moves : A → A → Type 0) (a : A) (r : Result (Option Token) Fault) (b : A) : Type 0 where
  pub gives : r ≡ tell (meaning a)
  pub leaves : meaning b ≡ rest (meaning a)
  pub few : length (meaning a).tokens ≤ 98305
  pub steps : moves a b
