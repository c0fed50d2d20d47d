-- Tokens without Whitespace.
use Rattle.std.specs.Prelude.{◌≡◌, Bool, true, cond, List, [], ◌∷◌, Some, Ok}
use Rattle.token.specs.Ordinals.{same_kind}
use Rattle.token.specs.declared.kinds.TokenKind.TheVariants as kind
use Rattle.token.specs.declared.place.Token.{Token}
use Rattle.lexer.specs.Runs.{Meaning}
use Rattle.runs.specs.Coming.{rest, tell}

abbrev pub blank : Token → Bool
blank t = same_kind t.kind kind.Whitespace

-- the tokens that are no Whitespace
abbrev pub significant : List Token → List Token
significant [] = []
significant (t ∷ ts) = cond (blank t) (significant ts) (t ∷ significant ts)

-- what is left once the Whitespace that comes first is taken off
abbrev pub skip : List Token → List Token
skip [] = []
skip (t ∷ ts) = cond (blank t) (skip ts) (t ∷ ts)

abbrev pub skipped : Meaning → Meaning
skipped m = record { tokens = skip m.tokens; ending = m.ending }

-- the meaning without Whitespace, with the same ending
abbrev pub sift : Meaning → Meaning
sift m = record { tokens = significant m.tokens; ending = m.ending }

abbrev pub sifted : {A : Type 0} → (A → Meaning) → A → Meaning
sifted meaning a = sift (meaning a)

-- calls on a source that took off nothing but Whitespace
pub data Skips {A : Type 0} (meaning : A → Meaning) (stays moves : A → A → Type 0) (a : A) : A → Type 0 where
  here : Skips meaning stays moves a a
  looks : {b c : A} → Skips meaning stays moves a b → stays b c → Skips meaning stays moves a c
  passes : {b c : A} (t : Token) → Skips meaning stays moves a b → tell (meaning b) ≡ Ok (Some t) → blank t ≡ true → moves b c → Skips meaning stays moves a c

-- what a glance past Whitespace leaves below: the same, or without the Whitespace that came first; which of them is open
pub record Shown {A : Type 0} (meaning : A → Meaning) (stays moves : A → A → Type 0) (a b : A) : Type 0 where
  pub exactly : skipped (meaning b) ≡ skipped (meaning a)
  pub calls : Skips meaning stays moves a b

-- what a next past Whitespace leaves below: all behind the first token that is none
pub record Past {A : Type 0} (meaning : A → Meaning) (stays moves : A → A → Type 0) (a b : A) : Type 0 where
  pub exactly : meaning b ≡ rest (skipped (meaning a))
  pub calls : (m : A) × Skips meaning stays moves a m × moves m b
