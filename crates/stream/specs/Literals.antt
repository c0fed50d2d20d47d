-- The text of the next token, over any source of tokens.
use Rattle.std.specs.Prelude.{◌≡◌, ℕ, ◌≤◌, cond, List, length, Some, None, Ok, Err, Option, Result}
use Rattle.token.specs.Ordinals.{same_kind}
use Rattle.token.specs.Told.{Told, gave, refusal, refused, refused_over, told}
use Rattle.token.specs.declared.fault.Fault.{Fault}
use Rattle.token.specs.declared.fault.Layer.TheVariants as layer
use Rattle.token.specs.declared.kinds.TokenKind.TheVariants as kind
use Rattle.token.specs.declared.place.Token.{Token}
use Rattle.text.specs.Texts.{string_text, text_answer, text_buffer}
use Rattle.lexer.specs.Runs.{Meaning}
use Rattle.runs.specs.Coming.{rest, tell}

-- a token with the length of its text
abbrev pub with_token : Token → Told ℕ → Told (Token × ℕ)
with_token t (gave n) = gave (t, n)
with_token t (refused r) = refused r

-- 8: the source has ended; no place
abbrev pub source_ended : Told (Token × ℕ)
source_ended = refused record { number = 8; layer = layer.Literal; offset = 0; length = 0; line = 0; column = 0; needed = 0 }

-- what is answered where this comes first: the fault below, 8, 9, or what the text's call gives
abbrev pub literal_of : (text : List ℕ) → (room : ℕ) → Result (Option Token) Fault → Told (Token × ℕ)
literal_of text room (Err f) = refused (refusal f)
literal_of text room (Ok None) = source_ended
literal_of text room (Ok (Some t)) =
    cond (same_kind t.kind kind.StringToken) (with_token t (text_answer t room (string_text text t))) (refused_over 9 layer.Literal t)

-- what the buffer holds afterwards
abbrev pub literal_buffer : (text : List ℕ) → Result (Option Token) Fault → List ℕ → List ℕ
literal_buffer text (Err f) out = out
literal_buffer text (Ok None) out = out
literal_buffer text (Ok (Some t)) out = cond (same_kind t.kind kind.StringToken) (text_buffer (string_text text t) out) out

-- an answered literal takes the token, a refused one takes nothing
abbrev pub left_by : Result (Token × ℕ) Fault → Meaning → Meaning
left_by (Ok p) m = rest m
left_by (Err f) m = m

abbrev pub Takes : {A : Type 0} → (stays moves : A → A → Type 0) → A → Result (Token × ℕ) Fault → A → Type 0
Takes {A = A} stays moves a (Ok p) b = (m : A) × stays a m × moves m b
Takes {A = A} stays moves a (Err f) b = stays a b

-- a call of literal, on a source before and after, with a text and a buffer before and after
pub record Literals {A : Type 0} (meaning : A → Meaning) (stays moves : A → A → Type 0) (text buffer : List ℕ) (a : A) (r : Result (Token × ℕ) Fault) (b : A) (after : List ℕ) : Type 0 where
  pub tells : told r ≡ literal_of text (length buffer) (tell (meaning a))
  pub fills : after ≡ literal_buffer text (tell (meaning a)) buffer
  pub leaves : meaning b ≡ left_by r (meaning a)
  pub few : length (meaning a).tokens ≤ 98305
  pub calls : Takes stays moves a r b
