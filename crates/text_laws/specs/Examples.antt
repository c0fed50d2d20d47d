-- Worked examples: a literal, and what it stands for.
use Rattle.std.specs.Prelude.{◌≡◌, ℕ, List, [], ◌∷◌, map, length, codes}
use Rattle.token.specs.Told.{Told, gave, refused_over, origin}
use Rattle.token.specs.declared.fault.Layer.TheVariants as layer
use Rattle.token.specs.declared.kinds.TokenKind.TheVariants as kind
use Rattle.token.specs.declared.place.Token.{Token}
use Rattle.text.specs.Texts.{string_text}

pub record Example : Type 0 where
  pub literal : List ℕ
  pub answer : Told (List ℕ)

abbrev pub whole : List ℕ → Token
whole bs = record { kind = kind.StringToken; position = origin; length = length bs }

abbrev pub refused_as : ℕ → List ℕ → Example
refused_as n bs = record { literal = bs; answer = refused_over n layer.Text (whole bs) }

abbrev pub stands_for : List ℕ → List ℕ → Example
stands_for bs text = record { literal = bs; answer = gave text }

abbrev pub examples : List Example
examples =
    stands_for (codes "\"\\u{e9}\"") (0xC3 ∷ 0xA9 ∷ [])
    ∷ refused_as 26 (codes "\"\\u{110000}\"")
    ∷ []

abbrev pub ExamplesHold : Type 0
ExamplesHold = map (λ (e : Example). string_text e.literal (whole e.literal)) examples ≡ map (λ (e : Example). e.answer) examples
