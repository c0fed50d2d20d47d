-- A text taken as one string literal.
use Rattle.std.specs.Prelude.{List, ℕ, length}
use Rattle.token.specs.Told.{Told, gave, refused, origin}
use Rattle.token.specs.declared.kinds.TokenKind.TheVariants as kind
use Rattle.token.specs.declared.place.Token.{Token}
use Rattle.source.specs.Admission.{admission}
use Rattle.text.specs.Texts.{string_text}

-- the token that has the whole text for its lexeme
abbrev pub whole_token : List ℕ → Token
whole_token bs = record { kind = kind.StringToken; position = origin; length = length bs }

abbrev pub on_admission : Told (Unit {0}) → List ℕ → Told (List ℕ)
on_admission (gave _) bs = string_text bs (whole_token bs)
on_admission (refused r) bs = refused r

-- what the text stands for
abbrev pub whole_text : List ℕ → Told (List ℕ)
whole_text bs = on_admission (admission bs) bs
