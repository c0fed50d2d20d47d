-- Worked examples: texts with their tokens and endings, string literals with what they stand for.
use Rattle.std.specs.Prelude.{◌≡◌, ℕ, List, [], ◌∷◌, map, length as size, Some, None, codes}
use Rattle.token.specs.Told.{Told, gave, origin, refused_over}
use Rattle.token.specs.declared.fault.Cause.{Cause}
use Rattle.token.specs.declared.fault.Cause.TheVariants as cause
use Rattle.token.specs.declared.fault.Layer.TheVariants as layer
use Rattle.token.specs.declared.kinds.TokenKind.TheVariants as kind
use Rattle.token.specs.declared.place.Token.{Token}
use Rattle.text.specs.Texts.{string_text}
use Rattle.lexer.specs.Answers.{fault_at}
use Rattle.lexer.specs.Examples.{at, rooms, tok}
use Rattle.lexer.specs.Runs.{Meaning, tokens_of}

-- a text that is lexed, or a literal whose text is wanted
pub data Given : Type 0 where
  lexing : List ℕ → Given
  reading : List ℕ → Given

pub data Reply : Type 0 where
  lexed : Meaning → Reply
  read : Told (List ℕ) → Reply

-- a literal as one string token
abbrev pub whole : List ℕ → Token
whole bs = record { kind = kind.StringToken; position = origin; length = size bs }

-- what the definitions say
abbrev pub reply_to : Given → Reply
reply_to (lexing text) = lexed (tokens_of text rooms)
reply_to (reading bs) = read (string_text bs (whole bs))

pub record Example : Type 0 where
  pub given : Given
  pub reply : Reply

abbrev pub clean : List ℕ → List Token → Example
clean text tokens = record { given = lexing text; reply = lexed (record { tokens = tokens; ending = None }) }

abbrev pub faulty : List ℕ → List Token → Cause → (line column offset length : ℕ) → Example
faulty text tokens c line column offset length =
    record { given = lexing text; reply = lexed (record { tokens = tokens; ending = Some (fault_at c (at line column offset) length) }) }

abbrev pub stands_for : List ℕ → List ℕ → Example
stands_for bs text = record { given = reading bs; reply = read (gave text) }

abbrev pub refused_as : ℕ → List ℕ → Example
refused_as n bs = record { given = reading bs; reply = read (refused_over n layer.Text (whole bs)) }

abbrev pub examples : List Example
examples =
    clean (codes "") (tok kind.Eof 0 0 0 0 ∷ []) ∷
    clean (codes "a\n") (tok kind.Identifier 0 0 0 1 ∷ tok kind.Eol 0 1 1 1 ∷ tok kind.Eof 0 2 2 0 ∷ []) ∷
    clean (codes " a") (tok kind.Indent 0 0 0 1 ∷ tok kind.Identifier 0 1 1 1 ∷ tok kind.Dedent 0 2 2 0 ∷ tok kind.Eof 0 2 2 0 ∷ []) ∷
    faulty (codes "&a") [] cause.UnexpectedCharacter 0 1 1 1 ∷
    faulty (codes "&") [] cause.UnexpectedEndOfToken 0 1 1 0 ∷
    clean (codes "(") (tok kind.ParenL 0 0 0 1 ∷ tok kind.Eof 0 1 1 0 ∷ []) ∷
    faulty (codes "a:\n  b\n c")
    (tok kind.Identifier 0 0 0 1 ∷ tok kind.Colon 0 1 1 1 ∷ tok kind.Eol 0 2 2 1 ∷ tok kind.Indent 1 0 3 2 ∷ tok kind.Text 1 2 5 1 ∷ tok kind.Eol 1 3 6 1 ∷ [])
    cause.InconsistentLeadingWhitespace 2 0 7 1 ∷
    faulty (codes "a:\n  b\n \tc")
    (tok kind.Identifier 0 0 0 1 ∷ tok kind.Colon 0 1 1 1 ∷ tok kind.Eol 0 2 2 1 ∷ tok kind.Indent 1 0 3 2 ∷ tok kind.Text 1 2 5 1 ∷ tok kind.Eol 1 3 6 1 ∷ [])
    cause.MixedLeadingWhitespace 2 0 7 2 ∷
    faulty (codes "a:\n {{")
    (tok kind.Identifier 0 0 0 1 ∷ tok kind.Colon 0 1 1 1 ∷ tok kind.Eol 0 2 2 1 ∷ tok kind.Indent 1 0 3 1 ∷ tok kind.InterpolationStart 1 1 4 2 ∷ [])
    cause.UnterminatedInterpolation 1 1 4 2 ∷
    clean (codes "a:\n {{{{x")
    (tok kind.Identifier 0 0 0 1 ∷ tok kind.Colon 0 1 1 1 ∷ tok kind.Eol 0 2 2 1 ∷ tok kind.Indent 1 0 3 1 ∷ tok kind.Text 1 1 4 5 ∷ tok kind.Dedent 1 6 9 0 ∷ tok kind.Eof 1 6 9 0 ∷ []) ∷
    clean (codes "f'a{{b}}c'")
    (tok kind.Identifier 0 0 0 1 ∷ tok kind.FormatStringStart 0 1 1 4 ∷ tok kind.Identifier 0 5 5 1 ∷ tok kind.FormatStringEnd 0 6 6 4 ∷ tok kind.Eof 0 10 10 0 ∷ []) ∷
    stands_for (codes "\"\\u{e9}\"") (0xC3 ∷ 0xA9 ∷ []) ∷
    refused_as 26 (codes "\"\\u{110000}\"") ∷
    []

abbrev pub ExamplesHold : Type 0
ExamplesHold = map (λ (e : Example). reply_to e.given) examples ≡ map (λ (e : Example). e.reply) examples
