-- Worked examples of what is found.
use Rattle.std.specs.Prelude.{◌≡◌, ℕ, Bool, true, false, List, [], ◌∷◌, map, Some, None, codes}
use Rattle.token.specs.declared.kinds.Delimiter.{Delimiter}
use Rattle.token.specs.declared.kinds.Delimiter.TheVariants as delimiter
use Rattle.token.specs.declared.kinds.StringDelimiter.TheVariants as quote
use Rattle.token.specs.declared.kinds.TokenKind.TheVariants as kind
use Rattle.rules.specs.declared.found.Around.{Around}
use Rattle.rules.specs.Found.{Found, Lexed, Fails, Unclosed}
use Rattle.rules.specs.declared.found.Layout.TheVariants as layout
use Rattle.rules.specs.Lines.{rule}

-- nothing open
abbrev plain : Around
plain = record { newest = None; marked = false; body = false; formats = false }

-- an opener open
abbrev within : Delimiter → Around
within d = record { newest = Some d; marked = false; body = false; formats = false }

-- in a body, with no interpolation open, or with one
abbrev text : Around
text = record { newest = None; marked = false; body = true; formats = false }

abbrev marked : Around
marked = record { newest = None; marked = true; body = true; formats = false }

-- behind the identifier f
abbrev formats : Around
formats = record { newest = None; marked = false; body = false; formats = true }

pub record Sample : Type 0 where
  pub fresh : Bool
  pub around : Around
  pub levels : List (List ℕ)
  pub ahead : List ℕ
  pub finds : Found

-- where a line starts, or inside of one
abbrev starts : Around → List (List ℕ) → List ℕ → Found → Sample
starts o levels s f = record { fresh = true; around = o; levels = levels; ahead = s; finds = f }

abbrev inside : Around → List ℕ → Found → Sample
inside o s f = record { fresh = false; around = o; levels = []; ahead = s; finds = f }

abbrev pub samples : List Sample
samples =
    starts plain [] [] (Lexed kind.Eof 0) ∷
    starts plain (codes " " ∷ []) [] (Lexed kind.Dedent 0) ∷
    starts marked (codes " " ∷ []) [] Unclosed ∷
    starts plain [] (codes " a") (Lexed kind.Indent 1) ∷
    starts plain [] (codes " \t\n") (Lexed kind.Whitespace 2) ∷
    starts plain [] (codes " \ta") (Fails layout.MixedLeadingWhitespace 0 2) ∷
    starts plain (codes " " ∷ []) (codes "   a") (Lexed kind.Indent 3) ∷
    starts plain (codes " " ∷ []) (codes "a") (Lexed kind.Dedent 0) ∷
    starts plain (codes "  " ∷ codes " " ∷ []) (codes " a") (Lexed kind.Dedent 0) ∷
    starts text (codes "  " ∷ []) (codes "\n\n  a") (Lexed kind.Eol 1) ∷
    starts text (codes "  " ∷ []) (codes "\n\na") (Lexed kind.Dedent 0) ∷
    starts text (codes "  " ∷ []) (codes "  \t a") (Lexed kind.Whitespace 2) ∷
    starts text (codes "  " ∷ []) (codes " c") (Fails layout.InconsistentLeadingWhitespace 0 1) ∷
    starts text (codes "  " ∷ []) (codes " \tc") (Fails layout.MixedLeadingWhitespace 0 2) ∷
    starts (within delimiter.Paren) [] (codes " \ta") (Lexed kind.Whitespace 2) ∷
    inside text (codes "{{{{x") (Lexed kind.Text 5) ∷
    inside text (codes "a{{b") (Lexed kind.Text 1) ∷
    inside text (codes "{{b") (Lexed kind.InterpolationStart 2) ∷
    inside text (codes "\r\n") (Lexed kind.Eol 2) ∷
    inside marked (codes "}}") (Lexed kind.InterpolationEnd 2) ∷
    inside plain (codes "}}") (Fails layout.UnexpectedClosingDelimiter 0 0) ∷
    inside (within delimiter.Paren) (codes "]") (Fails layout.MismatchedClosingDelimiter 0 0) ∷
    inside (within delimiter.Paren) (codes "\n") (Lexed kind.Whitespace 1) ∷
    inside plain (codes "&a") (Fails layout.UnexpectedCharacter 1 1) ∷
    inside plain (codes "&") (Fails layout.UnexpectedEndOfToken 1 0) ∷
    inside plain (codes ":=") (Lexed kind.ColonEquals 2) ∷
    inside plain (codes "# a\r\n") (Lexed kind.Comment 3) ∷
    inside plain (codes "\r") (Fails layout.UnpairedCarriageReturn 0 1) ∷
    inside plain (codes "\\\n\t a") (Lexed kind.Whitespace 4) ∷
    inside plain (codes "\\\r") (Fails layout.UnpairedCarriageReturn 0 2) ∷
    inside plain (codes "\\") (Fails layout.EscapeEndOfFile 0 1) ∷
    inside plain (codes "a-1 ") (Lexed kind.Identifier 3) ∷
    inside plain (0xEF ∷ 0xBB ∷ 0xBF ∷ []) (Lexed kind.ByteOrderMark 3) ∷
    inside plain (0xC3 ∷ 0xA9 ∷ []) (Fails layout.UnknownStartOfToken 0 2) ∷
    inside plain (codes "\"\\\"\"") (Lexed kind.StringToken 4) ∷
    inside plain (codes "'''a'''") (Lexed kind.StringToken 7) ∷
    inside plain (codes "'a{{b}}c'") (Lexed kind.StringToken 9) ∷
    inside plain (codes "``` ") (Fails layout.UnterminatedBacktick 0 3) ∷
    inside formats (codes "'a{{b}}c'") (Lexed kind.FormatStringStart 4) ∷
    inside (within (delimiter.FormatString (record { delimiter = quote.QuoteSingle; indented = false }))) (codes "}}c'") (Lexed kind.FormatStringEnd 4) ∷
    inside (within (delimiter.FormatString (record { delimiter = quote.QuoteSingle; indented = false }))) (codes "}}c{{") (Lexed kind.FormatStringContinue 5) ∷
    inside (within (delimiter.FormatString (record { delimiter = quote.QuoteSingle; indented = false }))) (codes "}}c") (Fails layout.UnterminatedString 0 2) ∷
    []

abbrev pub Samples : Type 0
Samples = map (λ (s : Sample). rule s.fresh s.around s.levels s.ahead) samples ≡ map (λ (s : Sample). s.finds) samples
