-- Strings.
use Rattle.std.specs.Prelude.{ℕ, ◌+◌, Bool, true, false, cond, not, ◌&&◌, ◌||◌, List, [], ◌∷◌, length, drop}
use Rattle.scan.specs.Prefix.{begins}
use Rattle.token.specs.Strings.{delimiter_of, escapes_in}
use Rattle.token.specs.declared.kinds.StringDelimiter.{StringDelimiter}
use Rattle.token.specs.declared.kinds.StringDelimiter.TheVariants as quote
use Rattle.token.specs.declared.kinds.StringKind.{StringKind}
use Rattle.token.specs.declared.kinds.TokenKind.{TokenKind}
use Rattle.token.specs.declared.kinds.TokenKind.TheVariants as kind
use Rattle.rules.specs.Found.{Found, Lexed, Fails, Move, Stop, Pass}
use Rattle.rules.specs.declared.found.Layout.{Layout}
use Rattle.rules.specs.declared.found.Layout.TheVariants.{UnterminatedString, UnterminatedBacktick}
use Rattle.rules.specs.declared.parts.Reach.{Reach}
use Rattle.rules.specs.declared.parts.Reach.TheVariants.{Closes, Pauses, Ends}
use Rattle.rules.specs.Scans.{character, doubled, opening, scan}

-- three of a quote, if they come first, else one
abbrev pub kind_of : StringDelimiter → List ℕ → StringKind
kind_of q s = record { delimiter = q; indented = begins (delimiter_of (record { delimiter = q; indented = true })) s }

-- the inside of a string: a backslash escapes in double quotes, {{{{ is text in a format string, and the delimiter or, in a format string, {{ stops it
abbrev pub over_string : StringKind → (format : Bool) → Bool → List ℕ → Move
over_string k format escaped s =
    cond (not escaped && (escapes_in k && begins (92 ∷ []) s)) (Pass 0 true)
    (cond (format && begins doubled s) (Pass 3 false)
    (cond (not escaped && (begins (delimiter_of k) s || (format && begins opening s))) Stop
    (character s)))

-- where the inside leads, by what stands behind n bytes of it
abbrev pub leads : StringKind → ℕ → List ℕ → Reach
leads k n s = cond (begins (delimiter_of k) s) (Closes (n + length (delimiter_of k))) (cond (begins opening s) (Pauses (n + 2)) Ends)

abbrev pub reach : StringKind → (format : Bool) → List ℕ → Reach
reach k format s = leads k (scan (over_string k format) 0 false s) (drop (scan (over_string k format) 0 false s) s)

-- the bytes of the inside and of what ends it
abbrev pub reaches : Reach → ℕ
reaches (Closes n) = n
reaches (Pauses n) = n
reaches Ends = 0

-- a string token by its quotes
abbrev pub found_string : StringDelimiter → TokenKind
found_string quote.Backtick = kind.Backtick
found_string quote.QuoteDouble = kind.StringToken
found_string quote.QuoteSingle = kind.StringToken

abbrev pub unterminated : StringDelimiter → Layout
unterminated quote.Backtick = UnterminatedBacktick
unterminated quote.QuoteDouble = UnterminatedString
unterminated quote.QuoteSingle = UnterminatedString

-- quoted strings can be format strings
abbrev pub formatting : StringDelimiter → Bool
formatting quote.Backtick = false
formatting quote.QuoteDouble = true
formatting quote.QuoteSingle = true

-- a string from its opening delimiter, of n bytes, on
abbrev pub opened : StringKind → ℕ → Reach → Found
opened k n (Closes m) = Lexed (found_string k.delimiter) (n + m)
opened k n (Pauses m) = Lexed kind.FormatStringStart (n + m)
opened k n Ends = Fails (unterminated k.delimiter) 0 n

abbrev pub string_of : StringKind → (format : Bool) → List ℕ → Found
string_of k format s = opened k (length (delimiter_of k)) (reach k format (drop (length (delimiter_of k)) s))

-- a quote: a format string if the token just before is the identifier f
abbrev pub quotation : StringDelimiter → (formats : Bool) → List ℕ → Found
quotation q formats s = string_of (kind_of q s) (formatting q && formats) s

-- a format string from the }} of its interpolation on
abbrev pub resumed : StringKind → Reach → Found
resumed k (Closes m) = Lexed kind.FormatStringEnd (2 + m)
resumed k (Pauses m) = Lexed kind.FormatStringContinue (2 + m)
resumed k Ends = Fails (unterminated k.delimiter) 0 2

abbrev pub continuation : StringKind → List ℕ → Found
continuation k s = resumed k (reach k true (drop 2 s))
