-- The general table: the first character picks a rule.
use Rattle.std.specs.Prelude.{ℕ, ◌+◌, Bool, false, cond, ◌&&◌, ◌||◌, List, [], ◌∷◌, drop, is_some, Some, None, Option, ◌==◌, nat_le, nat_lt}
use Rattle.std.specs.List.{prefix_len}
use Rattle.scan.specs.Classes.{gap}
use Rattle.scan.specs.Prefix.{begins}
use Rattle.token.specs.declared.kinds.Delimiter.{Delimiter}
use Rattle.token.specs.declared.kinds.Delimiter.TheVariants as delimiter
use Rattle.token.specs.declared.kinds.StringDelimiter.TheVariants as quote
use Rattle.token.specs.declared.kinds.StringKind.{StringKind}
use Rattle.token.specs.declared.kinds.TokenKind.{TokenKind}
use Rattle.token.specs.declared.kinds.TokenKind.TheVariants as kind
use Rattle.rules.specs.declared.found.Around.{Around}
use Rattle.rules.specs.Found.{Found, Lexed, Fails}
use Rattle.rules.specs.declared.found.Layout.TheVariants as layout
use Rattle.rules.specs.declared.parts.Rule.{Rule}
use Rattle.rules.specs.declared.parts.Rule.TheVariants as by
use Rattle.rules.specs.Scans.{closing as closing_braces, crlf, lf, over_comment, scan, width}
use Rattle.rules.specs.Strings.{continuation, quotation}

infixl 80 ◌picks◌
pub data Row : Type 0 where
  ◌picks◌ : ℕ → Rule → Row

abbrev pub table : List Row
table =
    32 picks by.Blank ∷  -- space
    9 picks by.Blank ∷  -- tab
    35 picks by.Comment ∷  -- #
    36 picks by.Single kind.Dollar ∷  -- $
    42 picks by.Single kind.Asterisk ∷  -- *
    44 picks by.Single kind.Comma ∷  -- ,
    47 picks by.Single kind.Slash ∷  -- /
    63 picks by.Single kind.QuestionMark ∷  -- ?
    64 picks by.Single kind.At ∷  -- @
    33 picks by.Bang ∷  -- !
    43 picks by.Plus ∷  -- +
    61 picks by.Equals ∷  -- =
    58 picks by.Colon ∷  -- :
    38 picks by.Twice 38 kind.AmpersandAmpersand ∷  -- &
    124 picks by.Twice 124 kind.BarBar ∷  -- |
    40 picks by.Single kind.ParenL ∷  -- (
    91 picks by.Single kind.BracketL ∷  -- [
    123 picks by.Single kind.BraceL ∷  -- {
    41 picks by.Closing delimiter.Paren kind.ParenR ∷  -- )
    93 picks by.Closing delimiter.Bracket kind.BracketR ∷  -- ]
    125 picks by.Brace ∷  -- }
    10 picks by.LineEnd ∷  -- LF
    13 picks by.LineEnd ∷  -- CR
    92 picks by.Escape ∷  -- \
    96 picks by.Quote quote.Backtick ∷  -- `
    34 picks by.Quote quote.QuoteDouble ∷  -- "
    39 picks by.Quote quote.QuoteSingle ∷  -- '
    65279 picks by.ByteOrderMark ∷  -- U+FEFF
    []

-- identifiers begin with an ASCII letter or _, and go on with these, digits and -
abbrev pub letter : ℕ → Bool
letter c = (nat_le 97 c && nat_le c 122) || ((nat_le 65 c && nat_le c 90) || c == 95)

abbrev pub name_byte : ℕ → Bool
name_byte c = letter c || ((nat_le 48 c && nat_le c 57) || c == 45)

abbrev pub lookup : List Row → ℕ → Rule
lookup [] c = cond (letter c) by.Name by.Unknown
lookup ((d picks r) ∷ rows) c = cond (c == d) r (lookup rows c)

abbrev pub pick : ℕ → Rule
pick c = lookup table c

-- the bytes of U+FEFF
abbrev pub mark : List ℕ
mark = 0xEF ∷ 0xBB ∷ 0xBF ∷ []

-- the first character as far as the table tells: an ASCII one, U+FEFF, or U+FFFD for any other
abbrev pub first_of : List ℕ → ℕ
first_of [] = 0xFFFD
first_of (c ∷ s) = cond (nat_lt c 128) c (cond (begins mark (c ∷ s)) 0xFEFF 0xFFFD)

-- an opener or a mark is open
abbrev pub nested : Around → Bool
nested o = is_some o.newest || o.marked

-- a token, or a longer one if it fits
abbrev pub or_longer : List ℕ → TokenKind → Found → List ℕ → Found
or_longer p k f s = cond (begins p s) (Lexed k 2) f

abbrev pub bang : List ℕ → Found
bang s = or_longer (33 ∷ 61 ∷ []) kind.BangEquals (or_longer (33 ∷ 126 ∷ []) kind.BangTilde (Lexed kind.Bang 1) s) s

abbrev pub plus : List ℕ → Found
plus s = or_longer (43 ∷ 43 ∷ []) kind.PlusPlus (Lexed kind.Plus 1) s

abbrev pub equals : List ℕ → Found
equals s = or_longer (61 ∷ 61 ∷ []) kind.EqualsEquals (or_longer (61 ∷ 126 ∷ []) kind.EqualsTilde (Lexed kind.Equals 1) s) s

abbrev pub colon : List ℕ → Found
colon s = or_longer (58 ∷ 61 ∷ []) kind.ColonEquals (or_longer (58 ∷ 58 ∷ []) kind.ColonColon (Lexed kind.Colon 1) s) s

-- what stands where the second of two characters is missing
abbrev pub missing : List ℕ → Found
missing [] = Fails layout.UnexpectedEndOfToken 1 0
missing (c ∷ s) = Fails layout.UnexpectedCharacter 1 (width (c ∷ s))

abbrev pub twice : ℕ → TokenKind → List ℕ → Found
twice c k s = or_longer (c ∷ c ∷ []) k (missing (drop 1 s)) s

-- delimiters of one shape close one another
abbrev pub shape : Delimiter → ℕ
shape delimiter.Brace = 0
shape delimiter.Bracket = 1
shape delimiter.Paren = 2
shape (delimiter.FormatString k) = 3

abbrev pub closing : Delimiter → TokenKind → Option Delimiter → Found
closing d k None = Fails layout.UnexpectedClosingDelimiter 0 0
closing d k (Some newest) = cond (shape newest == shape d) (Lexed k 1) (Fails layout.MismatchedClosingDelimiter 0 0)

-- the kind of the format string whose interpolation is open
abbrev pub format_in : Delimiter → Option StringKind
format_in delimiter.Brace = None
format_in delimiter.Bracket = None
format_in delimiter.Paren = None
format_in (delimiter.FormatString k) = Some k

abbrev pub format_of : Option Delimiter → Option StringKind
format_of None = None
format_of (Some d) = format_in d

-- }} goes on with the format string whose interpolation is the newest opener
abbrev pub continuing : Option StringKind → Option Delimiter → List ℕ → Found
continuing None newest s = closing delimiter.Brace kind.BraceR newest
continuing (Some k) newest s = continuation k s

abbrev pub brace : Option Delimiter → List ℕ → Found
brace newest s = cond (begins closing_braces s) (continuing (format_of newest) newest s) (closing delimiter.Brace kind.BraceR newest)

-- a line end separates, but not inside of what is open
abbrev pub separator : Around → TokenKind
separator o = cond (nested o) kind.Whitespace kind.Eol

abbrev pub found_line_end : Around → List ℕ → Found
found_line_end o s = cond (begins lf s) (Lexed (separator o) 1) (cond (begins crlf s) (Lexed (separator o) 2) (Fails layout.UnpairedCarriageReturn 0 1))

-- a backslash that no line end follows
abbrev pub stray : List ℕ → Found
stray [] = Fails layout.EscapeEndOfFile 0 1
stray (c ∷ s) = Fails layout.InvalidEscapeSequence 0 1

-- a folded line end, of n bytes with its backslash, and the blanks behind it
abbrev pub folded : ℕ → List ℕ → Found
folded n s = Lexed kind.Whitespace (n + prefix_len gap (drop n s))

abbrev pub escape : List ℕ → Found
escape s =
    cond (begins (92 ∷ 10 ∷ []) s) (folded 2 s)
    (cond (begins (92 ∷ 13 ∷ 10 ∷ []) s) (folded 3 s)
    (cond (begins (92 ∷ 13 ∷ []) s) (Fails layout.UnpairedCarriageReturn 0 2)
    (stray (drop 1 s))))

abbrev pub found_by_rule : Rule → Around → List ℕ → Found
found_by_rule by.Blank o s = Lexed kind.Whitespace (prefix_len gap s)
found_by_rule by.Comment o s = Lexed kind.Comment (scan over_comment 0 false s)
found_by_rule (by.Single k) o s = Lexed k 1
found_by_rule by.ByteOrderMark o s = Lexed kind.ByteOrderMark 3
found_by_rule by.Bang o s = bang s
found_by_rule by.Plus o s = plus s
found_by_rule by.Equals o s = equals s
found_by_rule by.Colon o s = colon s
found_by_rule (by.Twice c k) o s = twice c k s
found_by_rule (by.Closing d k) o s = closing d k o.newest
found_by_rule by.Brace o s = brace o.newest s
found_by_rule by.LineEnd o s = found_line_end o s
found_by_rule by.Escape o s = escape s
found_by_rule (by.Quote q) o s = quotation q o.formats s
found_by_rule by.Name o s = Lexed kind.Identifier (prefix_len name_byte s)
found_by_rule by.Unknown o s = Fails layout.UnknownStartOfToken 0 (width s)

abbrev pub general : Around → List ℕ → Found
general o s = found_by_rule (pick (first_of s)) o s
