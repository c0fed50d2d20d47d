-- What each kind of token does once it is handed out.
use Rattle.token.specs.declared.kinds.Delimiter.TheVariants as delimiter
use Rattle.token.specs.declared.kinds.TokenKind.{TokenKind}
use Rattle.token.specs.declared.kinds.TokenKind.TheVariants as kind
use Rattle.rules.specs.declared.parts.Change.TheVariants as change
use Rattle.rules.specs.declared.parts.Effect.{Effect}
use Rattle.rules.specs.declared.parts.Effect.TheVariants.{Indents, Dedents, Texts, Ends, Other}

abbrev pub effect_of : TokenKind → Effect
effect_of kind.AmpersandAmpersand = Other change.Nothing
effect_of kind.Asterisk = Other change.Nothing
effect_of kind.At = Other change.Nothing
effect_of kind.Backtick = Other change.Nothing
effect_of kind.Bang = Other change.Nothing
effect_of kind.BangEquals = Other change.Nothing
effect_of kind.BangTilde = Other change.Nothing
effect_of kind.BarBar = Other change.Nothing
effect_of kind.BraceL = Other (change.Opens delimiter.Brace)
effect_of kind.BraceR = Other (change.Closes delimiter.Brace)
effect_of kind.BracketL = Other (change.Opens delimiter.Bracket)
effect_of kind.BracketR = Other (change.Closes delimiter.Bracket)
effect_of kind.ByteOrderMark = Other change.Nothing
effect_of kind.Colon = Other change.SeesColon
effect_of kind.ColonColon = Other change.Nothing
effect_of kind.ColonEquals = Other change.Nothing
effect_of kind.Comma = Other change.Nothing
effect_of kind.Comment = Other change.Nothing
effect_of kind.Dedent = Dedents
effect_of kind.Dollar = Other change.Nothing
effect_of kind.Eof = Ends
effect_of kind.Eol = Other change.Nothing
effect_of kind.Equals = Other change.Nothing
effect_of kind.EqualsEquals = Other change.Nothing
effect_of kind.EqualsTilde = Other change.Nothing
effect_of kind.FormatStringContinue = Other change.Nothing
effect_of kind.FormatStringEnd = Other change.EndsFormat
effect_of kind.FormatStringStart = Other change.BeginsFormat
effect_of kind.Identifier = Other change.Names
effect_of kind.Indent = Indents
effect_of kind.InterpolationEnd = Other change.Unmarks
effect_of kind.InterpolationStart = Other change.Marks
effect_of kind.ParenL = Other (change.Opens delimiter.Paren)
effect_of kind.ParenR = Other (change.Closes delimiter.Paren)
effect_of kind.Plus = Other change.Nothing
effect_of kind.PlusPlus = Other change.Nothing
effect_of kind.QuestionMark = Other change.Nothing
effect_of kind.Slash = Other change.Nothing
effect_of kind.StringToken = Other change.Nothing
effect_of kind.Text = Texts
effect_of kind.Whitespace = Other change.Nothing
