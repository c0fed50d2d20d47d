-- Token kinds, told apart by their place in the list of kinds.
use Rattle.std.specs.Prelude.{ℕ, Bool, ◌==◌}
use Rattle.token.specs.declared.kinds.TokenKind.{TokenKind}
use Rattle.token.specs.declared.kinds.TokenKind.TheVariants as kind

abbrev pub ordinal : TokenKind → ℕ
ordinal kind.AmpersandAmpersand = 0
ordinal kind.Asterisk = 1
ordinal kind.At = 2
ordinal kind.Backtick = 3
ordinal kind.Bang = 4
ordinal kind.BangEquals = 5
ordinal kind.BangTilde = 6
ordinal kind.BarBar = 7
ordinal kind.BraceL = 8
ordinal kind.BraceR = 9
ordinal kind.BracketL = 10
ordinal kind.BracketR = 11
ordinal kind.ByteOrderMark = 12
ordinal kind.Colon = 13
ordinal kind.ColonColon = 14
ordinal kind.ColonEquals = 15
ordinal kind.Comma = 16
ordinal kind.Comment = 17
ordinal kind.Dedent = 18
ordinal kind.Dollar = 19
ordinal kind.Eof = 20
ordinal kind.Eol = 21
ordinal kind.Equals = 22
ordinal kind.EqualsEquals = 23
ordinal kind.EqualsTilde = 24
ordinal kind.FormatStringContinue = 25
ordinal kind.FormatStringEnd = 26
ordinal kind.FormatStringStart = 27
ordinal kind.Identifier = 28
ordinal kind.Indent = 29
ordinal kind.InterpolationEnd = 30
ordinal kind.InterpolationStart = 31
ordinal kind.ParenL = 32
ordinal kind.ParenR = 33
ordinal kind.Plus = 34
ordinal kind.PlusPlus = 35
ordinal kind.QuestionMark = 36
ordinal kind.Slash = 37
ordinal kind.StringToken = 38
ordinal kind.Text = 39
ordinal kind.Whitespace = 40

abbrev pub same_kind : TokenKind → TokenKind → Bool
same_kind a b = ordinal a == ordinal b
