-- The tests on kinds and causes decide whether they are equal: for callers of `!=`, and of code over every type with `==`.
use Rattle.std.proofs.Common.{rules, ◌≡◌, ◌==◌, List, [], ◌∷◌, get_or, Decides, eq-eqb, sym, refl, ap, ◌∙◌}
use Rattle.std.proofs.lemmas.Bool.{eqb-true}
use Rattle.std.specs.Bool.{one_answer}
use Rattle.token.specs.contracts.fault.CausePartialEq.TheImpl as tests-causes
use Rattle.token.specs.contracts.kinds.TokenKindPartialEq.TheImpl as tests-kinds
use Rattle.token.specs.Causes.{number_of}
use Rattle.token.specs.Ordinals.{ordinal, same_kind}
use Rattle.token.specs.declared.fault.Cause.{Cause}
use Rattle.token.specs.declared.fault.Cause.TheVariants as cause
use Rattle.token.specs.declared.kinds.TokenKind.{TokenKind}
use Rattle.token.specs.declared.kinds.TokenKind.TheVariants as kind

abbrev kinds : List TokenKind
kinds =
    kind.AmpersandAmpersand ∷ kind.Asterisk ∷ kind.At ∷ kind.Backtick ∷ kind.Bang ∷ kind.BangEquals ∷
    kind.BangTilde ∷ kind.BarBar ∷ kind.BraceL ∷ kind.BraceR ∷ kind.BracketL ∷ kind.BracketR ∷
    kind.ByteOrderMark ∷ kind.Colon ∷ kind.ColonColon ∷ kind.ColonEquals ∷ kind.Comma ∷ kind.Comment ∷
    kind.Dedent ∷ kind.Dollar ∷ kind.Eof ∷ kind.Eol ∷ kind.Equals ∷ kind.EqualsEquals ∷
    kind.EqualsTilde ∷ kind.FormatStringContinue ∷ kind.FormatStringEnd ∷ kind.FormatStringStart ∷ kind.Identifier ∷ kind.Indent ∷
    kind.InterpolationEnd ∷ kind.InterpolationStart ∷ kind.ParenL ∷ kind.ParenR ∷ kind.Plus ∷ kind.PlusPlus ∷
    kind.QuestionMark ∷ kind.Slash ∷ kind.StringToken ∷ kind.Text ∷ kind.Whitespace ∷ []

kind_there : (k : TokenKind) → get_or kinds (ordinal k) kind.Eof ≡ k
kind_there kind.AmpersandAmpersand = refl
kind_there kind.Asterisk = refl
kind_there kind.At = refl
kind_there kind.Backtick = refl
kind_there kind.Bang = refl
kind_there kind.BangEquals = refl
kind_there kind.BangTilde = refl
kind_there kind.BarBar = refl
kind_there kind.BraceL = refl
kind_there kind.BraceR = refl
kind_there kind.BracketL = refl
kind_there kind.BracketR = refl
kind_there kind.ByteOrderMark = refl
kind_there kind.Colon = refl
kind_there kind.ColonColon = refl
kind_there kind.ColonEquals = refl
kind_there kind.Comma = refl
kind_there kind.Comment = refl
kind_there kind.Dedent = refl
kind_there kind.Dollar = refl
kind_there kind.Eof = refl
kind_there kind.Eol = refl
kind_there kind.Equals = refl
kind_there kind.EqualsEquals = refl
kind_there kind.EqualsTilde = refl
kind_there kind.FormatStringContinue = refl
kind_there kind.FormatStringEnd = refl
kind_there kind.FormatStringStart = refl
kind_there kind.Identifier = refl
kind_there kind.Indent = refl
kind_there kind.InterpolationEnd = refl
kind_there kind.InterpolationStart = refl
kind_there kind.ParenL = refl
kind_there kind.ParenR = refl
kind_there kind.Plus = refl
kind_there kind.PlusPlus = refl
kind_there kind.QuestionMark = refl
kind_there kind.Slash = refl
kind_there kind.StringToken = refl
kind_there kind.Text = refl
kind_there kind.Whitespace = refl

pub same_kind_Decides : (a b : TokenKind) → Decides (same_kind a b) (a ≡ b)
same_kind_Decides a b = (
  λ e. sym (kind_there a) ∙ ap (λ n. get_or kinds n kind.Eof) (eqb-true (ordinal a) (ordinal b) e) ∙ kind_there b,
  λ e. eq-eqb (ordinal a) (ordinal b) (ap ordinal e),
)

abbrev causes : List Cause
causes =
    cause.TextTooLong ∷
    cause.TextTooLong ∷ cause.InvalidUtf8 ∷ cause.LevelsFull ∷ cause.OpenersFull ∷ cause.BufferTooShort ∷ cause.TokenOutsideText ∷
    cause.NoStringLiteral ∷ cause.SourceEnded ∷ cause.NoStringToken ∷ cause.MixedLeadingWhitespace ∷ cause.InconsistentLeadingWhitespace ∷ cause.UnknownStartOfToken ∷
    cause.UnexpectedCharacter ∷ cause.UnexpectedEndOfToken ∷ cause.MismatchedClosingDelimiter ∷ cause.UnexpectedClosingDelimiter ∷ cause.InvalidEscapeSequence ∷ cause.EscapeEndOfFile ∷
    cause.UnpairedCarriageReturn ∷ cause.UnterminatedString ∷ cause.UnterminatedBacktick ∷ cause.UnterminatedInterpolation ∷ cause.UnicodeEscapeDelimiter ∷ cause.UnicodeEscapeEmpty ∷
    cause.UnicodeEscapeLength ∷ cause.UnicodeEscapeRange ∷ cause.UnicodeEscapeCharacter ∷ cause.UnicodeEscapeUnterminated ∷ []

cause_there : (c : Cause) → get_or causes (number_of c) cause.TextTooLong ≡ c
cause_there cause.TextTooLong = refl
cause_there cause.InvalidUtf8 = refl
cause_there cause.LevelsFull = refl
cause_there cause.OpenersFull = refl
cause_there cause.BufferTooShort = refl
cause_there cause.TokenOutsideText = refl
cause_there cause.NoStringLiteral = refl
cause_there cause.SourceEnded = refl
cause_there cause.NoStringToken = refl
cause_there cause.MixedLeadingWhitespace = refl
cause_there cause.InconsistentLeadingWhitespace = refl
cause_there cause.UnknownStartOfToken = refl
cause_there cause.UnexpectedCharacter = refl
cause_there cause.UnexpectedEndOfToken = refl
cause_there cause.MismatchedClosingDelimiter = refl
cause_there cause.UnexpectedClosingDelimiter = refl
cause_there cause.InvalidEscapeSequence = refl
cause_there cause.EscapeEndOfFile = refl
cause_there cause.UnpairedCarriageReturn = refl
cause_there cause.UnterminatedString = refl
cause_there cause.UnterminatedBacktick = refl
cause_there cause.UnterminatedInterpolation = refl
cause_there cause.UnicodeEscapeDelimiter = refl
cause_there cause.UnicodeEscapeEmpty = refl
cause_there cause.UnicodeEscapeLength = refl
cause_there cause.UnicodeEscapeRange = refl
cause_there cause.UnicodeEscapeCharacter = refl
cause_there cause.UnicodeEscapeUnterminated = refl

pub same_number_Decides : (a b : Cause) → Decides (number_of a == number_of b) (a ≡ b)
same_number_Decides a b = (
  λ e. sym (cause_there a) ∙ ap (λ n. get_or causes n cause.TextTooLong) (eqb-true (number_of a) (number_of b) e) ∙ cause_there b,
  λ e. eq-eqb (number_of a) (number_of b) (ap number_of e),
)

-- The derived tests answer as these do.
pub kinds_tested : (a b : TokenKind) → tests-kinds.ghosts.eq a b ≡ same_kind a b
kinds_tested a b = one_answer (tests-kinds.ghosts.eq a b) (same_kind a b) (search rules, search rules) (same_kind_Decides a b)

pub causes_tested : (a b : Cause) → tests-causes.ghosts.eq a b ≡ (number_of a == number_of b)
causes_tested a b = one_answer (tests-causes.ghosts.eq a b) (number_of a == number_of b) (search rules, search rules) (same_number_Decides a b)
