-- The number of each cause.
use Rattle.std.specs.Prelude.{ℕ}
use Rattle.token.specs.declared.fault.Cause.{Cause}
use Rattle.token.specs.declared.fault.Cause.TheVariants as cause

abbrev pub number_of : Cause → ℕ
number_of cause.TextTooLong = 1
number_of cause.InvalidUtf8 = 2
number_of cause.LevelsFull = 3
number_of cause.OpenersFull = 4
number_of cause.BufferTooShort = 5
number_of cause.TokenOutsideText = 6
number_of cause.NoStringLiteral = 7
number_of cause.SourceEnded = 8
number_of cause.NoStringToken = 9
number_of cause.MixedLeadingWhitespace = 10
number_of cause.InconsistentLeadingWhitespace = 11
number_of cause.UnknownStartOfToken = 12
number_of cause.UnexpectedCharacter = 13
number_of cause.UnexpectedEndOfToken = 14
number_of cause.MismatchedClosingDelimiter = 15
number_of cause.UnexpectedClosingDelimiter = 16
number_of cause.InvalidEscapeSequence = 17
number_of cause.EscapeEndOfFile = 18
number_of cause.UnpairedCarriageReturn = 19
number_of cause.UnterminatedString = 20
number_of cause.UnterminatedBacktick = 21
number_of cause.UnterminatedInterpolation = 22
number_of cause.UnicodeEscapeDelimiter = 23
number_of cause.UnicodeEscapeEmpty = 24
number_of cause.UnicodeEscapeLength = 25
number_of cause.UnicodeEscapeRange = 26
number_of cause.UnicodeEscapeCharacter = 27
number_of cause.UnicodeEscapeUnterminated = 28
