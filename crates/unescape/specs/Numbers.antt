-- The numbers of the escape faults.
use Rattle.std.specs.Prelude.{ℕ}
use Rattle.unescape.specs.declared.record.Escape.{Escape}
use Rattle.unescape.specs.declared.record.Escape.TheVariants.{InvalidEscapeSequence, UnicodeEscapeDelimiter, UnicodeEscapeEmpty, UnicodeEscapeLength, UnicodeEscapeRange, UnicodeEscapeCharacter, UnicodeEscapeUnterminated}

abbrev pub escape_number : Escape → ℕ
escape_number InvalidEscapeSequence = 17
escape_number UnicodeEscapeDelimiter = 23
escape_number UnicodeEscapeEmpty = 24
escape_number UnicodeEscapeLength = 25
escape_number UnicodeEscapeRange = 26
escape_number UnicodeEscapeCharacter = 27
escape_number UnicodeEscapeUnterminated = 28
