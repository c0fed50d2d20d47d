-- The cause under which each fault of the layout is told.
use Rattle.token.specs.declared.fault.Cause.{Cause}
use Rattle.token.specs.declared.fault.Cause.TheVariants as cause
use Rattle.rules.specs.declared.found.Layout.{Layout}
use Rattle.rules.specs.declared.found.Layout.TheVariants as layout

-- the causes of the layout
abbrev pub cause_of_layout : Layout → Cause
cause_of_layout layout.MixedLeadingWhitespace = cause.MixedLeadingWhitespace
cause_of_layout layout.InconsistentLeadingWhitespace = cause.InconsistentLeadingWhitespace
cause_of_layout layout.UnknownStartOfToken = cause.UnknownStartOfToken
cause_of_layout layout.UnexpectedCharacter = cause.UnexpectedCharacter
cause_of_layout layout.UnexpectedEndOfToken = cause.UnexpectedEndOfToken
cause_of_layout layout.MismatchedClosingDelimiter = cause.MismatchedClosingDelimiter
cause_of_layout layout.UnexpectedClosingDelimiter = cause.UnexpectedClosingDelimiter
cause_of_layout layout.InvalidEscapeSequence = cause.InvalidEscapeSequence
cause_of_layout layout.EscapeEndOfFile = cause.EscapeEndOfFile
cause_of_layout layout.UnpairedCarriageReturn = cause.UnpairedCarriageReturn
cause_of_layout layout.UnterminatedString = cause.UnterminatedString
cause_of_layout layout.UnterminatedBacktick = cause.UnterminatedBacktick
