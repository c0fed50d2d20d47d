-- A value of so many hexadecimal digits, at most six.
use Rattle.std.specs.Prelude.{◌^◌, Bool, true, ◌&&◌, nat_le, nat_lt}
use Rattle.unescape.specs.declared.record.State.{State}
use Rattle.unescape.specs.declared.record.State.TheVariants.{Raw, Initial, Backslash, BackslashCarriageReturn, Unicode, UnicodeValue}

abbrev pub sane : State → Bool
sane Raw = true
sane Initial = true
sane Backslash = true
sane BackslashCarriageReturn = true
sane Unicode = true
sane (UnicodeValue value digits) = nat_le digits 6 && nat_lt value (16 ^ digits)
