-- What the inside of a string ends.
use Rattle.std.proofs.Common.{◌≡◌, ℕ, refl}
use Rattle.token.specs.declared.kinds.StringKind.{StringKind}
use Rattle.token.specs.declared.kinds.TokenKind.TheVariants as kind
use Rattle.rules.specs.Strings.{found_string, opened}
use Rattle.rules.specs.declared.parts.Reach.{Reach}
use Rattle.rules.specs.declared.parts.Reach.TheVariants.{Closes, Pauses, Ends}
use Rattle.table.specs.Finds.{ended}

pub ended_opened : (k : StringKind) (n : ℕ) (r : Reach) → ended (found_string k.delimiter) kind.FormatStringStart k n r ≡ opened k n r
ended_opened k n (Closes m) = refl
ended_opened k n (Pauses m) = refl
ended_opened k n Ends = refl
