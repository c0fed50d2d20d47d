-- What stands where a rule of the table is picked.
use Rattle.std.specs.Prelude.{ℕ, Bool, true, false, not, List, [], ◌∷◌}
use Rattle.scan.specs.Classes.{gap}
use Rattle.scan.specs.Prefix.{begins}
use Rattle.token.specs.Strings.{quote_byte}
use Rattle.rules.specs.declared.parts.Rule.{Rule}
use Rattle.rules.specs.declared.parts.Rule.TheVariants as by
use Rattle.rules.specs.Scans.{empty}
use Rattle.rules.specs.Table.{letter, mark}

abbrev pub first_is : (ℕ → Bool) → List ℕ → Bool
first_is p [] = false
first_is p (c ∷ s) = p c

abbrev pub admits : Rule → List ℕ → Bool
admits by.Blank s = first_is gap s
admits by.Comment s = begins (35 ∷ []) s
admits (by.Single k) s = not (empty s)
admits by.ByteOrderMark s = begins mark s
admits by.Bang s = not (empty s)
admits by.Plus s = not (empty s)
admits by.Equals s = not (empty s)
admits by.Colon s = not (empty s)
admits (by.Twice c k) s = not (empty s)
admits (by.Closing d k) s = not (empty s)
admits by.Brace s = not (empty s)
admits by.LineEnd s = not (empty s)
admits by.Escape s = begins (92 ∷ []) s
admits (by.Quote q) s = begins (quote_byte q ∷ []) s
admits by.Name s = first_is letter s
admits by.Unknown s = true
