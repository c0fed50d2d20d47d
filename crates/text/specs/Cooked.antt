-- What a string literal stands for.
use Rattle.std.specs.Prelude.{ℕ, Bool, cond, List, Ok, Result}
use Rattle.token.specs.Strings.{escapes_in}
use Rattle.token.specs.declared.kinds.StringKind.{StringKind}
use Rattle.unescape.specs.Escapes.{unescaped}
use Rattle.unescape.specs.declared.record.Escape.{Escape}
use Rattle.unindent.specs.Lines.{unindented}

-- strings with three quotes are unindented
abbrev pub flat : StringKind → List ℕ → List ℕ
flat k bs = cond k.indented (unindented bs) bs

-- unescaped, or as it stands
abbrev pub cooked_by : Bool → List ℕ → Result (List ℕ) Escape
cooked_by escapes bs = cond escapes (unescaped bs) (Ok bs)

-- strings in double quotes are unescaped, once they are unindented
abbrev pub cooked : StringKind → List ℕ → Result (List ℕ) Escape
cooked k bs = cooked_by (escapes_in k) (flat k bs)
