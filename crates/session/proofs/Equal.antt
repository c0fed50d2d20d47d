-- The first bytes of a row, so many or all, equal another row where each begins with the other.
use Rattle.std.proofs.Common.{◌≡◌, ℕ, eqb, List, length, take, min, ap, ◌∙◌}
use Rattle.std.specs.Cmp.Lexicographic.{pointwise}
use Rattle.std.proofs.lemmas.List.{take_min}
use Rattle.rules.specs.Lines.{same}
use Rattle.lines.proofs.Runs.{same_pointwise}

pub front_same : (n : ℕ) (s p : List ℕ) → pointwise eqb (take (min n (length s)) s) p ≡ same (take n s) p
front_same n s p = same_pointwise (take (min n (length s)) s) p ∙ ap (λ r. same r p) (take_min n s)
