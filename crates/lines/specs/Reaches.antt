-- What one blank-line scan tells of all places in the white space.
use Rattle.std.specs.Prelude.{ℕ, zero, suc, Bool, true, false, not, ◌&&◌, List, [], ◌∷◌}
use Rattle.std.specs.List.{prefix_len}
use Rattle.scan.specs.Classes.{white}
use Rattle.rules.specs.Lines.{outdents}
use Rattle.lines.specs.declared.reached.Reach.{Reach}

abbrev pub reach_of : List ℕ → Reach
reach_of s = record { length = prefix_len white s; outdents = outdents false s }

abbrev pub agrees : Bool → Bool → Bool
agrees true b = b
agrees false b = not b

-- from each of the first bytes on, the scan gives the same answer
abbrev pub settled : (answer : Bool) → ℕ → List ℕ → Bool
settled answer zero s = true
settled answer (suc k) [] = false
settled answer (suc k) (c ∷ s) = agrees answer (outdents false (c ∷ s)) && settled answer k s
