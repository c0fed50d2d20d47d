-- Unindenting.
use Rattle.std.specs.Prelude.{ℕ, ◌-◌, Bool, true, false, cond, ◌&&◌, ◌||◌, List, [], ◌∷◌, length, take, drop, Some, None, Option, ◌==◌, nat_eq, nat_le, slice_index}
use Rattle.std.specs.List.{common_prefix_len, flat_map, prefix_len}
use Rattle.scan.specs.Classes.{gap, white}

abbrev pub grows : ℕ → List (List ℕ) → List (List ℕ)
grows b [] = (b ∷ []) ∷ []
grows b (l ∷ ls) = (b ∷ l) ∷ ls

-- a text is split behind each line feed, with no empty line at the end
abbrev pub lines : List ℕ → List (List ℕ)
lines [] = []
lines (b ∷ bs) = cond (b == 10) ((b ∷ []) ∷ lines bs) (grows b (lines bs))

-- a line of spaces, tabs, carriage returns and line feeds alone
abbrev pub blank : List ℕ → Bool
blank l = prefix_len white l == length l

-- the leading run of spaces and tabs
abbrev pub indent : List ℕ → List ℕ
indent l = take (prefix_len gap l) l

-- the longest common beginning of two runs
abbrev pub meet : List ℕ → List ℕ → List ℕ
meet v w = take (common_prefix_len nat_eq v w) v

abbrev pub met : Option (List ℕ) → List ℕ → List ℕ
met None w = w
met (Some v) w = meet v w

-- a line that is not blank has its run taken in
abbrev pub shares : Option (List ℕ) → List ℕ → Option (List ℕ)
shares o l = cond (blank l) o (Some (met o (indent l)))

abbrev pub or_none : Option (List ℕ) → List ℕ
or_none None = []
or_none (Some v) = v

abbrev pub shared_from : Option (List ℕ) → List (List ℕ) → List ℕ
shared_from o [] = or_none o
shared_from o (l ∷ ls) = shared_from (shares o l) ls

-- the longest common beginning of the leading runs of all lines that are not blank
abbrev pub indentation : List (List ℕ) → List ℕ
indentation ls = shared_from None ls

-- the line's last two bytes are a carriage return and a line feed
abbrev pub ends_with_crlf : List ℕ → Bool
ends_with_crlf l = nat_le 2 (length l) && (slice_index l (length l - 2) == 13 && slice_index l (length l - 1) == 10)

-- what becomes of a line: n bytes are removed from its front; a blank one vanishes at either end, and else keeps its line end alone
abbrev pub piece : (first last : Bool) → ℕ → List ℕ → List ℕ
piece first last n l = cond (blank l) (cond (first || last) [] (cond (ends_with_crlf l) (13 ∷ 10 ∷ []) (10 ∷ []))) (drop n l)

abbrev pub none : List (List ℕ) → Bool
none [] = true
none (l ∷ ls) = false

abbrev pub pieces : Bool → ℕ → List (List ℕ) → List (List ℕ)
pieces first n [] = []
pieces first n (l ∷ ls) = piece first (none ls) n l ∷ pieces false n ls

abbrev pub unindented : List ℕ → List ℕ
unindented bs = flat_map (λ p. p) (pieces true (length (indentation (lines bs))) (lines bs))

-- every line that is not blank has n spaces and tabs to lose
abbrev pub roomy : ℕ → List ℕ → Bool
roomy n l = blank l || nat_le n (prefix_len gap l)

abbrev pub all_roomy : ℕ → List (List ℕ) → Bool
all_roomy n [] = true
all_roomy n (l ∷ ls) = roomy n l && all_roomy n ls

-- nothing is to be lost where no indentation is removed
abbrev pub all_roomy_for : Option ℕ → List (List ℕ) → Bool
all_roomy_for None ls = true
all_roomy_for (Some n) ls = all_roomy n ls
