-- The first line of a text, by its length.
use Rattle.std.specs.Prelude.{ℕ, suc, cond, List, [], ◌∷◌, ◌==◌}

abbrev pub first_line_length : List ℕ → ℕ
first_line_length [] = 0
first_line_length (b ∷ bs) = cond (b == 10) 1 (suc (first_line_length bs))
