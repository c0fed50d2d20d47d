-- Classes of bytes.
use Rattle.std.specs.Prelude.{ℕ, Bool, not, ◌||◌, ◌==◌}

-- space and tab
abbrev pub gap : ℕ → Bool
gap b = b == 32 || b == 9

-- space, tab, carriage return and line feed
abbrev pub white : ℕ → Bool
white b = gap b || (b == 13 || b == 10)

-- all but the line feed
abbrev pub in_line : ℕ → Bool
in_line b = not (b == 10)
