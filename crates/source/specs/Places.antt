-- Places: how offset, line and column go on as bytes are passed.
use Rattle.std.specs.Prelude.{ℕ, zero, suc, ◌+◌, Bool, true, false, cond, not, ◌&&◌, List, [], ◌∷◌, ◌==◌}
use Rattle.token.specs.declared.place.Position.{Position}

abbrev pub none : List ℕ → Bool
none [] = true
none (b ∷ bs) = false

-- the bytes ahead begin with a line feed that is not the text's last byte: passing it begins a new line
abbrev pub breaks : List ℕ → Bool
breaks [] = false
breaks (b ∷ bs) = b == 10 && not (none bs)

-- one byte is passed
abbrev pub past : Bool → Position → Position
past broken p =
    cond broken
    (record { offset = p.offset + 1; line = p.line + 1; column = 0 })
    (record { offset = p.offset + 1; line = p.line; column = p.column + 1 })

-- the first n of the bytes ahead are passed
abbrev pub walk : ℕ → List ℕ → Position → Position
walk zero bs p = p
walk (suc n) [] p = p
walk (suc n) (b ∷ bs) p = walk n bs (past (breaks (b ∷ bs)) p)

-- n bytes on, at the start of a new line where the text breaks there
abbrev pub behind : ℕ → Bool → Position → Position
behind n breaks p =
    cond breaks
    (record { offset = p.offset + n; line = p.line + 1; column = 0 })
    (record { offset = p.offset + n; line = p.line; column = p.column + n })
