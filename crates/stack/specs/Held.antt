-- What a stack holds.
use Rattle.std.specs.Prelude.{ℕ, zero, suc, Bool, List, [], ◌∷◌, reverse, length, take, Some, None, Option, nat_lt}
use Rattle.stack.specs.declared.record.Stack.{Stack}

-- the entries, oldest first
abbrev pub held : {T : Type 0} → Stack T → List T
held s = take s.count s.slots.now

-- the entries, newest first
abbrev pub stacked : {T : Type 0} → Stack T → List T
stacked s = reverse (held s)

-- how many entries the table can hold
abbrev pub room : {T : Type 0} → Stack T → ℕ
room s = length s.slots.now

-- whether one more entry fits
abbrev pub fits : {T : Type 0} → Stack T → Bool
fits s = nat_lt (length (stacked s)) (room s)

-- the first of a list, if any
abbrev pub first : {T : Type 0} → List T → Option T
first [] = None
first (x ∷ xs) = Some x

-- all behind the first of a list
abbrev pub behind : {T : Type 0} → List T → List T
behind [] = []
behind (x ∷ xs) = xs

-- the one at a place, counted from 0, if any
abbrev pub at : {T : Type 0} → List T → ℕ → Option T
at [] i = None
at (x ∷ xs) zero = Some x
at (x ∷ xs) (suc i) = at xs i
