-- Bytes laid over others.
use Rattle.std.specs.Prelude.{ℕ, zero, suc, List, [], ◌∷◌}

-- bytes laid over others from a place on, as far as the others reach
abbrev pub laid : List ℕ → ℕ → List ℕ → List ℕ
laid [] at bs = []
laid (o ∷ out) (suc at) bs = o ∷ laid out at bs
laid (o ∷ out) zero [] = o ∷ out
laid (o ∷ out) zero (b ∷ bs) = b ∷ laid out zero bs
