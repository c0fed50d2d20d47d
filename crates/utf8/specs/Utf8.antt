-- UTF-8 as RFC 3629, section 4, writes it: a text is a row of characters, and a character is one of nine rows of bytes.
use Rattle.std.specs.Prelude.{ℕ, zero, suc, pred, ◌-◌, Bool, true, false, cond, not, ◌&&◌, List, [], ◌∷◌, length, take, is_some, Some, None, Option, ◌==◌, nat_le}
use Rattle.std.specs.Int.Count.{count_leading_zeros}

-- the byte values from one to another, both included
infixl 20 ◌to◌
pub data Range : Type 0 where
  ◌to◌ : ℕ → ℕ → Range

abbrev pub inside : Range → ℕ → Bool
inside (low to high) b = nat_le low b && nat_le b high

-- UTF8-tail
abbrev pub tail : Range
tail = 0x80 to 0xBF

-- UTF8-1
abbrev pub utf8_1 : List Range
utf8_1 = (0x00 to 0x7F) ∷ []

-- UTF8-2
abbrev pub utf8_2 : List Range
utf8_2 = (0xC2 to 0xDF) ∷ tail ∷ []

-- UTF8-3, its four rows
abbrev pub utf8_3a : List Range
utf8_3a = (0xE0 to 0xE0) ∷ (0xA0 to 0xBF) ∷ tail ∷ []

abbrev pub utf8_3b : List Range
utf8_3b = (0xE1 to 0xEC) ∷ tail ∷ tail ∷ []

abbrev pub utf8_3c : List Range
utf8_3c = (0xED to 0xED) ∷ (0x80 to 0x9F) ∷ tail ∷ []

abbrev pub utf8_3d : List Range
utf8_3d = (0xEE to 0xEF) ∷ tail ∷ tail ∷ []

-- UTF8-4, its three rows
abbrev pub utf8_4a : List Range
utf8_4a = (0xF0 to 0xF0) ∷ (0x90 to 0xBF) ∷ tail ∷ tail ∷ []

abbrev pub utf8_4b : List Range
utf8_4b = (0xF1 to 0xF3) ∷ tail ∷ tail ∷ tail ∷ []

abbrev pub utf8_4c : List Range
utf8_4c = (0xF4 to 0xF4) ∷ (0x80 to 0x8F) ∷ tail ∷ tail ∷ []

abbrev pub rows : List (List Range)
rows = utf8_1 ∷ utf8_2 ∷ utf8_3a ∷ utf8_3b ∷ utf8_3c ∷ utf8_3d ∷ utf8_4a ∷ utf8_4b ∷ utf8_4c ∷ []

-- the bytes begin with one of each range, in order
abbrev pub begins : List Range → List ℕ → Bool
begins [] bs = true
begins (r ∷ rs) [] = false
begins (r ∷ rs) (b ∷ bs) = inside r b && begins rs bs

-- how many bytes the row has that the bytes begin with; 0 where they begin with none
abbrev pub among : List (List Range) → List ℕ → ℕ
among [] bs = 0
among (r ∷ rs) bs = cond (begins r bs) (length r) (among rs bs)

-- how many bytes the character has that the bytes begin with; 0 where they begin with none
unfoldable pub character : List ℕ → ℕ
character bs = among rows bs

-- a length, if there is one: 0 tells that there is none
abbrev pub counted : ℕ → Option ℕ
counted zero = None
counted (suc n) = Some (suc n)

-- the place of the first byte at which a character should begin and none does: `at` is the place of the bytes, `owed` of which are still of a character that began before
abbrev pub bad_from : (at owed : ℕ) → List ℕ → Option ℕ
bad_from at owed [] = None
bad_from at (suc owed) (b ∷ bs) = bad_from (suc at) owed bs
bad_from at zero (b ∷ bs) = cond (character (b ∷ bs) == 0) (Some at) (bad_from (suc at) (pred (character (b ∷ bs))) bs)

abbrev pub first_bad_offset : List ℕ → Option ℕ
first_bad_offset bs = bad_from 0 0 bs

-- the bytes are whole characters
unfoldable pub well_formed : List ℕ → Bool
well_formed bs = not (is_some (first_bad_offset bs))

-- a place between two characters, or at an end: what stands before it are whole characters
unfoldable pub bound : List ℕ → ℕ → Bool
bound bs i = nat_le i (length bs) && well_formed (take i bs)

-- how many one bits a byte shows before the first zero bit
abbrev pub leading_ones : ℕ → ℕ
leading_ones b = count_leading_zeros 8 (255 - b)

-- the length that a character's first byte shows: one, or as many as it has leading one bits
abbrev pub shown_length : ℕ → ℕ
shown_length b = cond (leading_ones b == 0) 1 (leading_ones b)
