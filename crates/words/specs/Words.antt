-- The bytes that a word stands for.
use Rattle.std.specs.Prelude.{ℕ, ◌^◌, ◌<◌, cond, List, length, replicate, codes, ◌==◌, nat_lt}
use Rattle.std.specs.List.{after_first, before_first, position_or_len}
use Rattle.std.specs.Str.Parse.{IsNumeral, digits_value, without_leading_plus}

-- the byte, before the first star or alone
abbrev pub byte_part : List ℕ → List ℕ
byte_part word = before_first (λ b. b == 42) word

-- how many there are, behind the first star, or one
abbrev pub count_part : List ℕ → List ℕ
count_part word = cond (nat_lt (position_or_len (λ b. b == 42) word) (length word)) (after_first (λ b. b == 42) word) (codes "1")

-- the number that is written, a plus before it or none
abbrev pub value_of : (radix : ℕ) → List ℕ → ℕ
value_of radix text = digits_value radix (without_leading_plus text)

-- so many of the byte: it is written in hexadecimal, the count in decimal
abbrev pub bytes_of : List ℕ → List ℕ
bytes_of word = replicate (value_of 10 (count_part word)) (value_of 16 (byte_part word))

-- digits, and nothing else, of a number of so many bits
abbrev pub IsNumber : (bits radix : ℕ) → List ℕ → Type 0
IsNumber bits radix text = IsNumeral radix (without_leading_plus text) × (value_of radix text < 2 ^ bits)

-- both parts are numbers
abbrev pub IsWord : List ℕ → Type 0
IsWord word = IsNumber 8 16 (byte_part word) × IsNumber 32 10 (count_part word)
