-- Scans over what lies ahead.
use Rattle.std.specs.Prelude.{ℕ, zero, suc, pred, Bool, true, false, cond, ◌||◌, List, [], ◌∷◌, Some}
use Rattle.scan.specs.Prefix.{begins}
use Rattle.utf8.specs.Utf8.{shown_length}
use Rattle.rules.specs.Found.{Move, Stop, Pass}

abbrev pub empty : List ℕ → Bool
empty [] = true
empty (c ∷ s) = false

-- LF, CR LF, {{, }} and {{{{
abbrev pub lf : List ℕ
lf = 10 ∷ []

abbrev pub crlf : List ℕ
crlf = 13 ∷ 10 ∷ []

abbrev pub opening : List ℕ
opening = 123 ∷ 123 ∷ []

abbrev pub closing : List ℕ
closing = 125 ∷ 125 ∷ []

abbrev pub doubled : List ℕ
doubled = 123 ∷ 123 ∷ 123 ∷ 123 ∷ []

-- a line end comes first
abbrev pub line_end : List ℕ → Bool
line_end s = begins lf s || begins crlf s

-- a line end comes first, or nothing does
abbrev pub is_line_over : List ℕ → Bool
is_line_over s = line_end s || empty s

-- how many bytes the first character has, by its first byte
abbrev pub width : List ℕ → ℕ
width [] = 0
width (c ∷ s) = shown_length c

-- a character is passed
abbrev pub character : List ℕ → Move
character s = Pass (pred (width s)) false

abbrev pub moves : (ℕ → Bool → ℕ) → Move → ℕ
moves onward Stop = 0
moves onward (Some p) = suc (onward p.more p.escaped)

-- how many bytes are passed, from a place where so many are owed to a move made before
abbrev pub scan : (Bool → List ℕ → Move) → (owed : ℕ) → (escaped : Bool) → List ℕ → ℕ
scan move owed escaped [] = 0
scan move (suc owed) escaped (c ∷ s) = suc (scan move owed escaped s)
scan move zero escaped (c ∷ s) = moves (λ more next. scan move more next s) (move escaped (c ∷ s))

-- a comment goes to the end of its line
abbrev pub over_comment : Bool → List ℕ → Move
over_comment escaped s = cond (line_end s) Stop (character s)

-- text goes to the end of its line or to {{, and {{{{ is text
abbrev pub over_text : Bool → List ℕ → Move
over_text escaped s = cond (begins doubled s) (Pass 3 false) (cond (line_end s || begins opening s) Stop (character s))
