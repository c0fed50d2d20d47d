-- Escape sequences: what a character does depends on the state it meets.
use Rattle.std.specs.Prelude.{ℕ, ◌+◌, ◌-◌, ◌*◌, Bool, cond, ◌&&◌, ◌||◌, List, [], ◌∷◌, ◌++◌, Some, None, Ok, Err, Option, Result, ◌==◌, nat_le}
use Rattle.std.proofs.Math.Utf8.{encode, scalar}
use Rattle.std.specs.Str.{chars}
use Rattle.unescape.specs.declared.record.Escape.{Escape}
use Rattle.unescape.specs.declared.record.Escape.TheVariants.{InvalidEscapeSequence, UnicodeEscapeDelimiter, UnicodeEscapeEmpty, UnicodeEscapeLength, UnicodeEscapeRange, UnicodeEscapeCharacter, UnicodeEscapeUnterminated}
use Rattle.unescape.specs.declared.record.State.{State}
use Rattle.unescape.specs.declared.record.State.TheVariants.{Raw, Initial, Backslash, BackslashCarriageReturn, Unicode, UnicodeValue}

-- the next state, and the character that is given, if any
pub record Move : Type 0 where
  pub state : State
  pub out : Option ℕ

abbrev pub gives : ℕ → Result Move Escape
gives c = Ok record { state = Initial; out = Some c }

abbrev pub goes : State → Result Move Escape
goes s = Ok record { state = s; out = None }

abbrev pub digit : ℕ → Bool
digit c = (nat_le 48 c && nat_le c 57) || ((nat_le 65 c && nat_le c 70) || (nat_le 97 c && nat_le c 102))

-- the value of a hexadecimal digit
abbrev pub digit_value : ℕ → ℕ
digit_value c = cond (nat_le c 57) (c - 48) (cond (nat_le c 70) (c - 55) (c - 87))

-- behind a backslash
abbrev pub escaped : ℕ → Result Move Escape
escaped c =
    cond (c == 110) (gives 10)  -- n
    (cond (c == 114) (gives 13)  -- r
    (cond (c == 116) (gives 9)  -- t
    (cond (c == 92) (gives 92)  -- backslash
    (cond (c == 34) (gives 34)  -- double quote
    (cond (c == 10) (goes Initial)  -- line feed
    (cond (c == 13) (goes BackslashCarriageReturn)  -- carriage return
    (cond (c == 117) (goes Unicode)  -- u
    (Err InvalidEscapeSequence))))))))

-- at the closing brace
abbrev pub closed : (value digits : ℕ) → Result Move Escape
closed value digits = cond (digits == 0) (Err UnicodeEscapeEmpty) (cond (scalar value) (gives value) (Err UnicodeEscapeRange))

-- a digit more
abbrev pub extended : (value digits c : ℕ) → Result Move Escape
extended value digits c = cond (nat_le 6 digits) (Err UnicodeEscapeLength) (goes (UnicodeValue (value * 16 + digit_value c) (digits + 1)))

-- a character between the braces that does not close them
abbrev pub widened : (value digits c : ℕ) → Result Move Escape
widened value digits c = cond (digit c) (extended value digits c) (Err UnicodeEscapeCharacter)

abbrev pub move : State → ℕ → Result Move Escape
move Raw c = Ok record { state = Raw; out = Some c }
move Initial c = cond (c == 92) (goes Backslash) (gives c)
move Backslash c = escaped c
move BackslashCarriageReturn c = cond (c == 10) (goes Initial) (Err InvalidEscapeSequence)
move Unicode c = cond (c == 123) (goes (UnicodeValue 0 0)) (Err UnicodeEscapeDelimiter)
move (UnicodeValue value digits) c = cond (c == 125) (closed value digits) (widened value digits c)

-- at the end of the text
abbrev pub ended : State → Result (Unit {0}) Escape
ended Raw = Ok tt
ended Initial = Ok tt
ended Backslash = Err UnicodeEscapeUnterminated
ended BackslashCarriageReturn = Err InvalidEscapeSequence
ended Unicode = Err UnicodeEscapeUnterminated
ended (UnicodeValue value digits) = Err UnicodeEscapeUnterminated

-- what a row of characters gives, as bytes, and the state behind it: so a text can be taken up again piece by piece
pub record Fed : Type 0 where
  pub state : State
  pub bytes : List ℕ

abbrev pub emit : Option ℕ → List ℕ
emit None = []
emit (Some c) = encode c

abbrev pub before : List ℕ → Result Fed Escape → Result Fed Escape
before bs (Ok f) = Ok record { state = f.state; bytes = bs ++ f.bytes }
before bs (Err e) = Err e

abbrev pub onward : Result Move Escape → (State → Result Fed Escape) → Result Fed Escape
onward (Ok m) rest = before (emit m.out) (rest m.state)
onward (Err e) rest = Err e

abbrev pub feed : State → List ℕ → Result Fed Escape
feed s [] = Ok record { state = s; bytes = [] }
feed s (c ∷ cs) = onward (move s c) (λ t. feed t cs)

abbrev pub sealed : Result (Unit {0}) Escape → List ℕ → Result (List ℕ) Escape
sealed (Ok _) bs = Ok bs
sealed (Err e) bs = Err e

abbrev pub close : Result Fed Escape → Result (List ℕ) Escape
close (Ok f) = sealed (ended f.state) f.bytes
close (Err e) = Err e

-- a whole text
abbrev pub unescaped : List ℕ → Result (List ℕ) Escape
unescaped bs = close (feed Initial (chars bs))
