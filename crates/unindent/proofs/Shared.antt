-- The common indentation fits every line that is not blank.
use Rattle.std.proofs.Common.{◌≡◌, ℕ, ◌<◌, ◌≤◌, Bool, true, false, cond, ◌||◌, eqb, leb, List, [], ◌∷◌, length, take, drop, Some, None, Option, sym, refl, ap, ◌∙◌, arith}
use Rattle.std.specs.List.{common_prefix_len, prefix_len}
use Rattle.std.proofs.lemmas.List.{length-take-le}
use Rattle.std.proofs.lemmas.List.Sums.{common_prefix_len-le, prefix_len-le-length}
use Rattle.std.proofs.lemmas.Bool.{and_from, le-leb, or_right}
use Rattle.scan.specs.Classes.{gap}
use Rattle.unindent.specs.Lines.{blank, indent, meet, met, shares, shared_from, indentation, roomy, all_roomy, or_none, lines}
use Rattle.unindent.specs.Cuts.{first_line_length}
use Rattle.unindent.proofs.Split.{first_line}

length_indent : (l : List ℕ) → length (indent l) ≡ prefix_len gap l
length_indent l = length-take-le (prefix_len gap l) l (prefix_len-le-length gap l)

length_meet : (v w : List ℕ) → (length (meet v w) ≤ length v) × (length (meet v w) ≤ length w)
length_meet v w =
    let c = common_prefix_len-le eqb v w in
    let e = length-take-le (common_prefix_len eqb v w) v c.0 in
    (omega (arith, e, c.0), omega (arith, e, c.1))

-- what is shared further on is no longer
abbrev AtMost : Option (List ℕ) → ℕ → Type 0
AtMost None n = Unit {0}
AtMost (Some v) n = n ≤ length v

shorter : (o : Option (List ℕ)) (l : List ℕ) (n : ℕ) → AtMost (shares o l) n → AtMost o n
shorter o l n h = by (blank l) o h
  where
    by : (t : Bool) (o : Option (List ℕ)) → AtMost (cond t o (Some (met o (indent l)))) n → AtMost o n
    by true o h = h
    by false None h = tt
    by false (Some v) h = omega (arith, (length_meet v (indent l)).0)

no_longer : (o : Option (List ℕ)) (ls : List (List ℕ)) → AtMost o (length (shared_from o ls))
no_longer None [] = tt
no_longer (Some v) [] = omega arith
no_longer o (l ∷ ls) = shorter o l _ (no_longer (shares o l) ls)

line_room : (o : Option (List ℕ)) (l : List ℕ) (n : ℕ) → AtMost (shares o l) n → roomy n l ≡ true
line_room o l n h = by (blank l) o h
  where
    fits : (o : Option (List ℕ)) → n ≤ length (met o (indent l)) → n ≤ prefix_len gap l
    fits None h = omega (arith, length_indent l)
    fits (Some v) h = omega (arith, (length_meet v (indent l)).1, length_indent l)

    by : (t : Bool) (o : Option (List ℕ)) → AtMost (cond t o (Some (met o (indent l)))) n → (t || leb n (prefix_len gap l)) ≡ true
    by true o h = refl
    by false o h = le-leb n (prefix_len gap l) (fits o h)

all_room_from : (o : Option (List ℕ)) (ls : List (List ℕ)) → all_roomy (length (shared_from o ls)) ls ≡ true
all_room_from o [] = refl
all_room_from o (l ∷ ls) =
    and_from (roomy _ l) (all_roomy _ ls) (line_room o l _ (no_longer (shares o l) ls)) (all_room_from (shares o l) ls)

pub all_room : (ls : List (List ℕ)) → all_roomy (length (indentation ls)) ls ≡ true
all_room ls = all_room_from None ls

-- where none is removed there is room
pub none_room : (ls : List (List ℕ)) → all_roomy 0 ls ≡ true
none_room [] = refl
none_room (l ∷ ls) = and_from (roomy 0 l) (all_roomy 0 ls) (or_right (blank l) _ (le-leb 0 (prefix_len gap l) (omega arith))) (none_room ls)

-- one line more is taken in
pub share_more : (o p : Option (List ℕ)) (rest line after : List ℕ) → 0 < length rest → line ≡ take (first_line_length rest) rest → after ≡ drop (first_line_length rest) rest → p ≡ shares o line
    → shared_from p (lines after) ≡ shared_from o (lines rest)
share_more o p rest line after h l a s =
    ap (λ q. shared_from q (lines after)) s
    ∙ (λ i. shared_from (shares o (l i)) (lines (a i)))
    ∙ sym (ap (shared_from o) (first_line rest h))

pub share_end : (o : Option (List ℕ)) (rest : List ℕ) → length rest ≡ 0 → or_none o ≡ shared_from o (lines rest)
share_end o [] h = refl
share_end o (b ∷ bs) h = absurd (omega arith)
