-- Taking the first line off a text.
use Rattle.std.proofs.Common.{◌≡◌, ℕ, zero, suc, ◌+◌, ◌<◌, ◌≤◌, Bool, true, false, cond, not, eqb, ◌⊎◌, List, [], ◌∷◌, ◌++◌, length, get_or, min, take, drop, IsUtf8, sym, refl, ap, ◌∙◌, subst, inl, inr, arith}
use Rattle.std.specs.Str.{IsCharBoundary}
use Rattle.std.specs.List.{IsFirstMatchOrLen, prefix_len}
use Rattle.std.proofs.lemmas.List.{take_at, drop_at}
use Rattle.std.proofs.lemmas.List.Sums.{position_or_len_is, prefix_len-le-length, prefix_len_passes, prefix_len_stops}
use Rattle.std.proofs.lemmas.Bool.{cases_lt, eqb-true, not-false}
use Rattle.std.proofs.lemmas.Bool.Decides.{nat_tests}
use Rattle.std.proofs.lemmas.Str.{IsCharBoundary-start, IsCharBoundary-end, IsCharBoundary-after_ascii}
use Rattle.scan.specs.Classes.{gap, in_line}
use Rattle.unindent.specs.Cuts.{first_line_length}
use Rattle.unindent.specs.Lines.{lines, grows}

-- the line feed that ends the first line, or the end of the text
first_length : (bs : List ℕ) → min (length bs) (prefix_len in_line bs + 1) ≡ first_line_length bs
first_length [] = refl
first_length (b ∷ bs) = by (eqb b 10) (first_length bs)
  where
    by : (t : Bool) → min (length bs) (prefix_len in_line bs + 1) ≡ first_line_length bs → min (suc (length bs)) (cond (not t) (1 + prefix_len in_line bs) 0 + 1) ≡ cond t 1 (suc (first_line_length bs))
    by true ih = omega arith
    by false ih = omega arith

-- where the line feed is the first, or there is none
pub cut_length : (bs : List ℕ) (i : ℕ) → IsFirstMatchOrLen (λ b. eqb b 10) bs i → min (i + 1) (length bs) ≡ first_line_length bs
cut_length bs i m = by (cases_lt i (length bs))
  where
    by : (i < length bs) ⊎ (length bs ≤ i) → min (i + 1) (length bs) ≡ first_line_length bs
    by (inl l) =
        let e = position_or_len_is (λ b. eqb b 10) bs i 0 (omega arith) (λ k h. m.0 k 0 (omega arith) h) (λ h. m.1 h 0) in
        omega (arith, e, first_length bs)
    by (inr l) =
        let e = position_or_len_is (λ b. eqb b 10) bs (length bs) 0 (omega arith) (λ k h. m.0 k 0 (omega arith) (omega arith)) (λ h. absurd (omega arith)) in
        omega (arith, e, first_length bs)

pub first_line : (bs : List ℕ) → 0 < length bs → lines bs ≡ take (first_line_length bs) bs ∷ lines (drop (first_line_length bs) bs)
first_line [] h = absurd (omega arith)
first_line (b ∷ []) h = by (eqb b 10)
  where
    by : (t : Bool) → cond t ((b ∷ []) ∷ []) ((b ∷ []) ∷ []) ≡ take (cond t 1 1) (b ∷ []) ∷ lines (drop (cond t 1 1) (b ∷ []))
    by true = refl
    by false = refl
first_line (b ∷ c ∷ bs) h = by (eqb b 10) (first_line (c ∷ bs) (omega arith))
  where
    by : (t : Bool) → lines (c ∷ bs) ≡ take (first_line_length (c ∷ bs)) (c ∷ bs) ∷ lines (drop (first_line_length (c ∷ bs)) (c ∷ bs))
        → cond t ((b ∷ []) ∷ lines (c ∷ bs)) (grows b (lines (c ∷ bs))) ≡ take (cond t 1 (suc (first_line_length (c ∷ bs)))) (b ∷ c ∷ bs) ∷ lines (drop (cond t 1 (suc (first_line_length (c ∷ bs)))) (b ∷ c ∷ bs))
    by true e = refl
    by false e = ap (grows b) e

-- what is split off behind the first line feed, and what is left
pub split_off : (rest line after : List ℕ) (i : ℕ) → rest ≡ line ++ after → length line ≡ min (i + 1) (length rest) → IsFirstMatchOrLen (λ b. eqb b 10) rest i
    → (line ≡ take (first_line_length rest) rest) × (after ≡ drop (first_line_length rest) rest)
split_off rest line after i e l m =
    let n : ℕ = first_line_length rest in
    let k : length line ≡ n = l ∙ cut_length rest i m in
    (sym (ap (take n) e ∙ take_at line after n k), sym (ap (drop n) e ∙ drop_at line after n k))

pub length_some : (bs : List ℕ) → 0 < length bs → 0 < first_line_length bs
length_some bs h = omega (arith, first_length bs)

-- the first line ends behind a line feed or at the end of the text
pub cut_bound : (bs : List ℕ) → IsUtf8 bs → IsCharBoundary bs (first_line_length bs)
cut_bound bs u = by (cases_lt (prefix_len in_line bs) (length bs))
  where
    by : (prefix_len in_line bs < length bs) ⊎ (length bs ≤ prefix_len in_line bs) → IsCharBoundary bs (first_line_length bs)
    by (inl l) =
        let n : prefix_len in_line bs + 1 ≡ first_line_length bs = omega (arith, first_length bs) in
        let e : get_or bs (prefix_len in_line bs) 0 ≡ 10 = eqb-true _ 10 (not-false _ (prefix_len_stops in_line bs 0 l)) in
        subst (IsCharBoundary bs) n (IsCharBoundary-after_ascii bs (prefix_len in_line bs) u l (omega (arith, e)))
    by (inr l) =
        let n : length bs ≡ first_line_length bs = omega (arith, first_length bs) in
        subst (IsCharBoundary bs) n (IsCharBoundary-end bs)

-- a space or a tab is a whole character
gap_low : (b : ℕ) → gap b ≡ true → b < 128
gap_low b h = grind (arith, nat_tests)

-- so a text may be cut there
pub gap_bound : (bs : List ℕ) (n : ℕ) → IsUtf8 bs → n ≤ prefix_len gap bs → IsCharBoundary bs n
gap_bound bs zero u h = IsCharBoundary-start bs u
gap_bound bs (suc n) u h =
    let e : n + 1 ≡ suc n = omega arith in
    subst (IsCharBoundary bs) e (IsCharBoundary-after_ascii bs n u (omega (arith, prefix_len-le-length gap bs)) (gap_low (get_or bs n 0) (prefix_len_passes gap bs n 0 (omega arith))))
