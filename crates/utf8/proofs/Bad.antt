-- Where the first bad sequence of bytes begins.
use Rattle.std.proofs.Common.{◌≡◌, ℕ, zero, suc, pred, ◌+◌, ◌-◌, ◌<◌, ◌≤◌, true, not, eqb, leb, List, [], ◌∷◌, ◌++◌, length, take, drop, is_some, Some, None, IsUtf8, Option, sym, refl, ap, ◌∙◌, subst, arith}
use Rattle.std.specs.Bool.{then_some}
use lib.Utf8.{scalars, scalar, encode, encodes}
use Rattle.std.specs.Str.{IsCharBoundary}
use Rattle.std.proofs.lemmas.List.{append_assoc, append-nil, length-append, length-drop, take-append-drop, drop_at, take_rest}
use Rattle.std.proofs.lemmas.Bool.{and_parts, and_from, cond-true, cond-false, ne_eqb, eq-eqb, leb-true, le-leb, false≢true}
use Rattle.std.proofs.lemmas.Str.{IsUtf8-append, IsUtf8-take, IsCharBoundary-from_take, length-encode, len_utf8_bounds, IsUtf8-nil}
use Rattle.utf8.specs.Utf8.{character, bad_from, first_bad_offset, well_formed, bound}
use Rattle.utf8.proofs.Rows.{character_begun, character_encode}

-- what is owed is passed
owed : (at k : ℕ) (bs : List ℕ) → k ≤ length bs → bad_from at k bs ≡ bad_from (at + k) 0 (drop k bs)
owed at zero bs h = ap (λ n. bad_from n 0 bs) (let e : at ≡ at + 0 = omega arith in e)
owed at (suc k) [] h = absurd (omega arith)
owed at (suc k) (b ∷ bs) h = owed (suc at) k bs (omega arith) ∙ ap (λ n. bad_from n 0 (drop k bs)) (let e : suc at + k ≡ at + suc k = omega arith in e)

-- a character is passed
passed : (at n : ℕ) (bs : List ℕ) → character bs ≡ suc n → bad_from at 0 bs ≡ bad_from (at + suc n) 0 (drop (suc n) bs)
passed at n [] e = absurd (omega (arith, (character_begun []).within))
passed at n (b ∷ bs) e =
    let w : suc n ≤ length (b ∷ bs) = subst (λ k. k ≤ length (b ∷ bs)) e (character_begun (b ∷ bs)).within in
    cond-false (eqb (character (b ∷ bs)) 0) (Some at) (bad_from (suc at) (pred (character (b ∷ bs))) bs) (ne_eqb (character (b ∷ bs)) 0 (λ z. omega arith))
    ∙ ap (λ k. bad_from (suc at) (pred k) bs) e
    ∙ owed (suc at) n bs (omega arith)
    ∙ ap (λ k. bad_from k 0 (drop n bs)) (let q : suc at + n ≡ at + suc n = omega arith in q)

stopped : (at : ℕ) (bs : List ℕ) → 0 < length bs → character bs ≡ 0 → bad_from at 0 bs ≡ Some at
stopped at [] h e = absurd (omega arith)
stopped at (b ∷ bs) h e = cond-true (eqb (character (b ∷ bs)) 0) (Some at) _ (eq-eqb _ 0 e)

-- one turn, in which n of the k bytes that are left of m are passed
pub turn : (m n : ℕ) (rest : List ℕ) → length rest ≤ m → 0 < n → n ≤ length rest → n ≡ character rest → let r = take (length rest - n) (drop n rest) in (length r + n ≡ length rest) × (bad_from (m - length rest) 0 rest ≡ bad_from (m - length r) 0 r)
turn m n rest l z w e =
    let k : suc (pred n) ≡ n = omega arith in
    let r : take (length rest - n) (drop n rest) ≡ drop n rest = take_rest rest n in
    let g : length (take (length rest - n) (drop n rest)) + n ≡ length rest = omega (arith, ap length r, length-drop n rest) in
    let p : m - length rest + n ≡ m - length (take (length rest - n) (drop n rest)) = omega (arith, g) in (
      g,
      passed (m - length rest) (pred n) rest (sym e ∙ sym k)
          ∙ ap (λ i. bad_from (m - length rest + i) 0 (drop i rest)) k
          ∙ ap (λ i. bad_from i 0 (drop n rest)) p
          ∙ ap (bad_from (m - length (take (length rest - n) (drop n rest))) 0) (sym r),
    )

-- the end, where none is passed
pub done : (m : ℕ) (rest : List ℕ) → character rest ≡ 0 → then_some (not (eqb (length rest) 0)) (m - length rest) ≡ bad_from (m - length rest) 0 rest
done m [] e = refl
done m (b ∷ bs) e =
    ap (λ t. then_some (not t) (m - length (b ∷ bs))) (ne_eqb (length (b ∷ bs)) 0 (λ z. omega arith))
    ∙ sym (stopped (m - length (b ∷ bs)) (b ∷ bs) (omega arith) e)

-- the encodings of scalar values are passed
pub texts_passed : (cs : List ℕ) (at : ℕ) (r : List ℕ) → scalars cs ≡ true → bad_from at 0 (encodes cs ++ r) ≡ bad_from (at + length (encodes cs)) 0 r
texts_passed [] at r h = ap (λ n. bad_from n 0 r) (let e : at ≡ at + 0 = omega arith in e)
texts_passed (c ∷ cs) at r h =
    let p = and_parts (scalar c) (scalars cs) h in
    let m : ℕ = length (encode c) in
    let n : ℕ = pred (length (encode c)) in
    let s : length (encode c) ≡ suc n = omega (arith, length-encode c, (len_utf8_bounds c).0) in
    let more : List ℕ = encodes cs ++ r in
    let there : character (encode c ++ more) ≡ suc n = character_encode c more p.0 ∙ s in
    ap (bad_from at 0) (append_assoc (encode c) (encodes cs) r)
    ∙ passed at n (encode c ++ more) there
    ∙ ap (bad_from (at + suc n) 0) (drop_at (encode c) more (suc n) s)
    ∙ texts_passed cs (at + suc n) r p.1
    ∙ ap (λ k. bad_from k 0 r) (let e : at + suc n + length (encodes cs) ≡ at + length (encodes (c ∷ cs)) = omega (arith, length-append (encode c) (encodes cs)) in e)

-- text has no bad sequence
pub text_good : (bs : List ℕ) → IsUtf8 bs → first_bad_offset bs ≡ None
text_good bs u =
    ap first_bad_offset (sym u.1.1 ∙ sym (append-nil (encodes u.0))) ∙ texts_passed u.0 0 [] u.1.0

-- bytes with no bad sequence are text
good_from : (k at : ℕ) (bs : List ℕ) → length bs ≤ k → bad_from at 0 bs ≡ None → IsUtf8 bs
good_from k at [] l h = IsUtf8-nil
good_from zero at (b ∷ bs) l h = absurd (omega arith)
good_from (suc k) at (b ∷ bs) l h = by (character (b ∷ bs)) refl (good_from k)
  where
    by : (n : ℕ) → character (b ∷ bs) ≡ n → ((a : ℕ) (cs : List ℕ) → length cs ≤ k → bad_from a 0 cs ≡ None → IsUtf8 cs) → IsUtf8 (b ∷ bs)
    by zero e ih =
        let s : bad_from at 0 (b ∷ bs) ≡ Some at = cond-true (eqb (character (b ∷ bs)) 0) (Some at) _ (eq-eqb _ 0 e) in
        absurd (let z : ◌≡◌ {A = ℕ} 0 1 = cc in omega arith)
    by (suc n) e ih =
        let t : IsUtf8 (take (suc n) (b ∷ bs)) = subst (λ m. IsUtf8 (take m (b ∷ bs))) e ((character_begun (b ∷ bs)).text (omega arith)) in
        let r : IsUtf8 (drop (suc n) (b ∷ bs)) = ih (at + suc n) (drop (suc n) (b ∷ bs)) (omega (arith, length-drop n bs)) (sym (passed at n (b ∷ bs) e) ∙ h) in
        subst IsUtf8 (take-append-drop (suc n) (b ∷ bs)) (IsUtf8-append _ _ t r)

good_none : (o : Option ℕ) → not (is_some o) ≡ true → o ≡ None
good_none None h = refl
good_none (Some x) h = absurd (false≢true h)

pub none_bad_text : (bs : List ℕ) → first_bad_offset bs ≡ None → IsUtf8 bs
none_bad_text bs h = good_from (length bs) 0 bs (omega arith) h

pub well_formed_text : (bs : List ℕ) → well_formed bs ≡ true → IsUtf8 bs
unfolding well_formed
well_formed_text bs h = none_bad_text bs (good_none (first_bad_offset bs) h)

pub text_well_formed : (bs : List ℕ) → IsUtf8 bs → well_formed bs ≡ true
unfolding well_formed
text_well_formed bs u = ap (λ o. not (is_some o)) (text_good bs u)

-- a place between characters, as the standard library says it
pub bound_boundary : (bs : List ℕ) (i : ℕ) → IsUtf8 bs → bound bs i ≡ true → IsCharBoundary bs i
unfolding bound
bound_boundary bs i u h =
    let p = and_parts (leb i (length bs)) (well_formed (take i bs)) h in
    IsCharBoundary-from_take bs i u (leb-true i (length bs) p.0) (well_formed_text (take i bs) p.1)

pub boundary_bound : (bs : List ℕ) (i : ℕ) → IsUtf8 bs → IsCharBoundary bs i → bound bs i ≡ true
unfolding bound
boundary_bound bs i u b =
    and_from (leb i (length bs)) (well_formed (take i bs)) (le-leb i (length bs) b.0) (text_well_formed (take i bs) (IsUtf8-take bs i u b))
