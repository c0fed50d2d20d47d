-- The common indentation is the longest.
use Rattle.std.proofs.Common.{◌≡◌, ℕ, suc, ◌+◌, ◌≤◌, Bool, true, false, cond, eqb, ◌⊎◌, List, [], ◌∷◌, ◌++◌, length, take, drop, Some, None, Option, sym, refl, ap, ◌∙◌, subst, inl, inr, arith}
use Rattle.std.specs.List.{common_prefix_len, prefix_len}
use Rattle.std.proofs.lemmas.List.{append_assoc, append-nil, length-append, take-append-drop}
use Rattle.std.proofs.lemmas.Bool.{and_parts, and_from, both_ways, eq-eqb, eqb-true}
use Rattle.scan.specs.Classes.{gap}
use Rattle.unindent.specs.Lines.{blank, indent, meet, met, shares, shared_from, indentation}
use Rattle.text_laws.specs.Laws.{Begins, EachWritten, SomeWritten, all, IndentationIsLongest}

trans : (u v w : List ℕ) → Begins u v → Begins v w → Begins u w
trans u v w (r, e) (s, f) = (r ++ s, f ∙ ap (λ l. l ++ s) e ∙ append_assoc u r s)

front : (n : ℕ) (l : List ℕ) → Begins (take n l) l
front n l = (drop n l, sym (take-append-drop n l))

-- the common beginning begins both
same_front : (v w : List ℕ) → take (common_prefix_len eqb v w) v ≡ take (common_prefix_len eqb v w) w
same_front [] w = by w
  where
    by : (w : List ℕ) → ◌≡◌ {A = List ℕ} [] (take 0 w)
    by [] = refl
    by (y ∷ ys) = refl
same_front (x ∷ xs) [] = refl
same_front (x ∷ xs) (y ∷ ys) = by (eqb x y) refl (same_front xs ys)
  where
    by : (t : Bool) → eqb x y ≡ t → take (common_prefix_len eqb xs ys) xs ≡ take (common_prefix_len eqb xs ys) ys → take (cond t (1 + common_prefix_len eqb xs ys) 0) (x ∷ xs) ≡ take (cond t (1 + common_prefix_len eqb xs ys) 0) (y ∷ ys)
    by true e ih =
        let s : 1 + common_prefix_len eqb xs ys ≡ suc (common_prefix_len eqb xs ys) = omega arith in
        ap (λ n. take n (x ∷ xs)) s ∙ (λ i. eqb-true x y e i ∷ ih i) ∙ sym (ap (λ n. take n (y ∷ ys)) s)
    by false e ih = refl

meet_right : (v w : List ℕ) → Begins (meet v w) w
meet_right v w = subst (λ l. Begins l w) (sym (same_front v w)) (front (common_prefix_len eqb v w) w)

-- and whatever begins both begins it
meet_longest : (u r s : List ℕ) → Begins u (meet (u ++ r) (u ++ s))
meet_longest [] r s = (meet r s, refl)
meet_longest (x ∷ u) r s =
    let ih = meet_longest u r s in
    let m : ℕ = common_prefix_len eqb (u ++ r) (u ++ s) in
    let t : eqb x x ≡ true = eq-eqb x x refl in
    let n : cond (eqb x x) (1 + m) 0 ≡ suc m = ap (λ b. cond b (1 + m) 0) t ∙ (let z : 1 + m ≡ suc m = omega arith in z) in
    (ih.0, ap (λ k. take k (x ∷ (u ++ r))) n ∙ ap (λ l. x ∷ l) ih.1)

meet_above : (u v w : List ℕ) → Begins u v → Begins u w → Begins u (meet v w)
meet_above u v w (r, e) (s, f) = let m = meet_longest u r s in (m.0, (λ i. meet (e i) (f i)) ∙ m.1)

-- leading runs
run_in_indent : (w r : List ℕ) → all gap w ≡ true → Begins w (indent (w ++ r))
run_in_indent [] r h = (indent r, refl)
run_in_indent (x ∷ w) r h =
    let p = and_parts (gap x) (all gap w) h in
    let ih = run_in_indent w r p.1 in
    let m : ℕ = prefix_len gap (w ++ r) in
    let n : cond (gap x) (1 + m) 0 ≡ suc m = ap (λ b. cond b (1 + m) 0) p.0 ∙ (let z : 1 + m ≡ suc m = omega arith in z) in
    (ih.0, ap (λ k. take k (x ∷ (w ++ r))) n ∙ ap (λ l. x ∷ l) ih.1)

indent_above : (w l : List ℕ) → all gap w ≡ true → Begins w l → Begins w (indent l)
indent_above w l h (r, e) = let p = run_in_indent w r h in (p.0, ap indent e ∙ p.1)

indent_gaps : (l : List ℕ) → all gap (indent l) ≡ true
indent_gaps [] = refl
indent_gaps (x ∷ l) = by (gap x) refl (indent_gaps l)
  where
    by : (t : Bool) → gap x ≡ t → all gap (indent l) ≡ true → all gap (take (cond t (1 + prefix_len gap l) 0) (x ∷ l)) ≡ true
    by true e ih =
        let s : 1 + prefix_len gap l ≡ suc (prefix_len gap l) = omega arith in
        ap (λ n. all gap (take n (x ∷ l))) s ∙ and_from (gap x) (all gap (indent l)) e ih
    by false e ih = refl

all_begun : (u r : List ℕ) → all gap (u ++ r) ≡ true → all gap u ≡ true
all_begun [] r h = refl
all_begun (x ∷ u) r h = let p = and_parts (gap x) (all gap (u ++ r)) h in and_from (gap x) (all gap u) p.0 (all_begun u r p.1)

-- what is shared so far
abbrev Below : Option (List ℕ) → List ℕ → Type 0
Below None u = Unit {0}
Below (Some v) u = Begins u v

abbrev Gaps : Option (List ℕ) → Type 0
Gaps None = Unit {0}
Gaps (Some v) = all gap v ≡ true

abbrev Is : Option (List ℕ) → Type 0
Is None = ⊥
Is (Some v) = Unit {0}

module _ (o : Option (List ℕ)) (l : List ℕ) where
  before : (u : List ℕ) → Below (shares o l) u → Below o u
  before u h = by (blank l) o h
    where
      by : (t : Bool) (o : Option (List ℕ)) → Below (cond t o (Some (met o (indent l)))) u → Below o u
      by true o h = h
      by false None h = tt
      by false (Some v) h = trans u (meet v (indent l)) v h (front (common_prefix_len eqb v (indent l)) v)

  taken : (u : List ℕ) → blank l ≡ false → Below (shares o l) u → Begins u (indent l)
  taken u b h = inside o (subst (λ t. Below (cond t o (Some (met o (indent l)))) u) b h)
    where
      inside : (o : Option (List ℕ)) → Begins u (met o (indent l)) → Begins u (indent l)
      inside None h = h
      inside (Some v) h = trans u (meet v (indent l)) (indent l) h (meet_right v (indent l))

  above : (u : List ℕ) → Below o u → (blank l ≡ false → Begins u (indent l)) → Below (shares o l) u
  above u h k = by (blank l) refl o h
    where
      by : (t : Bool) → blank l ≡ t → (o : Option (List ℕ)) → Below o u → Below (cond t o (Some (met o (indent l)))) u
      by true e o h = h
      by false e None h = k e
      by false e (Some v) h = meet_above u v (indent l) h (k e)

  gaps_on : Gaps o → Gaps (shares o l)
  gaps_on h = by (blank l) o h
    where
      by : (t : Bool) (o : Option (List ℕ)) → Gaps o → Gaps (cond t o (Some (met o (indent l))))
      by true o h = h
      by false None h = indent_gaps l
      by false (Some v) h = let m = front (common_prefix_len eqb v (indent l)) v in all_begun (meet v (indent l)) m.0 (subst (λ x. all gap x ≡ true) m.1 h)

  is_on : (ls : List (List ℕ)) → Is o ⊎ SomeWritten (l ∷ ls) → Is (shares o l) ⊎ SomeWritten ls
  is_on ls h = by (blank l) refl o h
    where
      by : (t : Bool) → blank l ≡ t → (o : Option (List ℕ)) → Is o ⊎ SomeWritten (l ∷ ls) → Is (cond t o (Some (met o (indent l)))) ⊎ SomeWritten ls
      by true e o (inl i) = inl i
      by true e o (inr (inl b)) = absurd (both_ways (blank l) b e)
      by true e o (inr (inr s)) = inr s
      by false e o i = inl tt

below : (o : Option (List ℕ)) (ls : List (List ℕ)) → Below o (shared_from o ls)
below None [] = tt
below (Some v) [] = ([], sym (append-nil v))
below o (l ∷ ls) = before o l _ (below (shares o l) ls)

shared_all : (o : Option (List ℕ)) (ls : List (List ℕ)) → EachWritten (Begins (shared_from o ls)) ls
shared_all o [] = tt
shared_all o (l ∷ ls) = ((λ b. trans _ (indent l) l (taken o l _ b (below (shares o l) ls)) (front (prefix_len gap l) l)), shared_all (shares o l) ls)

longest_from : (u : List ℕ) (o : Option (List ℕ)) (ls : List (List ℕ)) → all gap u ≡ true → Below o u → EachWritten (Begins u) ls → Is o ⊎ SomeWritten ls → Begins u (shared_from o ls)
longest_from u None [] g h e (inl i) = absurd i
longest_from u None [] g h e (inr s) = absurd s
longest_from u (Some v) [] g h e s = h
longest_from u o (l ∷ ls) g h e s = longest_from u (shares o l) ls g (above o l u h (λ b. indent_above u l g (e.0 b))) e.1 (is_on o l ls s)

gaps_from : (o : Option (List ℕ)) (ls : List (List ℕ)) → Gaps o → all gap (shared_from o ls) ≡ true
gaps_from None [] h = refl
gaps_from (Some v) [] h = h
gaps_from o (l ∷ ls) h = gaps_from (shares o l) ls (gaps_on o l h)

begun_length : (u v : List ℕ) → Begins u v → length u ≤ length v
begun_length u v (r, e) = omega (arith, ap length e, length-append u r)

pub longest : (ls : List (List ℕ)) → IndentationIsLongest ls
longest ls = record {
  spaces_and_tabs = gaps_from None ls tt;
  shared = shared_all None ls;
  longest = λ w g e s. begun_length w (indentation ls) (longest_from w None ls g tt e (inr s));
}
