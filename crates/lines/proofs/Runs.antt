-- What the library says of runs of bytes, in the words of the rules.
use Rattle.std.proofs.Common.{◌≡◌, ℕ, suc, ◌-◌, Bool, false, cond, not, ◌&&◌, eqb, List, [], ◌∷◌, length, take, drop, refl, sym, ap, ◌∙◌, subst, one-add, arith}
use Rattle.std.proofs.Math.Bool.{and-true}
use Rattle.std.proofs.lemmas.Bool.{cond-false, cond-true, ne_eqb}
use Rattle.std.proofs.lemmas.Bool.Decides.{nat_tests}
use Rattle.std.specs.Cmp.Lexicographic.{pointwise}
use Rattle.std.specs.List.{ends_with, prefix_len}
use Rattle.scan.specs.Classes.{white}
use Rattle.rules.proofs.Cases.{by}
use Rattle.rules.specs.Lines.{outdents, same}

turned : (x y : ℕ) → eqb y x ≡ eqb x y
turned x y = grind (arith, nat_tests)

-- equality of lists
pub same_pointwise : (a b : List ℕ) → pointwise eqb a b ≡ same a b
same_pointwise [] [] = refl
same_pointwise [] (y ∷ b) = refl
same_pointwise (x ∷ a) [] = refl
same_pointwise (x ∷ a) (y ∷ b) = grind (arith, turned x y, same_pointwise a b)

-- whether a run, behind a line feed or not, ends in one
ends : Bool → List ℕ → Bool
ends fed w = cond (eqb (length w) 0) fed (pointwise eqb (10 ∷ []) (drop (length w - 1) w))

ends_none : (fed : Bool) → ends fed [] ≡ fed
unfolding ends
ends_none fed = refl

ends_more : (fed : Bool) (c : ℕ) (w : List ℕ) → ends fed (c ∷ w) ≡ ends (eqb c 10) w
unfolding ends
ends_more fed c [] = and-true (eqb 10 c) ∙ turned c 10
ends_more fed c (d ∷ r) =
    let k : suc (suc (length r)) - 1 ≡ suc (length r) = omega arith in
    let e : suc (length r) ≡ suc (suc (length r) - 1) = omega arith in
    let f : eqb (suc (suc (length r))) 0 ≡ false = ne_eqb _ _ (λ e. omega arith) in
    let g : eqb (suc (length r)) 0 ≡ false = ne_eqb _ _ (λ e. omega arith) in
    ap (λ v. cond v fed (pointwise eqb (10 ∷ []) (drop (suc (suc (length r)) - 1) (c ∷ d ∷ r)))) f
    ∙ ap (λ n. pointwise eqb (10 ∷ []) (drop n (c ∷ d ∷ r))) (k ∙ e)
    ∙ sym (ap (λ v. cond v (eqb c 10) (pointwise eqb (10 ∷ []) (drop (suc (length r) - 1) (d ∷ r)))) g)

reads : (fed : Bool) (s : List ℕ) → outdents fed s ≡ (ends fed (take (prefix_len white s) s) && not (eqb (length (drop (prefix_len white s) s)) 0))
reads fed [] = grind arith
reads fed (c ∷ s) =
    by (λ n. cond (white c) (outdents (eqb c 10) s) fed ≡ (ends fed (take n (c ∷ s)) && not (eqb (length (drop n (c ∷ s))) 0))) (white c)
    (λ w.
    let n = prefix_len white s in
    subst (λ (k : ℕ). cond (white c) (outdents (eqb c 10) s) fed ≡ (ends fed (take k (c ∷ s)) && not (eqb (length (drop k (c ∷ s))) 0))) (sym (one-add n))
    (cond-true (white c) (outdents (eqb c 10) s) fed w ∙ reads (eqb c 10) s ∙ ap (λ v. v && not (eqb (length (drop n s)) 0)) (sym (ends_more fed c (take n s)))))
    (λ w. cond-false (white c) (outdents (eqb c 10) s) fed w ∙ sym (ap (λ v. ends fed [] && not v) (ne_eqb (suc (length s)) 0 (λ e. omega arith)) ∙ and-true (ends fed []) ∙ ends_none fed))

ends_only : (w : List ℕ) → pointwise eqb (10 ∷ []) (drop (length w - 1) w) ≡ ends false w
unfolding ends
ends_only [] = refl
ends_only (c ∷ w) = sym (ap (λ v. cond v false (pointwise eqb (10 ∷ []) (drop (suc (length w) - 1) (c ∷ w)))) (ne_eqb (suc (length w)) 0 (λ e. omega arith)))

-- the white space that comes first ends in a line feed, and something follows it
pub outdents_ends : (s : List ℕ) → outdents false s ≡ (ends_with eqb (take (prefix_len white s) s) (10 ∷ []) && not (eqb (length (drop (prefix_len white s) s)) 0))
outdents_ends s = reads false s ∙ ap (λ v. v && not (eqb (length (drop (prefix_len white s) s)) 0)) (sym (ends_only (take (prefix_len white s) s)))
