-- What beginning with other bytes means.
use Rattle.std.proofs.Common.{◌≡◌, ℕ, suc, ◌+◌, ◌≤◌, Bool, true, false, cond, ◌&&◌, eqb, List, [], ◌∷◌, length, take, refl, ap, ◌∙◌, arith}
use Rattle.std.specs.Cmp.Lexicographic.{pointwise}
use Rattle.std.specs.List.{common_prefix_len, prefix_len, zip}
use Rattle.std.proofs.lemmas.Bool.{and_parts, ne_eqb, false≢true}
use Rattle.std.proofs.lemmas.Bool.Decides.{nat_tests}
use Rattle.scan.specs.Prefix.{begins}

eqb_sym : (m n : ℕ) → eqb m n ≡ eqb n m
eqb_sym m n = grind (arith, nat_tests)

-- bytes begin with others where their first bytes are those
pub begins_pointwise : (ps bs : List ℕ) → pointwise eqb ps (take (length ps) bs) ≡ begins ps bs
begins_pointwise [] bs = refl
begins_pointwise (p ∷ ps) [] = refl
begins_pointwise (p ∷ ps) (b ∷ bs) = (λ i. eqb_sym p b i && begins_pointwise ps bs i)

eqb_suc : (m n : ℕ) → eqb (1 + m) (suc n) ≡ eqb m n
eqb_suc m n = grind (arith, nat_tests)

-- the common beginning is the whole prefix
pub common_begins : (bs ps : List ℕ) → eqb (common_prefix_len eqb bs ps) (length ps) ≡ begins ps bs
common_begins [] [] = refl
common_begins (b ∷ bs) [] = refl
common_begins [] (p ∷ ps) = ne_eqb 0 (suc (length ps)) (λ e. omega arith)
common_begins (b ∷ bs) (p ∷ ps) = by (eqb b p) (common_begins bs ps)
  where
    by : (t : Bool) → eqb (common_prefix_len eqb bs ps) (length ps) ≡ begins ps bs → eqb (cond t (1 + common_prefix_len eqb bs ps) 0) (suc (length ps)) ≡ (t && begins ps bs)
    by true e = eqb_suc (common_prefix_len eqb bs ps) (length ps) ∙ e
    by false e = ne_eqb 0 (suc (length ps)) (λ q. omega arith)

-- the pairs that agree, from the front on
pub common_pairs : (xs ys : List ℕ) → prefix_len (λ p. eqb p.0 p.1) (zip xs ys) ≡ common_prefix_len eqb xs ys
common_pairs [] ys = refl
common_pairs (x ∷ xs) [] = refl
common_pairs (x ∷ xs) (y ∷ ys) = ap (λ n. cond (eqb x y) (1 + n) 0) (common_pairs xs ys)

-- bytes are at least as long as what they begin with
pub begins_fits : (ps bs : List ℕ) → begins ps bs ≡ true → length ps ≤ length bs
begins_fits [] bs h = omega arith
begins_fits (p ∷ ps) [] h = absurd (false≢true h)
begins_fits (p ∷ ps) (b ∷ bs) h = let i : length ps ≤ length bs = begins_fits ps bs (and_parts (eqb b p) (begins ps bs) h).1 in omega arith
