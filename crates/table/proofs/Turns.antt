-- One turn of a scan.
use Rattle.std.proofs.Common.{◌≡◌, ℕ, zero, suc, ◌+◌, ◌-◌, ◌≤◌, min, Bool, List, [], ◌∷◌, length, take, drop, refl, ap, ◌∙◌, arith}
use Rattle.std.proofs.lemmas.List.{length-drop, take_rest}
use Rattle.rules.specs.Found.{Move, Pass}
use Rattle.rules.specs.Scans.{moves, scan}

-- what is owed is passed, as far as bytes are there
pub paid : (m : Bool → List ℕ → Move) (k : ℕ) (e : Bool) (s : List ℕ) (j : ℕ) → j ≡ min k (length s) → scan m k e s ≡ j + scan m 0 e (drop j s)
paid m zero e s j h = grind arith
paid m (suc k) e [] j h = let z : j ≡ 0 = omega arith in rw z (refl)
paid m (suc k) e (c ∷ s) j h =
    let q : j ≡ suc (min k (length s)) = omega arith in
    let i : scan m k e s ≡ min k (length s) + scan m 0 e (drop (min k (length s)) s) = paid m k e s (min k (length s)) refl in
    rw q (omega (arith, i))

-- how far a step leads
pub turn : (m : Bool → List ℕ → Move) (e f : Bool) (s : List ℕ) (k n : ℕ) → 1 ≤ length s → m e s ≡ Pass k f → let b = take (length s - 1) (drop 1 s) in let r = take (length b - n) (drop n b) in n ≡ min k (length b) → (length r + n + 1 ≡ length s) × (scan m 0 e s ≡ n + 1 + scan m 0 f r)
turn m e f [] k n l h q = absurd (omega arith)
turn m e f (c ∷ s) k n l h q =
    let b = take (suc (length s) - 1) s in
    let z : b ≡ s = take_rest (c ∷ s) 1 in
    let r : take (length b - n) (drop n b) ≡ drop n s = take_rest b n ∙ ap (λ t. drop n t) z in
    let y : n ≡ min k (length s) = q ∙ ap (λ t. min k (length t)) z in
    let p : scan m k f s ≡ n + scan m 0 f (drop n s) = paid m k f s n y in (
      omega (arith, ap length r, length-drop n s),
      ap (λ v. moves (λ k f. scan m k f s) v) h ∙ omega (arith, p, ap (λ t. scan m 0 f t) r),
    )
