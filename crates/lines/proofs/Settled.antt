-- One blank-line scan tells the answer at all places in the white space.
use Rattle.std.proofs.Common.{◌≡◌, ℕ, zero, suc, ◌+◌, ◌-◌, ◌<◌, Bool, true, false, ◌&&◌, List, [], ◌∷◌, drop, refl, ap, ◌∙◌, one-add, arith}
use Rattle.std.specs.List.{prefix_len}
use Rattle.std.proofs.lemmas.Bool.{and_parts, cond-true}
use Rattle.scan.specs.Classes.{white}
use Rattle.rules.specs.Lines.{outdents}
use Rattle.lines.specs.Reaches.{agrees, settled}

agrees_same : (a : Bool) → agrees a a ≡ true
agrees_same true = refl
agrees_same false = refl

both : (a b : Bool) → a ≡ true → b ≡ true → (a && b) ≡ true
both a b p q = cc

-- the answer at the first of them
pub settled_here : (a : Bool) (k : ℕ) (s : List ℕ) → 0 < k → settled a k s ≡ true → a ≡ outdents false s
settled_here a zero s l h = absurd (omega arith)
settled_here a (suc k) [] l h = grind arith
settled_here a (suc k) (c ∷ s) l h = grind arith

-- and behind some of them
pub settled_drop : (a : Bool) (n k : ℕ) (s : List ℕ) → settled a k s ≡ true → settled a (k - n) (drop n s) ≡ true
settled_drop a zero k s h = grind arith
settled_drop a (suc n) zero s h = grind arith
settled_drop a (suc n) (suc k) [] h = grind arith
settled_drop a (suc n) (suc k) (c ∷ s) h =
    let e : suc k - suc n ≡ k - n = omega arith in
    ap (λ j. settled a j (drop n s)) e ∙ settled_drop a n k s (and_parts (agrees a (outdents false (c ∷ s))) (settled a k s) h).1

-- what came before white space does not count
fed : (b : Bool) (c : ℕ) (s : List ℕ) → white c ≡ true → outdents b (c ∷ s) ≡ outdents false (c ∷ s)
fed b c s w = grind arith

-- so all of it is settled by one scan
pub settled_run : (s : List ℕ) → settled (outdents false s) (prefix_len white s) s ≡ true
settled_run [] = refl
settled_run (c ∷ s) = go (white c) refl (settled_run s)
  where
    next : (s : List ℕ) → white c ≡ true → settled (outdents false s) (prefix_len white s) s ≡ true → settled (outdents false (c ∷ s)) (prefix_len white s) s ≡ true
    next [] w h = refl
    next (d ∷ r) w h = inner (white d) refl
      where
        inner : (b : Bool) → white d ≡ b → settled (outdents false (c ∷ (d ∷ r))) (prefix_len white (d ∷ r)) (d ∷ r) ≡ true
        inner true v = grind arith
        inner false v = grind arith

    go : (b : Bool) → white c ≡ b → settled (outdents false s) (prefix_len white s) s ≡ true → settled (outdents false (c ∷ s)) (prefix_len white (c ∷ s)) (c ∷ s) ≡ true
    go true w h =
        ap (λ n. settled (outdents false (c ∷ s)) n (c ∷ s)) (cond-true (white c) (1 + prefix_len white s) 0 w ∙ one-add (prefix_len white s))
        ∙ both (agrees (outdents false (c ∷ s)) (outdents false (c ∷ s))) (settled (outdents false (c ∷ s)) (prefix_len white s) s) (agrees_same (outdents false (c ∷ s))) (next s w h)
    go false w h = grind arith
