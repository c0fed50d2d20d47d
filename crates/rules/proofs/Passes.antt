-- How far scans go.
use Rattle.std.proofs.Common.{◌≡◌, ℕ, zero, suc, ◌-◌, ◌<◌, ◌≤◌, Bool, true, false, ◌&&◌, ◌||◌, eqb, List, [], ◌∷◌, length, take, drop, replicate, Some, sym, refl, ap, ◌∙◌, subst, inl, inr, one-add, arith}
use lib.Count.{leading_le}
use Rattle.std.proofs.lemmas.List.{length-drop}
use Rattle.std.proofs.lemmas.Bool.{and_cases, and_parts, eq-eqb, eqb-true, false≢true, or_parts, true≢false}
use Rattle.std.specs.List.{prefix_len}
use Rattle.scan.specs.Classes.{gap}
use Rattle.scan.specs.Prefix.{begins}
use Rattle.scan.proofs.Prefixes.{begins_fits}
use Rattle.token.specs.Strings.{delimiter_of}
use Rattle.token.specs.declared.kinds.StringKind.{StringKind}
use Rattle.utf8.specs.Utf8.{leading_ones, shown_length}
use Rattle.rules.specs.Found.{Move, Stop}
use Rattle.rules.specs.Lines.{has, mixed}
use Rattle.rules.specs.Picks.{first_is}
use Rattle.rules.specs.Scans.{empty, line_end, moves, opening, over_comment, over_text, scan, width}
use Rattle.rules.specs.Strings.{over_string, reach, reaches}
use Rattle.rules.proofs.Cases.{by}

pub some : (s : List ℕ) → empty s ≡ false → 0 < length s
some [] h = absurd (true≢false h)
some (c ∷ s) h = omega arith

pub shown_le : (c : ℕ) → shown_length c ≤ 8
shown_le c = by (λ n. n ≤ 8) (eqb (leading_ones c) 0) (λ _. omega arith) (λ _. leading_le 8 (255 - c))

pub width_le : (s : List ℕ) → width s ≤ 8
width_le [] = omega arith
width_le (c ∷ s) = shown_le c

moved_le : (onward : ℕ → Bool → ℕ) (n : ℕ) (v : Move) → ((k : ℕ) (f : Bool) → onward k f ≤ n) → moves onward v ≤ suc n
moved_le onward n Stop h = omega arith
moved_le onward n (Some p) h = omega (arith, h p.more p.escaped)

-- a scan stays inside
pub scan_le : (m : Bool → List ℕ → Move) (owed : ℕ) (e : Bool) (s : List ℕ) → scan m owed e s ≤ length s
scan_le m zero e [] = omega arith
scan_le m (suc owed) e [] = omega arith
scan_le m (suc owed) e (c ∷ s) = omega (arith, scan_le m owed e s)
scan_le m zero e (c ∷ s) = moved_le (λ k f. scan m k f s) (length s) (m e (c ∷ s)) (λ k f. scan_le m k f s)

-- a run whose first byte is of the class is not empty
pub leading_some : (p q : ℕ → Bool) (s : List ℕ) → ((c : ℕ) → q c ≡ true → p c ≡ true) → first_is q s ≡ true → 0 < prefix_len p s
leading_some p q [] f h = absurd (false≢true h)
leading_some p q (c ∷ s) f h = grind arith

pub comment_some : (s : List ℕ) → begins (35 ∷ []) s ≡ true → 0 < scan over_comment 0 false s
comment_some [] h = absurd (false≢true h)
comment_some (c ∷ s) h = grind arith

-- where no text is passed, a line end or {{ comes first
pub text_none : (s : List ℕ) → empty s ≡ false → scan over_text 0 false s ≡ 0 → (line_end s || begins opening s) ≡ true
text_none [] h z = absurd (true≢false h)
text_none (c ∷ s) h z = grind arith

pub delimiter_some : (k : StringKind) → 0 < length (delimiter_of k)
delimiter_some k = grind arith

-- where the inside of a string leads is inside
pub reach_le : (k : StringKind) (f : Bool) (s : List ℕ) → reaches (reach k f s) ≤ length s
reach_le k f s =
    let n = scan (over_string k f) 0 false s in
    let l : n ≤ length s = scan_le (over_string k f) 0 false s in
    by (λ r. reaches r ≤ length s) (begins (delimiter_of k) (drop n s))
    (λ h. omega (arith, begins_fits (delimiter_of k) (drop n s) h, length-drop n s))
    (λ _. by (λ r. reaches r ≤ length s) (begins opening (drop n s)) (λ h. omega (arith, begins_fits opening (drop n s) h, length-drop n s)) (λ _. omega arith))

-- a beginning that does not go back is shorter
pub begins_shorter : (l w : List ℕ) → begins l w ≡ true → begins w l ≡ false → length l < length w
begins_shorter [] [] h n = absurd (true≢false n)
begins_shorter [] (c ∷ w) h n = omega arith
begins_shorter (a ∷ l) [] h n = absurd (false≢true h)
begins_shorter (a ∷ l) (c ∷ w) h n =
    let p = and_parts (eqb c a) (begins l w) h in
    let e : eqb a c ≡ true = eq-eqb a c (sym (eqb-true c a p.0)) in
    let q : begins w l ≡ false = sym (ap (λ v. v && begins w l) e) ∙ n in
    omega (arith, begins_shorter l w p.1 q)

-- a run of blanks that lacks one of the two characters is of the other alone
pub one_character : (a b : ℕ) → ((c : ℕ) → gap c ≡ true → eqb c b ≡ false → c ≡ a) → (s : List ℕ) → has b (take (prefix_len gap s) s) ≡ false → take (prefix_len gap s) s ≡ replicate (prefix_len gap s) a
one_character a b f [] = λ _. refl
one_character a b f (c ∷ s) =
    by (λ n. has b (take n (c ∷ s)) ≡ false → take n (c ∷ s) ≡ replicate n a) (gap c)
    (λ g. subst (λ (n : ℕ). has b (take n (c ∷ s)) ≡ false → take n (c ∷ s) ≡ replicate n a) (sym (one-add (prefix_len gap s))) (λ h. more g (or_parts (eqb c b) (has b (take (prefix_len gap s) s)) h).0 (one_character a b f s (or_parts (eqb c b) (has b (take (prefix_len gap s) s)) h).1)))
    (λ _ _. refl)
  where
    more : gap c ≡ true → eqb c b ≡ false → take (prefix_len gap s) s ≡ replicate (prefix_len gap s) a → ◌≡◌ {A = List ℕ} (c ∷ take (prefix_len gap s) s) (a ∷ replicate (prefix_len gap s) a)
    more g n e = let q : c ≡ a = f c g n in cc

-- blanks that are not mixed are a run of one character
pub unmixed : (s : List ℕ) → mixed (take (prefix_len gap s) s) ≡ false → (c : ℕ) × (gap c ≡ true) × (take (prefix_len gap s) s ≡ replicate (prefix_len gap s) c)
unmixed s h = elim (and_cases (has 32 (take (prefix_len gap s) s)) (has 9 (take (prefix_len gap s) s)) h) [
  | inl n ↦ (9, refl, one_character 9 32 (λ c g e. tabs c g e) s n)
  | inr n ↦ (32, refl, one_character 32 9 (λ c g e. spaces c g e) s n)
]
  where
    tabs : (c : ℕ) → gap c ≡ true → eqb c 32 ≡ false → c ≡ 9
    tabs c g e = grind arith

    spaces : (c : ℕ) → gap c ≡ true → eqb c 9 ≡ false → c ≡ 32
    spaces c g e = grind arith
