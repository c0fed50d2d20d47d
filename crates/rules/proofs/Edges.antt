-- Where scans and prefixes end, a text may be cut.
use Rattle.std.proofs.Common.{◌≡◌, ℕ, zero, suc, pred, ◌+◌, ◌-◌, ◌<◌, ◌≤◌, Bool, true, false, cond, ◌&&◌, eqb, ltb, List, [], ◌∷◌, length, get_or, drop, Some, IsUtf8, sym, refl, ap, ◌∙◌, subst, arith}
use lib.Utf8.{encodes, scalar, scalars}
use Rattle.std.specs.Char.{len_utf8 as width_of}
use Rattle.std.specs.Str.{IsCharBoundary}
use Rattle.std.specs.List.{prefix_len}
use Rattle.std.proofs.lemmas.List.{length-drop}
use Rattle.std.proofs.lemmas.List.Sums.{prefix_len-le-length}
use Rattle.std.proofs.lemmas.Bool.{and_parts, false≢true}
use Rattle.std.proofs.lemmas.Str.{IsCharBoundary-after_ascii, IsCharBoundary-from_rest, IsCharBoundary-past_char, IsCharBoundary-start, length-encode, IsUtf8-drop, len_utf8_bounds}
use Rattle.utf8.specs.Utf8.{character, shown_length}
use Rattle.utf8.proofs.Rows.{character_encode, shown_character}
use Rattle.scan.specs.Prefix.{begins}
use Rattle.rules.specs.Found.{Move, Stop}
use Rattle.rules.specs.Scans.{moves, scan}

abbrev pub all_low : List ℕ → Bool
all_low [] = true
all_low (b ∷ bs) = ltb b 128 && all_low bs

low_at : (p : List ℕ) (i : ℕ) → all_low p ≡ true → get_or p i 0 < 128
low_at [] i h = omega arith
low_at (b ∷ p) zero h = grind arith
low_at (b ∷ p) (suc i) h = low_at p i (and_parts (ltb b 128) (all_low p) h).1

begins_at : (p s : List ℕ) (i : ℕ) → begins p s ≡ true → i < length p → get_or s i 0 ≡ get_or p i 0
begins_at [] s i h l = absurd (omega arith)
begins_at (c ∷ p) [] i h l = absurd (false≢true h)
begins_at (c ∷ p) (b ∷ s) zero h l = grind arith
begins_at (c ∷ p) (b ∷ s) (suc i) h l = begins_at p s i (and_parts (eqb b c) (begins p s) h).1 (omega arith)

begins_long : (p s : List ℕ) → begins p s ≡ true → length p ≤ length s
begins_long [] s h = omega arith
begins_long (c ∷ p) [] h = absurd (false≢true h)
begins_long (c ∷ p) (b ∷ s) h = let i : length p ≤ length s = begins_long p s (and_parts (eqb b c) (begins p s) h).1 in omega arith

-- behind ASCII bytes
pub begins_edge : (p s : List ℕ) → IsUtf8 s → all_low p ≡ true → 0 < length p → begins p s ≡ true → IsCharBoundary s (length p)
begins_edge p s u a l h =
    let n : ℕ = length p - 1 in
    let e : get_or s n 0 ≡ get_or p n 0 = begins_at p s n h (omega arith) in
    let k : n + 1 ≡ length p = omega arith in
    subst (IsCharBoundary s) k (IsCharBoundary-after_ascii s n u (omega (arith, begins_long p s h)) (subst (λ b. b < 128) (sym e) (low_at p n a)))

leading_at : (p : ℕ → Bool) (s : List ℕ) (i : ℕ) → i < prefix_len p s → p (get_or s i 0) ≡ true
leading_at p [] i h = absurd (omega arith)
leading_at p (b ∷ s) i h = go (p b) refl i h (leading_at p s)
  where
    go : (t : Bool) → p b ≡ t → (i : ℕ) → i < cond t (1 + prefix_len p s) 0 → ((j : ℕ) → j < prefix_len p s → p (get_or s j 0) ≡ true) → p (get_or (b ∷ s) i 0) ≡ true
    go true q zero l ih = q
    go true q (suc i) l ih = ih i (omega arith)
    go false q i l ih = absurd (omega arith)

-- inside and behind a run of ASCII bytes
pub class_edge : (p : ℕ → Bool) → ((b : ℕ) → p b ≡ true → b < 128) → (s : List ℕ) (n : ℕ) → IsUtf8 s → n ≤ prefix_len p s → IsCharBoundary s n
class_edge p low s zero u h = IsCharBoundary-start s u
class_edge p low s (suc n) u h =
    let e : n + 1 ≡ suc n = omega arith in
    subst (IsCharBoundary s) e (IsCharBoundary-after_ascii s n u (omega (arith, prefix_len-le-length p s)) (low (get_or s n 0) (leading_at p s n (omega arith))))

-- behind the first character
pub character_edge : (x : ℕ) (r : List ℕ) → IsUtf8 (x ∷ r) → IsCharBoundary (x ∷ r) (suc (pred (shown_length x)))
character_edge x r u = go u.0 u.1.0 u.1.1
  where
    go : (cs : List ℕ) → scalars cs ≡ true → encodes cs ≡ x ∷ r → IsCharBoundary (x ∷ r) (suc (pred (shown_length x)))
    go [] s e = absurd (omega (arith, ap length e))
    go (c ∷ cs) s e =
        let p = and_parts (scalar c) (scalars cs) s in
        let n : character (x ∷ r) ≡ width_of c = ap character (sym e) ∙ character_encode c (encodes cs) p.0 ∙ length-encode c in
        let w = len_utf8_bounds c in
        let m : shown_length x ≡ width_of c = shown_character x r (omega (arith, n, w.0)) ∙ n in
        let k : 0 + width_of c ≡ suc (pred (shown_length x)) = omega (arith, m, w.0) in
        subst (IsCharBoundary (x ∷ r)) k (IsCharBoundary-past_char (x ∷ r) (encodes cs) 0 c (omega arith) u (sym e))

-- a scan that passes whole characters ends behind one
abbrev pub WholeMove : List ℕ → Move → Type 0
WholeMove s Stop = Unit {0}
WholeMove s (Some p) = IsCharBoundary s (suc p.more)

abbrev pub WholeMoves : (Bool → List ℕ → Move) → Type 0
WholeMoves m = (e : Bool) (c : ℕ) (s : List ℕ) → IsUtf8 (c ∷ s) → WholeMove (c ∷ s) (m e (c ∷ s))

owed : (m : Bool → List ℕ → Move) (k : ℕ) (e : Bool) (s : List ℕ) → k ≤ length s → scan m k e s ≡ k + scan m 0 e (drop k s)
owed m zero e s h = grind arith
owed m (suc k) e [] h = absurd (omega arith)
owed m (suc k) e (c ∷ s) h = let i = owed m k e s (omega arith) in (let z : suc (scan m k e s) ≡ suc k + scan m 0 e (drop k s) = omega (arith, i) in z)

scan_edge_by : (k : ℕ) (m : Bool → List ℕ → Move) → WholeMoves m → (e : Bool) (s : List ℕ) → length s ≤ k → IsUtf8 s → IsCharBoundary s (scan m 0 e s)
scan_edge_by k m w e [] l u = IsCharBoundary-start [] u
scan_edge_by zero m w e (c ∷ s) l u = absurd (omega arith)
scan_edge_by (suc k) m w e (c ∷ s) l u = go (m e (c ∷ s)) (w e c s u) (scan_edge_by k m w)
  where
    go : (v : Move) → WholeMove (c ∷ s) v → ((f : Bool) (t : List ℕ) → length t ≤ k → IsUtf8 t → IsCharBoundary t (scan m 0 f t)) → IsCharBoundary (c ∷ s) (moves (λ more next. scan m more next s) v)
    go Stop b ih = IsCharBoundary-start (c ∷ s) u
    go (Some p) b ih =
        let more = p.more in
        let next = p.escaped in
        let rest : List ℕ = drop more s in
        let i = ih next rest (omega (arith, length-drop more s)) (IsUtf8-drop (c ∷ s) (suc more) u b) in
        let n : suc more + scan m 0 next rest ≡ suc (scan m more next s) = let o = owed m more next s (omega (arith, b.0)) in omega (arith, o) in
        subst (IsCharBoundary (c ∷ s)) n (IsCharBoundary-from_rest (c ∷ s) (suc more) (scan m 0 next rest) b.0 i)

pub scan_edge : (m : Bool → List ℕ → Move) → WholeMoves m → (e : Bool) (s : List ℕ) → IsUtf8 s → IsCharBoundary s (scan m 0 e s)
scan_edge m w e s u = scan_edge_by (length s) m w e s (omega arith) u
