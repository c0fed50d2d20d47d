-- Passing whole characters.
use Rattle.std.proofs.Common.{◌≡◌, ℕ, zero, suc, ◌+◌, ◌-◌, ◌<◌, ◌≤◌, true, leb, List, [], ◌∷◌, ◌++◌, length, take, drop, IsUtf8, sym, refl, ap, ◌∙◌, subst, arith}
use lib.Utf8.{encode}
use Rattle.std.proofs.lemmas.List.{append_assoc, length-append, length-drop, length-take-le, take-append-drop}
use Rattle.std.proofs.lemmas.Bool.{and_parts, leb-true}
use Rattle.std.proofs.lemmas.Str.{IsCharBoundary-from_rest, IsCharBoundary-from_take, IsUtf8-between, IsUtf8-drop}
use Rattle.token.specs.declared.place.Position.{Position}
use Rattle.utf8.specs.Utf8.{bound, character, well_formed}
use Rattle.utf8.proofs.Bad.{bound_boundary, boundary_bound, well_formed_text}
use Rattle.utf8.proofs.Rows.{character_begun, character_encode}
use Rattle.source.specs.Cursors.{ahead}
use Rattle.source.specs.Places.{walk}
use Rattle.source.specs.Sources.{text_of}
use Rattle.source.specs.declared.cursor.Cursor.{Cursor}
use Rattle.source.proofs.Passes.{first_of}
use Rattle.source.proofs.Walks.{ahead_behind, character_ahead, step_length, walk_add, walk_offset}

-- what a bound says
module _ (bs : List ℕ) (n : ℕ) (h : bound bs n ≡ true) where
  pub bound_within : n ≤ length bs
  unfolding bound
  bound_within = leb-true n (length bs) (and_parts (leb n (length bs)) (well_formed (take n bs)) h).0

  pub bound_front : IsUtf8 (take n bs)
  unfolding bound
  bound_front = well_formed_text (take n bs) (and_parts (leb n (length bs)) (well_formed (take n bs)) h).1

-- the first character lies before every bound but the start
first_within : (x : ℕ) (r : List ℕ) (k : ℕ) → bound (x ∷ r) (suc k) ≡ true → character (x ∷ r) ≤ suc k
first_within x r k h =
    let u : IsUtf8 (x ∷ take k r) = bound_front (x ∷ r) (suc k) h in
    let f = first_of x (take k r) u in
    let e : x ∷ r ≡ encode f.char ++ (f.rest ++ drop k r) =
    ap (λ l. x ∷ l) (sym (take-append-drop k r)) ∙ ap (λ l. l ++ drop k r) f.split ∙ append_assoc (encode f.char) f.rest (drop k r) in
    let n : character (x ∷ r) ≡ length (encode f.char) = ap character e ∙ character_encode f.char (f.rest ++ drop k r) f.is in
    let l : length (x ∷ take k r) ≡ length (encode f.char) + length f.rest = ap length f.split ∙ length-append (encode f.char) f.rest in
    omega (arith, n, l, length-take-le k r (let w = bound_within (x ∷ r) (suc k) h in omega arith))

pub character_within : (bs : List ℕ) (n : ℕ) → 0 < n → bound bs n ≡ true → character bs ≤ n
character_within bs zero l h = absurd (omega arith)
character_within [] (suc k) l h = absurd (omega (arith, bound_within [] (suc k) h))
character_within (x ∷ r) (suc k) l h = first_within x r k h

-- the way from one cursor on to an offset
pub record Onward (start now : Cursor) (end : ℕ) : Type 0 where
  pub of : now.source ≡ start.source
  pub near : now.position.offset ≤ end
  pub before : start.position.offset ≤ now.position.offset
  pub between : bound (text_of start.source) end ≡ true
  pub at : walk (end - now.position.offset) (ahead now) now.position ≡ walk (end - start.position.offset) (ahead start) start.position

-- bounds of a text and bounds of what lies ahead
module _ (text : List ℕ) (w : well_formed text ≡ true) (o : ℕ) (h : bound text o ≡ true) where
  u : IsUtf8 text
  u = well_formed_text text w

  rest : IsUtf8 (drop o text)
  rest = IsUtf8-drop text o u (bound_boundary text o u h)

  pub bound_ahead : (e : ℕ) → o ≤ e → bound text e ≡ true → bound (drop o text) (e - o) ≡ true
  bound_ahead e l b =
      let f : IsUtf8 (take (e - o) (drop o text)) = IsUtf8-between text o e u l (bound_boundary text o u h) (bound_boundary text e u b) in
      boundary_bound (drop o text) (e - o) rest (IsCharBoundary-from_take (drop o text) (e - o) rest (omega (arith, length-drop o text, bound_within text e b)) f)

  pub bound_whole : (n : ℕ) → bound (drop o text) n ≡ true → bound text (o + n) ≡ true
  bound_whole n b = boundary_bound text (o + n) u (IsCharBoundary-from_rest text o n (bound_within text o h) (bound_boundary (drop o text) n rest b))

-- the way begins
pub onward_start : (s : Cursor) (n : ℕ) → bound (ahead s) n ≡ true → Onward s s (s.position.offset + n)
onward_start s n h = record {
  of = refl;
  near = omega arith;
  before = omega arith;
  between = bound_whole (text_of s.source) s.source.valid s.position.offset s.between n h;
  at = refl;
}

-- and goes on by a character
module _ (s a b : Cursor) (end : ℕ) (on : Onward s a end) (l : a.position.offset < end) (k : b.source ≡ a.source) (p : b.position ≡ walk (character (ahead a)) (ahead a) a.position) where
  abbrev n : ℕ
  n = character (ahead a)

  left : bound (ahead a) (end - a.position.offset) ≡ true
  left = bound_ahead (text_of a.source) a.source.valid a.position.offset a.between end (omega arith) (subst (λ t. bound (text_of t) end ≡ true) (sym on.of) on.between)

  fits : n ≤ end - a.position.offset
  fits = character_within (ahead a) (end - a.position.offset) (omega arith) left

  within : n ≤ length (ahead a)
  within = (character_begun (ahead a)).within

  offset : b.position.offset ≡ a.position.offset + n
  offset = ap (λ (q : Position). q.offset) p ∙ walk_offset n (ahead a) a.position within

  pub onward_on : Onward s b end
  onward_on = record {
    of = k ∙ on.of;
    near = omega (arith, offset, fits);
    before = omega (arith, offset, on.before);
    between = on.between;
    at = way ∙ on.at;
  }
    where
      more : ℕ
      more = end - b.position.offset

      way : walk (end - b.position.offset) (ahead b) b.position ≡ walk (end - a.position.offset) (ahead a) a.position
      way =
          let e : ahead b ≡ drop n (ahead a) = ahead_behind a b n within k p in
          let m : n + (end - b.position.offset) ≡ end - a.position.offset = omega (arith, offset, fits) in
          (λ i. walk (end - b.position.offset) (e i) (p i)) ∙ sym (walk_add n (end - b.position.offset) (ahead a) a.position within) ∙ ap (λ j. walk j (ahead a) a.position) m

  pub onward_shorter : length (ahead b) < length (ahead a)
  onward_shorter =
      let some : 0 < length (ahead a) = omega (arith, bound_within (ahead a) (end - a.position.offset) left) in
      omega (arith, step_length a b k p, character_ahead a some)

-- and ends
pub onward_end : (s a : Cursor) (n : ℕ) → Onward s a (s.position.offset + n) → s.position.offset + n ≤ a.position.offset → a.position ≡ walk n (ahead s) s.position
onward_end s a n on h =
    let z : s.position.offset + n - a.position.offset ≡ 0 = omega (arith, on.near) in
    let m : s.position.offset + n - s.position.offset ≡ n = omega arith in
    sym (ap (λ k. walk k (ahead a) a.position) z) ∙ on.at ∙ ap (λ k. walk k (ahead s) s.position) m
