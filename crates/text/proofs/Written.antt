-- Writing piece by piece.
use Rattle.std.proofs.Common.{◌≡◌, ℕ, ◌+◌, ◌≤◌, List, [], ◌∷◌, ◌++◌, length, take, drop, Ok, Err, Option, Result, sym, refl, ap, ◌∙◌, arith}
use Rattle.std.proofs.lemmas.List.{append_assoc, append-nil, length-append, length-take-le, take_at, drop_at, drop-drop, take-append-drop}
use Rattle.unescape.specs.Escapes.{Fed, Move, before, emit, feed, move, onward}
use Rattle.unescape.specs.Moves.{given, after}
use Rattle.unescape.specs.declared.record.Escape.{Escape}
use Rattle.unescape.specs.declared.record.State.{State}
use Rattle.unescape.proofs.Feeds.{behind, feed_append, before_before}
use Rattle.text.specs.Fedby.{bytes_of, onto, over, summed}

-- nothing written, and one part behind the other
pub over_none : (at : ℕ) (out : List ℕ) → over at [] out ≡ out
over_none at out = take-append-drop at out

pub over_start : (bs out : List ℕ) → over 0 bs out ≡ onto bs out
over_start bs [] = refl
over_start bs (o ∷ out) = refl

over_on : (at : ℕ) (xs ys out : List ℕ) → at + length xs ≤ length out → over (at + length xs) ys (over at xs out) ≡ over at (xs ++ ys) out
over_on at xs ys out h =
    let front : List ℕ = take at out ++ xs in
    let rest : List ℕ = drop (length xs) (drop at out) in
    let shape : over at xs out ≡ front ++ rest = sym (append_assoc (take at out) xs rest) in
    let count : length front ≡ at + length xs = length-append (take at out) xs ∙ ap (λ k. k + length xs) (length-take-le at out (omega arith)) in
    (λ i. take (at + length xs) (shape i) ++ onto ys (drop (at + length xs) (shape i)))
    ∙ (λ i. take_at front rest (at + length xs) count i ++ onto ys (drop_at front rest (at + length xs) count i))
    ∙ append_assoc (take at out) xs (onto ys rest)
    ∙ ap (λ l. take at out ++ l)
    (sym (append_assoc xs ys (drop (length ys) rest)) ∙ ap (λ l. (xs ++ ys) ++ l) (drop-drop (length ys) (length xs) (drop at out) ∙ ap (λ k. drop k (drop at out)) (sym (length-append xs ys))))

-- one character
module _ (s t : State) (c : ℕ) (w : t ≡ after s (move s c)) (at : ℕ) where
  pub stepped : (o : Option ℕ) → Ok o ≡ given (move s c) → (summed at (feed s (c ∷ [])) ≡ Ok (t, at + length (emit o))) × (bytes_of (feed s (c ∷ [])) ≡ emit o)
  stepped o e = by (move s c) e w
    where
      by : (m : Result Move Escape) → Ok o ≡ given m → t ≡ after s m → (summed at (onward m (λ u. feed u [])) ≡ Ok (t, at + length (emit o))) × (bytes_of (onward m (λ u. feed u [])) ≡ emit o)
      by (Ok m) e w =
          let q : m.out ≡ o = cc in
          let b : emit m.out ++ [] ≡ emit o = append-nil (emit m.out) ∙ ap emit q in
          ((λ i. Ok (sym w i, at + length (b i))), b)
      by (Err x) e w = absurd (let z : ◌≡◌ {A = ℕ} 0 1 = cc in omega arith)

-- what the characters before those to come gave is written from a place on, if it fits
pub record Sofar (from at : ℕ) (s : State) (cs out start : List ℕ) (whole : Result Fed Escape) : Type 0 where
  pub written : List ℕ
  pub front : before written (feed s cs) ≡ whole
  pub place : at ≡ from + length written
  pub lies : at ≤ length start → out ≡ over from written start
  pub same : length out ≡ length start

pub sofar_start : (from at : ℕ) (s : State) (cs out : List ℕ) → at ≡ from → Sofar from at s cs out out (feed s cs)
sofar_start from at s cs out e = record { written = []; front = by (feed s cs); place = omega arith; lies = λ _. sym (over_none from out); same = refl }
  where
    by : (r : Result Fed Escape) → before [] r ≡ r
    by (Ok f) = refl
    by (Err e) = refl

module _ {from at : ℕ} {s : State} {out start : List ℕ} {whole : Result Fed Escape} (xs ys : List ℕ) (so : Sofar from at s (xs ++ ys) out start whole) where
  split : before so.written (behind (feed s xs) (λ t. feed t ys)) ≡ whole
  split = ap (before so.written) (sym (feed_append s xs ys)) ∙ so.front

  -- one piece more is written
  pub sofar_on : (t : State) (n : ℕ) (next : List ℕ) → summed at (feed s xs) ≡ Ok (t, n) → (n ≤ length out → next ≡ over at (bytes_of (feed s xs)) out) → length next ≡ length out → Sofar from n t ys next start whole
  sofar_on t n next g w l = by (feed s xs) g w split
    where
      by : (r : Result Fed Escape) → summed at r ≡ Ok (t, n) → (n ≤ length out → next ≡ over at (bytes_of r) out) → before so.written (behind r (λ u. feed u ys)) ≡ whole → Sofar from n t ys next start whole
      by (Ok f) g w e =
          let p : (f.state, at + length f.bytes) ≡ (t, n) = cc in
          let q : f.state ≡ t = ap (λ (z : State × ℕ). z.0) p in
          let k : at + length f.bytes ≡ n = ap (λ (z : State × ℕ). z.1) p in
          record {
            written = so.written ++ f.bytes;
            front = ap (λ u. before (so.written ++ f.bytes) (feed u ys)) (sym q) ∙ sym (before_before so.written f.bytes (feed f.state ys)) ∙ e;
            place = omega (arith, so.place, k, length-append so.written f.bytes);
            lies = λ h.
                let a : at ≤ length start = omega (arith, k) in
                w (omega (arith, so.same)) ∙ (λ i. over (so.place i) f.bytes (so.lies a i)) ∙ over_on from so.written f.bytes start (omega (arith, so.place));
            same = l ∙ so.same;
          }
      by (Err x) g w e = absurd (let z : ◌≡◌ {A = ℕ} 0 1 = cc in omega arith)

  -- or it is refused, and so is the whole
  pub sofar_stop : (x : Escape) → summed at (feed s xs) ≡ Err x → whole ≡ Err x
  sofar_stop x g = by (feed s xs) g split
    where
      by : (r : Result Fed Escape) → summed at r ≡ Err x → before so.written (behind r (λ u. feed u ys)) ≡ whole → whole ≡ Err x
      by (Ok f) g e = absurd (let z : ◌≡◌ {A = ℕ} 0 1 = cc in omega arith)
      by (Err y) g e = let q : y ≡ x = cc in sym e ∙ ap Err q

-- at the end all is written
pub sofar_end : {from at : ℕ} {s : State} {out start : List ℕ} {whole : Result Fed Escape} → Sofar from at s [] out start whole → (summed from whole ≡ Ok (s, at)) × (at ≤ length start → out ≡ over from (bytes_of whole) start)
sofar_end {from} {at} {s} {out} {start} {whole} so =
    let e : Ok (record { state = s; bytes = so.written }) ≡ whole = ap (λ bs. Ok record { state = s; bytes = bs }) (sym (append-nil so.written)) ∙ so.front in
    (ap (summed from) (sym e) ∙ ap (λ n. Ok (s, n)) (sym so.place), λ h. so.lies h ∙ ap (λ r. over from (bytes_of r) start) e)
