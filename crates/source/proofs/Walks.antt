-- Laws of walking over bytes.
use Rattle.std.proofs.Common.{◌≡◌, ℕ, zero, suc, ◌+◌, ◌<◌, ◌≤◌, Bool, true, false, not, List, [], ◌∷◌, length, drop, sym, refl, ap, ◌∙◌, arith}
use Rattle.token.specs.declared.place.Position.{Position}
use Rattle.std.proofs.lemmas.Bool.{false≢true}
use Rattle.std.proofs.lemmas.List.{drop-drop, length-drop}
use Rattle.utf8.specs.Utf8.{character}
use Rattle.utf8.proofs.Rows.{character_begun}
use Rattle.source.specs.Cursors.{ahead}
use Rattle.source.specs.Places.{breaks, past, walk, none}
use Rattle.source.specs.Sources.{text_of}
use Rattle.source.specs.declared.cursor.Cursor.{Cursor}
use Rattle.source.proofs.Passes.{stepped}

past_offset : (b : Bool) (p : Position) → (past b p).offset ≡ p.offset + 1
past_offset true p = refl
past_offset false p = refl

-- each byte passed raises the offset by one
pub walk_offset : (n : ℕ) (bs : List ℕ) (p : Position) → n ≤ length bs → (walk n bs p).offset ≡ p.offset + n
walk_offset zero bs p h = omega arith
walk_offset (suc n) [] p h = absurd (omega arith)
walk_offset (suc n) (b ∷ bs) p h =
    let q : Position = past (breaks (b ∷ bs)) p in
    omega (arith, walk_offset n bs q (omega arith), past_offset (breaks (b ∷ bs)) p)

-- a walk may be broken anywhere
pub walk_add : (m n : ℕ) (bs : List ℕ) (p : Position) → m ≤ length bs → walk (m + n) bs p ≡ walk n (drop m bs) (walk m bs p)
walk_add zero n bs p h = ap (λ k. walk k bs p) (let e : 0 + n ≡ n = omega arith in e)
walk_add (suc m) n [] p h = absurd (omega arith)
walk_add (suc m) n (b ∷ bs) p h =
    ap (λ k. walk k (b ∷ bs) p) (let e : suc m + n ≡ suc (m + n) = omega arith in e) ∙ walk_add m n bs (past (breaks (b ∷ bs)) p) (omega arith)

-- where something lies ahead, a character does
pub character_ahead : (a : Cursor) → 0 < length (ahead a) → 0 < character (ahead a)
character_ahead a h = (stepped (text_of a.source) a.position (ahead a) a.source.valid a.between refl h).there

-- what lies ahead behind a walk
pub ahead_behind : (a b : Cursor) (n : ℕ) → n ≤ length (ahead a) → b.source ≡ a.source → b.position ≡ walk n (ahead a) a.position → ahead b ≡ drop n (ahead a)
ahead_behind a b n h s p =
    let o : b.position.offset ≡ a.position.offset + n = ap (λ (q : Position). q.offset) p ∙ walk_offset n (ahead a) a.position h in
    (λ i. drop (o i) (text_of (s i))) ∙ sym (drop-drop n a.position.offset (text_of a.source))

-- a step leaves the rest of the walk
pub step_walk : (a b : Cursor) → b.source ≡ a.source → b.position ≡ walk (character (ahead a)) (ahead a) a.position → walk (length (ahead b)) (ahead b) b.position ≡ walk (length (ahead a)) (ahead a) a.position
step_walk a b s p =
    let n : ℕ = character (ahead a) in
    let h : n ≤ length (ahead a) = (character_begun (ahead a)).within in
    let e : ahead b ≡ drop n (ahead a) = ahead_behind a b n h s p in
    let l : n + length (drop n (ahead a)) ≡ length (ahead a) = omega (arith, length-drop n (ahead a)) in
    (λ i. walk (length (e i)) (e i) (p i)) ∙ sym (walk_add n (length (drop n (ahead a))) (ahead a) a.position h) ∙ ap (λ k. walk k (ahead a) a.position) l

pub step_length : (a b : Cursor) → b.source ≡ a.source → b.position ≡ walk (character (ahead a)) (ahead a) a.position → length (ahead b) + character (ahead a) ≡ length (ahead a)
step_length a b s p =
    let n : ℕ = character (ahead a) in
    let h : n ≤ length (ahead a) = (character_begun (ahead a)).within in
    omega (arith, ap length (ahead_behind a b n h s p), length-drop n (ahead a))

-- at the end there is nothing to pass
pub end_walk : (n : ℕ) (bs : List ℕ) (p : Position) → false ≡ not (none bs) → walk n bs p ≡ p
end_walk zero bs p h = refl
end_walk (suc n) [] p h = refl
end_walk (suc n) (b ∷ bs) p h = absurd (false≢true h)

pub some_length : (bs : List ℕ) → true ≡ not (none bs) → 0 < length bs
some_length [] h = absurd (false≢true (sym h))
some_length (b ∷ bs) h = omega arith
