use Rattle.std.proofs.Common.{◌≡◌, ℕ, ◌+◌, ◌<◌, List, ◌∷◌, Some, slice_get, sym, ap, ◌∙◌, arith}
use Rattle.token.specs.declared.place.Position.{Position}
use Rattle.source.specs.Cursors.{ahead}
use Rattle.source.specs.Places.{behind, breaks, walk}
use Rattle.source.specs.Sources.{text_of}
use Rattle.utf8.specs.Utf8.{character, bound}
use Rattle.source.specs.declared.cursor.Cursor.{Cursor}
use Rattle.source.proofs.Passes.{Stepped, stepped, agreed, one_ahead, behind_offset, behind_near}
use Rattle.source.proofs.cursor.Cursor.advance.Goals as goal

-- the step from a cursor with something ahead, by the length that the first byte shows
went : (s : Cursor) (rest : List ℕ) (x n : ℕ) → rest ≡ ahead s → Some x ≡ slice_get rest 0 → ((r : List ℕ) → 0 < character (x ∷ r) → n ≡ character (x ∷ r)) → (n ≡ character rest) × Stepped (text_of s.source) s.position rest
went s rest x n e h k =
    let t = stepped (text_of s.source) s.position rest s.source.valid s.between e (one_ahead rest x h) in
    (agreed rest x n h t.there k, t)

-- and the place behind it
moved : (s : Cursor) (rest : List ℕ) (n : ℕ) (q : Position) → rest ≡ ahead s → n ≡ character rest → Stepped (text_of s.source) s.position rest → q ≡ behind n (breaks rest) s.position → q ≡ walk (character (ahead s)) (ahead s) s.position
moved s rest n q e m t b =
    b ∙ ap (λ k. behind k (breaks rest) s.position) m ∙ sym t.moved ∙ ap (λ l. walk (character l) l s.position) e

pub go_on-requires : goal.go_on-requires
go_on-requires c =
    let s = c.args.self.now in
    let w = went s _ _ _ c.rest-rest.ensures c.in-Some.ensures.value c.character_length-n.ensures.agrees in
    (omega (arith, w.0, w.1.room, s.source.small), s.near)

pub invariant_of-self : goal.invariant_of-self
invariant_of-self c =
    let s = c.args.self.now in
    let w = went s _ _ _ c.rest-rest.ensures c.in-Some.ensures.value c.character_length-n.ensures.agrees in
    let o = behind_offset _ _ s.position _ c.go_on.ensures in
    let n : c.go_on.new.place.offset ≡ s.position.offset + character c.rest-rest.result.now = o ∙ ap (λ k. s.position.offset + k) w.0 in
    record {
      within = omega (arith, n, w.1.room);
      between = ap (bound (text_of s.source)) n ∙ w.1.next;
      near = behind_near _ _ s.position _ (omega (arith, w.0, w.1.there)) c.go_on.ensures s.near;
    }

pub returns-clause-moves : goal.returns-clause-moves
returns-clause-moves c =
    let s = c.args.self.now in
    let rest = c.rest-rest.result.now in
    let w = went s rest _ c.character_length-n.result c.rest-rest.ensures c.in-Some.ensures.value c.character_length-n.ensures.agrees in
    let b : c.go_on.new.place ≡ behind c.character_length-n.result (breaks rest) s.position =
    c.go_on.ensures ∙ ap (λ t. behind c.character_length-n.result t s.position) c.breaks_line.ensures in
    moved s rest _ _ c.rest-rest.ensures w.0 w.1 b
