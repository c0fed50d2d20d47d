-- A token that is answered was found, has room, and ends between characters.
use Rattle.std.proofs.Common.{◌≡◌, ℕ, ◌+◌, ◌-◌, ◌<◌, ◌≤◌, Bool, true, false, cond, eqb, leb, nat_lt, List, length, Some, None, Ok, sym, refl, ap, ◌∙◌, subst, arith}
use Rattle.std.proofs.lemmas.Bool.{leb-false, lt-ltb}
use Rattle.token.specs.declared.fault.Cause.{Cause}
use Rattle.token.specs.declared.place.Token.{Token}
use Rattle.utf8.specs.Utf8.{bound}
use Rattle.utf8.proofs.Bad.{boundary_bound}
use Rattle.stack.specs.Held.{stacked}
use Rattle.rules.specs.Effects.{effect_of}
use Rattle.rules.specs.Laws.{Fits}
use Rattle.rules.specs.declared.parts.Effect.{Effect}
use Rattle.rules.specs.declared.parts.Effect.TheVariants.{Indents}
use Rattle.rules.proofs.Whole.{Whole, rule_whole}
use Rattle.lexer.specs.Answers.{answer, full}
use Rattle.lexer.proofs.Came.{came, fitting, token_within}
use Rattle.lexer.specs.States.{ahead, around, found, level_texts}
use Rattle.session.specs.Sessions.{state_of}
use Rattle.session.specs.declared.record.Session.{Session}
use Rattle.source.specs.Cursors.{ahead as ahead_of}
use Rattle.source.specs.Places.{walk}
use Rattle.source.specs.declared.cursor.Cursor.{Cursor}
use Rattle.source.proofs.Walks.{ahead_behind, walk_offset}
use Rattle.lines.specs.Reaches.{settled}
use Rattle.lines.specs.declared.reached.Reach.{Reach}
use Rattle.lines.proofs.Settled.{settled_drop}
use Rattle.token.specs.declared.place.Position.{Position}
use Rattle.session.proofs.Finds.{cursor_text}

-- a table that is not full has room
pub roomy : {A : Type 0} (xs : List A) (room : ℕ) (c : Cause) → full xs room c ≡ None → nat_lt (length xs) room ≡ true
roomy xs room c e = go (leb room (length xs)) refl e
  where
    go : (b : Bool) → leb room (length xs) ≡ b → cond b (Some c) None ≡ None → nat_lt (length xs) room ≡ true
    go true q e = cc
    go false q e = lt-ltb (length xs) room (leb-false room (length xs) q)

-- behind a token that is answered
module _ (s : Session) (t : Token) (e : answer (state_of s) ≡ Ok (Some t)) (c : Cursor) (k : c.source ≡ s.cursor.source) (w : c.position ≡ walk t.length (ahead_of s.cursor) s.cursor.position) where
  within : t.length ≤ length (ahead_of s.cursor)
  within = token_within (state_of s) t e

  offset : c.position.offset ≡ s.cursor.position.offset + t.length
  offset = ap (λ (q : Position). q.offset) w ∙ walk_offset t.length (ahead_of s.cursor) s.cursor.position within

  pub shallow_behind : length (stacked s.levels) ≤ c.position.offset
  shallow_behind = omega (arith, offset, s.shallow)

  pub settled_behind : (r : Reach) → r.length ≡ s.blank.length - t.length → r.outdents ≡ s.blank.outdents → settled r.outdents r.length (ahead_of c) ≡ true
  settled_behind r l o =
      (λ i. settled (o i) (l i) (ahead_behind s.cursor c t.length within k w i))
      ∙ settled_drop s.blank.outdents t.length s.blank.length (ahead_of s.cursor) s.settled

  -- an Indent has bytes of its own before the place
  pub deep_behind : (f : Effect) → f ≡ effect_of t.kind → f ≡ Indents → length (stacked s.levels) < c.position.offset
  deep_behind f q i =
      let h = subst (λ g. Fits (eqb s.cursor.position.column 0) (around (state_of s)) (level_texts (state_of s)) (ahead (state_of s)) g t.length) (sym q ∙ i) (fitting (state_of s) t e) in
      omega (arith, s.shallow, h.1.longer, offset)

pub ends_between : (s : Session) (t : Token) → answer (state_of s) ≡ Ok (Some t) → bound (ahead (state_of s)) t.length ≡ true
ends_between s t e =
    let σ = state_of s in
    let u = cursor_text s.cursor in
    let w : Whole (ahead σ) (found σ) = rule_whole (around σ) (level_texts σ) (ahead σ) u _ in
    boundary_bound (ahead σ) t.length u (subst (Whole (ahead σ)) (came σ t e).lexed w)
