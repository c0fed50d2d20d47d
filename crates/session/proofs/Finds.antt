-- What the rules find at a cursor fits what lies ahead and cuts no character.
use Rattle.std.proofs.Common.{◌≡◌, ℕ, ◌≤◌, Bool, List, length, IsUtf8, sym, subst, arith}
use Rattle.std.proofs.lemmas.List.{length-drop}
use Rattle.std.proofs.lemmas.Str.{IsUtf8-drop}
use Rattle.utf8.proofs.Bad.{bound_boundary, boundary_bound, well_formed_text}
use Rattle.source.specs.Cursors.{ahead as ahead_of}
use Rattle.source.specs.Sources.{text_of}
use Rattle.source.specs.declared.cursor.Cursor.{Cursor}
use Rattle.rules.specs.Effects.{effect_of}
use Rattle.rules.specs.Laws.{Sound}
use Rattle.rules.specs.declared.found.Around.{Around}
use Rattle.rules.specs.Found.{Found, Lexed, Fails, Unclosed}
use Rattle.rules.proofs.Ruled.{rules_sound}
use Rattle.rules.proofs.Whole.{Whole, rule_whole}
use Rattle.lexer.proofs.Came.{fits_within}
use Rattle.lexer.specs.States.{State, ahead, around, found, level_texts}
use Rattle.session.specs.Sessions.{state_of}
use Rattle.session.specs.Sized.{Sized}
use Rattle.session.specs.declared.record.Session.{Session}

-- what lies ahead of a cursor is text
pub cursor_text : (c : Cursor) → IsUtf8 (ahead_of c)
cursor_text c =
    let u = well_formed_text (text_of c.source) c.source.valid in
    IsUtf8-drop (text_of c.source) c.position.offset u (bound_boundary (text_of c.source) c.position.offset u c.between)

sized_by : (fresh : Bool) (o : Around) (ls : List (List ℕ)) (σ : State) (f : Found) → length (ahead σ) ≤ 65536 → IsUtf8 (ahead σ) → Sound fresh o ls (ahead σ) f → Whole (ahead σ) f → Sized σ f
sized_by fresh o ls σ (Lexed k n) l u h w = omega (arith, fits_within fresh o ls (ahead σ) (effect_of k) n h)
sized_by fresh o ls σ (Fails c a n) l u h w = (boundary_bound (ahead σ) a u w, omega (arith, h.1))
sized_by fresh o ls σ Unclosed l u h w = tt

pub found_sized : (s : Session) (f : Found) → f ≡ found (state_of s) → Sized (state_of s) f
found_sized s f e =
    let σ = state_of s in
    let u = cursor_text s.cursor in
    subst (Sized σ) (sym e)
    (sized_by _ (around σ) (level_texts σ) σ (found σ)
    (omega (arith, length-drop s.cursor.position.offset (text_of s.cursor.source), s.cursor.source.small)) u
    (rules_sound _ (around σ) (level_texts σ) (ahead σ)) (rule_whole (around σ) (level_texts σ) (ahead σ) u _))
