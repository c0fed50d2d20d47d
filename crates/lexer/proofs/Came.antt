-- What a token that is answered came from.
use Rattle.std.proofs.Common.{◌≡◌, ℕ, ◌≤◌, Bool, true, false, cond, eqb, List, length, Some, None, Ok, Option, sym, refl, ap, subst, arith}
use Rattle.token.specs.declared.fault.Cause.{Cause}
use Rattle.token.specs.declared.place.Token.{Token}
use Rattle.rules.specs.Effects.{effect_of}
use Rattle.rules.specs.Laws.{Fits, Sound}
use Rattle.rules.specs.declared.found.Around.{Around}
use Rattle.rules.specs.declared.parts.Effect.{Effect}
use Rattle.rules.specs.declared.parts.Effect.TheVariants.{Indents, Dedents, Texts, Ends, Other}
use Rattle.rules.specs.Found.{Found, Lexed, Fails, Unclosed}
use Rattle.rules.proofs.Ruled.{rules_sound}
use Rattle.lexer.specs.Answers.{answer, lacks, placed, roomed, stored}
use Rattle.lexer.specs.States.{State, ahead, around, found, level_texts}

-- a rule found it, at the place, the table that it needs has room, and Eof had not come
pub record Came (σ : State) (t : Token) : Type 0 where
  pub awake : σ.standing.ended ≡ false
  pub roomy : lacks σ (effect_of t.kind) ≡ None
  pub lexed : found σ ≡ Lexed t.kind t.length
  pub placed : t.position ≡ σ.place

record From (σ : State) (t : Token) (f : Found) : Type 0 where
  roomy : lacks σ (effect_of t.kind) ≡ None
  lexed : f ≡ Lexed t.kind t.length
  placed : t.position ≡ σ.place

from : (σ : State) (t : Token) (f : Found) → stored σ (placed σ f) ≡ Ok (Some t) → From σ t f
from σ t (Lexed k n) e = room (lacks σ (effect_of k)) refl e
  where
    room : (o : Option Cause) → lacks σ (effect_of k) ≡ o → roomed (record { kind = k; position = σ.place; length = n }) o ≡ Ok (Some t) → From σ t (Lexed k n)
    room None l e =
        let q : ◌≡◌ {A = Token} (record { kind = k; position = σ.place; length = n }) t = cc in
        record {
          roomy = subst (λ (u : Token). lacks σ (effect_of u.kind) ≡ None) q l;
          lexed = ap (λ (u : Token). Lexed u.kind u.length) q;
          placed = sym (ap (λ (u : Token). u.position) q);
        }
    room (Some c) l e = cc
from σ t (Fails c a n) e = cc
from σ t Unclosed e = cc

pub came : (σ : State) (t : Token) → answer σ ≡ Ok (Some t) → Came σ t
came σ t e = go σ.standing.ended refl e
  where
    go : (b : Bool) → σ.standing.ended ≡ b → cond b (Ok None) (stored σ (placed σ (found σ))) ≡ Ok (Some t) → Came σ t
    go true q e = cc
    go false q e = let p = from σ t (found σ) e in record { awake = q; roomy = p.roomy; lexed = p.lexed; placed = p.placed }

-- it fits what lies ahead and what is open
pub fitting : (σ : State) (t : Token) → answer σ ≡ Ok (Some t) → Fits (eqb σ.place.column 0) (around σ) (level_texts σ) (ahead σ) (effect_of t.kind) t.length
fitting σ t e =
    subst (Sound (eqb σ.place.column 0) (around σ) (level_texts σ) (ahead σ)) (came σ t e).lexed
    (rules_sound (eqb σ.place.column 0) (around σ) (level_texts σ) (ahead σ))

-- so it lies within what is ahead
pub fits_within : (fresh : Bool) (o : Around) (levels : List (List ℕ)) (s : List ℕ) (e : Effect) (n : ℕ) → Fits fresh o levels s e n → n ≤ length s
fits_within fresh o levels s Indents n f = omega (arith, f.1.within)
fits_within fresh o levels s Dedents n f = omega (arith, f.0)
fits_within fresh o levels s Texts n f = f.1
fits_within fresh o levels s Ends n f = omega (arith, f.0)
fits_within fresh o levels s (Other c) n f = f.1

pub token_within : (σ : State) (t : Token) → answer σ ≡ Ok (Some t) → t.length ≤ length (ahead σ)
token_within σ t e = fits_within (eqb σ.place.column 0) (around σ) (level_texts σ) (ahead σ) (effect_of t.kind) t.length (fitting σ t e)
