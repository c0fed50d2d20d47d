-- A session: where it stands, and what the tokens handed out left open.
use Rattle.std.specs.Prelude.{ℕ, Bool, false, List, [], ◌∷◌, map, take, drop, is_some, Some, None, Option, ◌==◌}
use Rattle.token.specs.Told.{origin}
use Rattle.token.specs.declared.kinds.Delimiter.{Delimiter}
use Rattle.token.specs.declared.place.Position.{Position}
use Rattle.token.specs.declared.place.Span.{Span}
use Rattle.token.specs.declared.place.Token.{Token}
use Rattle.rules.specs.declared.found.Around.{Around}
use Rattle.rules.specs.Found.{Found}
use Rattle.rules.specs.Lines.{rule}

-- the open delimiters, newest first; the open mark of a body; whether a Colon came since the last Dedent or the opening; whether the token just before is the Identifier f
pub record Inner : Type 0 where
  pub openers : List Delimiter
  pub mark : Option Token
  pub colon : Bool
  pub formats : Bool

-- the open Indents, innermost first; whether a body has begun; whether Eof was handed out
pub record Standing : Type 0 where
  pub levels : List Span
  pub body : Bool
  pub ended : Bool
  pub inner : Inner

-- how many entries the table of levels and the table of openers can hold
pub record Rooms : Type 0 where
  pub levels : ℕ
  pub openers : ℕ

pub record State : Type 0 where
  pub text : List ℕ
  pub rooms : Rooms
  pub place : Position
  pub standing : Standing

abbrev pub opening : List ℕ → Rooms → State
opening text rooms = record {
  text = text;
  rooms = rooms;
  place = origin;
  standing = record { levels = []; body = false; ended = false; inner = record { openers = []; mark = None; colon = false; formats = false } };
}

-- the bytes ahead
abbrev pub ahead : State → List ℕ
ahead σ = drop σ.place.offset σ.text

-- the part of a text over which a span stands
abbrev pub spanned : List ℕ → Span → List ℕ
spanned text s = take s.length (drop s.offset text)

abbrev pub level_texts : State → List (List ℕ)
level_texts σ = map (spanned σ.text) σ.standing.levels

abbrev pub newest : {A : Type 0} → List A → Option A
newest [] = None
newest (x ∷ xs) = Some x

-- what the rules see
abbrev pub around : State → Around
around σ = record {
  newest = newest σ.standing.inner.openers;
  marked = is_some σ.standing.inner.mark;
  body = σ.standing.body;
  formats = σ.standing.inner.formats;
}

-- what the rules find
abbrev pub found : State → Found
found σ = rule (σ.place.column == 0) (around σ) (level_texts σ) (ahead σ)
