-- The texts of the open Indents.
use Rattle.std.specs.Prelude.{ℕ, List, map, reverse, take, drop}
use Rattle.token.specs.declared.place.Span.{Span}
use Rattle.lines.specs.declared.levels.Levels.{Levels}

-- the part of a text over which a span stands
abbrev pub part : List ℕ → Span → List ℕ
part text l = take l.length (drop l.offset text)

-- innermost first, of spans that are kept outermost first
abbrev pub texts : List ℕ → List Span → List (List ℕ)
texts text spans = map (part text) (reverse spans)

abbrev pub texts_of : Levels → List (List ℕ)
texts_of l = texts l.text.now l.spans.now
