-- What may stand where, by what is open.
use Rattle.std.specs.Prelude.{◌≡◌, ℕ, ◌<◌, true, false, List, [], ◌∷◌, length, replicate, Some}
use Rattle.token.specs.declared.place.Token.{Token}
use Rattle.scan.specs.Classes.{gap}
use Rattle.scan.specs.Prefix.{begins}
use Rattle.rules.specs.Effects.{effect_of}
use Rattle.rules.specs.Lines.{indented, innermost}
use Rattle.rules.specs.declared.parts.Change.{Change}
use Rattle.rules.specs.declared.parts.Change.TheVariants as change
use Rattle.rules.specs.declared.parts.Effect.{Effect}
use Rattle.rules.specs.declared.parts.Effect.TheVariants.{Indents, Dedents, Texts, Ends, Other}
use Rattle.lexer.specs.States.{newest}
use Rattle.runs.specs.Opens.{Open, format, lexeme, opened, pair_of}

-- a run of one character, space or tab, of which the innermost of others is a shorter beginning
pub record Deeper (outer : List (List ℕ)) (w : List ℕ) : Type 0 where
  pub uniform : (c : ℕ) × (gap c ≡ true) × (w ≡ replicate (length w) c)
  pub longer : length (innermost outer) < length w
  pub beginning : begins (innermost outer) w ≡ true

-- open Indents, innermost first, are such runs, each a shorter beginning of the next
abbrev pub Nest : List (List ℕ) → Type 0
Nest [] = Unit {0}
Nest (w ∷ ws) = Deeper ws w × Nest ws

-- the marks of a body alternate, and what closes matches the newest that is open
abbrev pub Matches : Change → Open → Type 0
Matches change.Marks o = o.marked ≡ false
Matches change.Unmarks o = o.marked ≡ true
Matches (change.Closes d) o = newest o.openers ≡ Some (pair_of d)
Matches change.EndsFormat o = newest o.openers ≡ Some format
Matches _ o = Unit {0}

-- Text and Dedent come under an open Indent; Eof comes at the end of the text, n bytes on, with no Indent and no mark open
abbrev pub Proper : (n offset : ℕ) → Effect → (w : List ℕ) → Open → Type 0
Proper n offset Indents w o = Deeper o.indents w
Proper n offset Dedents w o = indented o.indents ≡ true
Proper n offset Texts w o = indented o.indents ≡ true
Proper n offset Ends w o = (offset ≡ n) × (indented o.indents ≡ false) × (o.marked ≡ false)
Proper n offset (Other c) w o = Matches c o

-- Dedent and Eof are empty, and no other token is
abbrev pub Filled : Effect → ℕ → Type 0
Filled Indents n = 0 < n
Filled Dedents n = n ≡ 0
Filled Texts n = 0 < n
Filled Ends n = n ≡ 0
Filled (Other c) n = 0 < n

-- a token may stand where so much is open
pub record Orderly (text : List ℕ) (o : Open) (t : Token) : Type 0 where
  pub onward : o.ended ≡ false
  pub filled : Filled (effect_of t.kind) t.length
  pub proper : Proper (length text) t.position.offset (effect_of t.kind) (lexeme text t) o

-- each of these tokens may stand where it does
abbrev pub AllOrderly : List ℕ → Open → List Token → Type 0
AllOrderly text o [] = Unit {0}
AllOrderly text o (t ∷ ts) = Orderly text o t × AllOrderly text (opened text o t) ts
