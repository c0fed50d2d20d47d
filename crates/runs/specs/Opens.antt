-- What tokens leave open, from the tokens and their text alone.
use Rattle.std.specs.Prelude.{ℕ, Bool, true, false, List, [], ◌∷◌, take, drop}
use Rattle.token.specs.declared.kinds.Delimiter.{Delimiter}
use Rattle.token.specs.declared.kinds.Delimiter.TheVariants as delimiter
use Rattle.token.specs.declared.place.Token.{Token}
use Rattle.lexer.specs.Answers.{behind}
use Rattle.rules.specs.Effects.{effect_of}
use Rattle.rules.specs.declared.parts.Change.{Change}
use Rattle.rules.specs.declared.parts.Change.TheVariants as change
use Rattle.rules.specs.declared.parts.Effect.{Effect}
use Rattle.rules.specs.declared.parts.Effect.TheVariants.{Indents, Dedents, Texts, Ends, Other}

-- what opens and closes together: ( and ), [ and ], { and }, the start and the end of a format string
pub data Pair : Type 0 where
  parens : Pair
  brackets : Pair
  braces : Pair
  format : Pair

abbrev pub pair_of : Delimiter → Pair
pair_of delimiter.Brace = braces
pair_of delimiter.Bracket = brackets
pair_of (delimiter.FormatString k) = format
pair_of delimiter.Paren = parens

-- the texts of the open Indents, innermost first; whether an interpolation of a body is open; the open pairs, newest first; whether Eof has come
pub record Open : Type 0 where
  pub indents : List (List ℕ)
  pub marked : Bool
  pub openers : List Pair
  pub ended : Bool

abbrev pub closed : Open
closed = record { indents = []; marked = false; openers = []; ended = false }

-- the part of a text that a token stands for
abbrev pub lexeme : List ℕ → Token → List ℕ
lexeme text t = take t.length (drop t.position.offset text)

abbrev pub changes : Change → Open → Open
changes change.Marks o = record o { marked = true }
changes change.Unmarks o = record o { marked = false }
changes (change.Opens d) o = record o { openers = pair_of d ∷ o.openers }
changes (change.Closes d) o = record o { openers = behind o.openers }
changes change.BeginsFormat o = record o { openers = format ∷ o.openers }
changes change.EndsFormat o = record o { openers = behind o.openers }
changes _ o = o

-- a Dedent closes the innermost open Indent alone
abbrev pub effects : Effect → List ℕ → Open → Open
effects Indents w o = record o { indents = w ∷ o.indents }
effects Dedents w o = record o { indents = behind o.indents }
effects Texts w o = o
effects Ends w o = record o { ended = true }
effects (Other c) w o = changes c o

-- what is open behind a token
abbrev pub opened : List ℕ → Open → Token → Open
opened text o t = effects (effect_of t.kind) (lexeme text t) o

-- what is open behind tokens
abbrev pub leaves : List ℕ → Open → List Token → Open
leaves text o [] = o
leaves text o (t ∷ ts) = leaves text (opened text o t) ts
