-- The law on runs.
use Rattle.std.specs.Prelude.{◌≡◌, ℕ, List, [], ◌∷◌, ◌++◌, Some, None}
use Rattle.token.specs.Told.{Refusal, refusal}
use Rattle.token.specs.declared.fault.Fault.{Fault}
use Rattle.token.specs.declared.fault.Layer.{Layer}
use Rattle.token.specs.declared.fault.Layer.TheVariants as layer
use Rattle.token.specs.declared.place.Position.{Position}
use Rattle.token.specs.declared.place.Token.{Token}
use Rattle.lexer.specs.Runs.{Meaning}
use Rattle.lexer.specs.States.{Rooms, opening}
use Rattle.runs.specs.Coming.{meant}
use Rattle.runs.specs.Laws.{Lawful}
use Rattle.session.specs.Sessions.{state_of}
use Rattle.session.specs.declared.record.Session.{Session}
use Rattle.stream.specs.Layers.{LayerMoves, LayerStays, layered}
use Rattle.stream.specs.Sifted.{significant}
use Rattle.stream.specs.declared.layer.Significant.{Significant}
use Rattle.laws.specs.Outcomes.{Outcome, hands, shows, tells, refuses, declines, ends}
use Rattle.laws.specs.Runs.{Call, Run, SessionCall, SessionRun}

-- a token comes first of what is to come
abbrev pub Leads : Token → Meaning → Type 0
Leads t left = (ts : List Token) × (left.tokens ≡ t ∷ ts)

-- nothing is to come, and the ending is this fault
abbrev pub Fails : Refusal → Meaning → Type 0
Fails f left = (left.tokens ≡ []) × ((g : Fault) × (left.ending ≡ Some g) × (refusal g ≡ f))

-- literal refuses on its own behalf by the layers text and literal; any other layer is that of a fault below
abbrev pub Below : Layer → Type 0
Below layer.Admission = Unit {0}
Below layer.Session = Unit {0}
Below layer.Text = ⊥
Below layer.Literal = ⊥

-- what a call may come to at a place where this is to come
abbrev pub Comes : Position → Meaning → Outcome → Type 0
Comes place left (hands t) = Leads t left
Comes place left (shows t) = Leads t left
Comes place left (tells p) = p ≡ place
Comes place left (refuses f) = Fails f left
Comes place left (declines f) = Below f.layer → Fails f left
Comes place left ends = (left.tokens ≡ []) × (left.ending ≡ None)

-- a session that was opened over a text, behind calls that handed out these tokens: the laws hold of them, and every call comes to what the definition has next
pub record SessionLawful (text : List ℕ) (rooms : Rooms) (ts : List Token) (a : Session) : Type 0 where
  pub laws : Lawful text rooms ts (state_of a)
  pub next : (o : Outcome) (b : Session) → SessionCall a o b → Comes (state_of a).place (meant (state_of a)) o

-- a layer, behind calls that handed out these tokens: they are the first of the source's tokens without Whitespace; the others are to come, and the source's ending; and every call comes to what is next
pub record LayerLawful {A : Type 0} (meaning : A → Meaning) (stays moves : A → A → Type 0) (s : Significant A) (ts : List Token) (a : Significant A) : Type 0 where
  pub first : significant (meaning s.below).tokens ≡ ts ++ (layered meaning a).tokens
  pub ending : (meaning s.below).ending ≡ (layered meaning a).ending
  pub next : (o : Outcome) (b : Significant A) (place : Position) → Call (layered meaning) (LayerStays meaning stays moves) (LayerMoves meaning stays moves) a o b → Comes place (layered meaning a) o

pub record EveryRunLawful {A : Type 0} (meaning : A → Meaning) (stays moves : A → A → Type 0) : Type 0 where
  -- a session as it is opened over a text, and any calls on it
  pub sessions : (text : List ℕ) (rooms : Rooms) (s : Session) → state_of s ≡ opening text rooms → (ts : List Token) (a : Session) → SessionRun s ts a → SessionLawful text rooms ts a
  -- a layer as it is made over a source of this kind, and any calls on it
  pub layers : (s : Significant A) (ts : List Token) (a : Significant A) → Run (layered meaning) (LayerStays meaning stays moves) (LayerMoves meaning stays moves) s ts a → LayerLawful meaning stays moves s ts a
