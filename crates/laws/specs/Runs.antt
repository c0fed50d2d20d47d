-- Runs: calls in any order, on a session and on any source of tokens. A step is what the call itself promises.
use Rattle.std.specs.Prelude.{ℕ, List, [], ◌++◌, Option, Result}
use Rattle.token.specs.declared.fault.Fault.{Fault}
use Rattle.token.specs.declared.place.Position.{Position}
use Rattle.token.specs.declared.place.Token.{Token}
use Rattle.lexer.specs.Runs.{Meaning}
use Rattle.session.specs.Calls.{SessionGlances, SessionNexts, SessionPlaces}
use Rattle.session.specs.Sessions.{state_of}
use Rattle.session.specs.declared.record.Session.{Session}
use Rattle.stream.specs.Literals.{Literals}
use Rattle.stream.specs.SessionSources.{SessionMoves, SessionStays, session_means}
use Rattle.stream.specs.Sources.{Glances, Nexts}
use Rattle.laws.specs.Outcomes.{Outcome, by_glance, by_literal, by_next, handed, tells}

-- a call on a source of tokens, before and after; literal with any text and any buffer
pub data Call {A : Type 0} (meaning : A → Meaning) (stays moves : A → A → Type 0) (a : A) : Outcome → A → Type 0 where
  nexts : {b : A} (r : Result (Option Token) Fault) → Nexts meaning moves a r b → Call meaning stays moves a (by_next r) b
  glances : {b : A} (r : Result (Option Token) Fault) → Glances meaning stays a r b → Call meaning stays moves a (by_glance r) b
  literals : {b : A} (text buffer after : List ℕ) (r : Result (Token × ℕ) Fault) → Literals meaning stays moves text buffer a r b after → Call meaning stays moves a (by_literal r) b

-- calls one after another, the tokens that they handed out, and the source that they left
pub data Run {A : Type 0} (meaning : A → Meaning) (stays moves : A → A → Type 0) (start : A) : List Token → A → Type 0 where
  made : Run meaning stays moves start [] start
  calls : {ts : List Token} {a b : A} {o : Outcome} → Run meaning stays moves start ts a → Call meaning stays moves a o b → Run meaning stays moves start (ts ++ handed o) b

-- a call on a session: its own, or one that any source of tokens has
pub data SessionCall (a : Session) : Outcome → Session → Type 0 where
  nexts : {b : Session} (r : Result (Option Token) Fault) → SessionNexts (state_of a) r (state_of b) → SessionCall a (by_next r) b
  glances : {b : Session} (r : Result (Option Token) Fault) → SessionGlances (state_of a) r (state_of b) → SessionCall a (by_glance r) b
  places : {b : Session} (p : Position) → SessionPlaces (state_of a) p (state_of b) → SessionCall a (tells p) b
  source : {b : Session} {o : Outcome} → Call session_means SessionStays SessionMoves a o b → SessionCall a o b

pub data SessionRun (start : Session) : List Token → Session → Type 0 where
  opened : SessionRun start [] start
  calls : {ts : List Token} {a b : Session} {o : Outcome} → SessionRun start ts a → SessionCall a o b → SessionRun start (ts ++ handed o) b
