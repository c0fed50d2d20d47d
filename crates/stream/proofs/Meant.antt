-- What a session means, before and after its calls.
use Rattle.std.proofs.Common.{◌≡◌, ◌≤◌, Bool, true, false, cond, List, [], ◌∷◌, length, Some, None, Ok, Err, Option, Result, sym, refl, ap, ◌∙◌, arith}
use Rattle.std.proofs.lemmas.List.{length-drop}
use Rattle.token.specs.declared.fault.Fault.{Fault}
use Rattle.token.specs.declared.place.Token.{Token}
use Rattle.source.specs.Sources.{text_of}
use Rattle.lexer.specs.Answers.{answer, behind}
use Rattle.lexer.specs.Runs.{Meaning}
use Rattle.lexer.specs.States.{State}
use Rattle.runs.specs.Coming.{meant, rest, tell}
use Rattle.runs.proofs.Enough.{counted, meant_goes, meant_tells}
use Rattle.session.specs.Calls.{SessionGlances, SessionNexts, handing}
use Rattle.session.specs.Sessions.{state_of}
use Rattle.session.specs.declared.record.Session.{Session}
use Rattle.stream.specs.SessionSources.{SessionMoves, SessionStays, session_means}
use Rattle.stream.specs.Sources.{Glances, Nexts}

-- a meaning that does not tell a token has none
pub none_left : (m : Meaning) → ((t : Token) → tell m ≡ Ok (Some t) → ⊥) → m ≡ rest m
none_left m never = go m.tokens refl
  where
    go : (ts : List Token) → m.tokens ≡ ts → m ≡ rest m
    go [] e = λ i. record { tokens = (e ∙ sym (ap behind e)) i; ending = m.ending }
    go (t ∷ ts) e = absurd (never t (ap (λ us. tell (record { tokens = us; ending = m.ending })) e))

-- a next goes on to the rest
meant_handing : (σ : State) → meant (handing σ (answer σ)) ≡ rest (meant σ)
meant_handing σ = go (answer σ) refl
  where
    go : (r : Result (Option Token) Fault) → answer σ ≡ r → meant (handing σ r) ≡ rest (meant σ)
    go (Ok (Some t)) e = meant_goes σ t e
    go (Ok None) e = none_left (meant σ) (λ t h. let g = meant_tells σ in cc)
    go (Err f) e = none_left (meant σ) (λ t h. let g = meant_tells σ in cc)

unless : (b : Bool) → cond b 0 2 ≤ 2
unless true = omega arith
unless false = omega arith

-- a session means at most 98,305 tokens
session_few : (s : Session) → length (meant (state_of s)).tokens ≤ 98305
session_few s =
    omega
    (arith, counted (state_of s), unless s.ended, length-drop s.cursor.position.offset (text_of s.cursor.source), s.shallow, s.cursor.within, s.cursor.source.small)

-- what a session's calls promise, as calls of a source
pub glanced : (s u : Session) (r : Result (Option Token) Fault) → SessionGlances (state_of s) r (state_of u) → Glances session_means SessionStays s r u
glanced s u r h = record {
  gives = h.answers ∙ meant_tells (state_of s);
  leaves = ap meant h.leaves;
  few = session_few s;
  keeps = h.leaves;
}

pub nexted : (s u : Session) (r : Result (Option Token) Fault) → SessionNexts (state_of s) r (state_of u) → Nexts session_means SessionMoves s r u
nexted s u r h =
    let e : state_of u ≡ handing (state_of s) (answer (state_of s)) = h.leaves ∙ ap (handing (state_of s)) h.answers in
    record {
      gives = h.answers ∙ meant_tells (state_of s);
      leaves = ap meant e ∙ meant_handing (state_of s);
      few = session_few s;
      steps = e;
    }
