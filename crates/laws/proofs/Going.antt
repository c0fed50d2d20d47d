-- Where calls lead: each hands out what comes first, or nothing.
use Rattle.std.proofs.Common.{◌≡◌, ℕ, List, [], ◌∷◌, ◌++◌, length, Some, None, Ok, Err, Option, Result, sym, refl, ap, ◌∙◌, subst, append_assoc}
use Rattle.token.specs.Told.{origin}
use Rattle.token.specs.declared.fault.Fault.{Fault}
use Rattle.token.specs.declared.place.Position.{Position}
use Rattle.token.specs.declared.place.Token.{Token}
use Rattle.lexer.specs.Answers.{after, answer, behind}
use Rattle.lexer.specs.Runs.{Meaning}
use Rattle.lexer.specs.States.{Rooms, State, opening}
use Rattle.runs.specs.Coming.{meant, rest, tell}
use Rattle.runs.specs.Hands.{Hands, done}
use Rattle.runs.proofs.Enough.{meant_tells}
use Rattle.runs.proofs.Handing.{hands_append, hands_one}
use Rattle.runs.proofs.Lawfully.{runs_lawful}
use Rattle.session.specs.Calls.{handing}
use Rattle.session.specs.Sessions.{state_of}
use Rattle.session.specs.declared.record.Session.{Session}
use Rattle.stream.specs.Layers.{LayerMoves, LayerStays, layered}
use Rattle.stream.specs.Literals.{Literals}
use Rattle.stream.specs.SessionSources.{SessionMoves, SessionStays, session_means}
use Rattle.stream.specs.declared.layer.Significant.{Significant}
use Rattle.stream.proofs.Sifting.{leads}
use Rattle.laws.specs.Laws.{Comes, LayerLawful, SessionLawful}
use Rattle.laws.specs.Outcomes.{Outcome, by_glance, by_literal, by_next, handed}
use Rattle.laws.specs.Runs.{Call, Run, SessionCall, SessionRun}
use Rattle.laws.specs.Runs as run
use Rattle.laws.proofs.Coming.{glance_comes, literal_comes, literal_first, next_comes}

-- one meaning goes on to another as tokens are handed out
pub record Goes (m : Meaning) (ts : List Token) (n : Meaning) : Type 0 where
  pub first : m.tokens ≡ ts ++ n.tokens
  pub ending : m.ending ≡ n.ending

still : (m n : Meaning) → n ≡ m → Goes m [] n
still m n e = record { first = sym (ap (λ (x : Meaning). x.tokens) e); ending = sym (ap (λ (x : Meaning). x.ending) e) }

over : (m n : Meaning) (t : Token) → tell m ≡ Ok (Some t) → n ≡ rest m → Goes m (t ∷ []) n
over m n t e r = record {
  first = leads m t e ∙ ap (λ us. t ∷ us) (sym (ap (λ (x : Meaning). x.tokens) r));
  ending = sym (ap (λ (x : Meaning). x.ending) r);
}

-- with no token to come nothing is taken off
rest_none : (m : Meaning) → m.tokens ≡ [] → rest m ≡ m
rest_none m e = λ i. record { tokens = (ap behind e ∙ sym e) i; ending = m.ending }

goes_next : (m n : Meaning) (r : Result (Option Token) Fault) → r ≡ tell m → n ≡ rest m → Goes m (handed (by_next r)) n
goes_next m n (Ok (Some t)) e l = over m n t (sym e) l
goes_next m n (Ok None) e l = still m n (l ∙ rest_none m (next_comes origin m (Ok None) e).0)
goes_next m n (Err f) e l = still m n (l ∙ rest_none m (next_comes origin m (Err f) e).0)

goes_glance : (m n : Meaning) (r : Result (Option Token) Fault) → n ≡ m → Goes m (handed (by_glance r)) n
goes_glance m n (Ok (Some t)) l = still m n l
goes_glance m n _ l = still m n l

-- calls on any source of tokens
module _ {A : Type 0} (meaning : A → Meaning) (stays moves : A → A → Type 0) where
  goes_literal : (a b : A) (text buffer after : List ℕ) (r : Result (Token × ℕ) Fault) → Literals meaning stays moves text buffer a r b after → Goes (meaning a) (handed (by_literal r)) (meaning b)
  goes_literal a b text buffer after (Ok p) h = over (meaning a) (meaning b) p.0 (literal_first (meaning a) text (length buffer) p h.tells) h.leaves
  goes_literal a b text buffer after (Err f) h = still (meaning a) (meaning b) h.leaves

  call_goes : (a b : A) (o : Outcome) → Call meaning stays moves a o b → Goes (meaning a) (handed o) (meaning b)
  call_goes a b o (run.nexts r h) = goes_next (meaning a) (meaning b) r h.gives h.leaves
  call_goes a b o (run.glances r h) = goes_glance (meaning a) (meaning b) r h.leaves
  call_goes a b o (run.literals text buffer after r h) = goes_literal a b text buffer after r h

  pub call_comes : (p : Position) (a b : A) (o : Outcome) → Call meaning stays moves a o b → Comes p (meaning a) o
  call_comes p a b o (run.nexts r h) = next_comes p (meaning a) r h.gives
  call_comes p a b o (run.glances r h) = glance_comes p (meaning a) r h.gives
  call_comes p a b o (run.literals text buffer after r h) = literal_comes p (meaning a) text (length buffer) r h.tells

  pub run_goes : (s : A) (ts : List Token) (a : A) → Run meaning stays moves s ts a → Goes (meaning s) ts (meaning a)
  run_goes s ts a run.made = still (meaning s) (meaning s) refl
  run_goes s ts a (run.calls {ts = us} {a = b} {o = o} r c) =
      let g = run_goes s us b r in
      let h = call_goes b a o c in
      record {
        first = g.first ∙ ap (λ vs. us ++ vs) h.first ∙ sym (append_assoc us (handed o) (meaning a).tokens);
        ending = g.ending ∙ h.ending;
      }

-- the law of layers
pub layer_law : {A : Type 0} (meaning : A → Meaning) (stays moves : A → A → Type 0) (s : Significant A) (ts : List Token) (a : Significant A) → Run (layered meaning) (LayerStays meaning stays moves) (LayerMoves meaning stays moves) s ts a → LayerLawful meaning stays moves s ts a
layer_law meaning stays moves s ts a r =
    let g = run_goes (layered meaning) (LayerStays meaning stays moves) (LayerMoves meaning stays moves) s ts a r in
    record {
      first = g.first;
      ending = g.ending;
      next = λ o b p c. call_comes (layered meaning) (LayerStays meaning stays moves) (LayerMoves meaning stays moves) p a b o c;
    }

-- calls on a session
next_hands : (σ τ : State) (r : Result (Option Token) Fault) → r ≡ answer σ → τ ≡ handing σ r → Hands σ (handed (by_next r)) τ
next_hands σ τ (Ok (Some t)) e l = subst (Hands σ (t ∷ [])) (sym l) (hands_one σ t (sym e))
next_hands σ τ _ e l = subst (Hands σ []) (sym l) done

glance_hands : (σ τ : State) (r : Result (Option Token) Fault) → τ ≡ σ → Hands σ (handed (by_glance r)) τ
glance_hands σ τ (Ok (Some t)) l = subst (Hands σ []) (sym l) done
glance_hands σ τ _ l = subst (Hands σ []) (sym l) done

literal_hands : (a b : Session) (text buffer after : List ℕ) (r : Result (Token × ℕ) Fault) → Literals session_means SessionStays SessionMoves text buffer a r b after → Hands (state_of a) (handed (by_literal r)) (state_of b)
literal_hands a b text buffer after (Ok p) h =
    let σ = state_of a in
    let e : answer σ ≡ Ok (Some p.0) = meant_tells σ ∙ literal_first (meant σ) text (length buffer) p h.tells in
    let l : state_of b ≡ handing σ (Ok (Some p.0)) = h.calls.2 ∙ ap (λ τ. handing τ (answer τ)) h.calls.1 ∙ ap (handing σ) e in
    subst (Hands σ (p.0 ∷ [])) (sym l) (hands_one σ p.0 e)
literal_hands a b text buffer after (Err f) h = subst (Hands (state_of a) []) (sym h.calls) done

call_hands : (a b : Session) (o : Outcome) → SessionCall a o b → Hands (state_of a) (handed o) (state_of b)
call_hands a b o (run.nexts r h) = next_hands (state_of a) (state_of b) r h.answers h.leaves
call_hands a b o (run.glances r h) = glance_hands (state_of a) (state_of b) r h.leaves
call_hands a b o (run.places p h) = subst (Hands (state_of a) []) (sym h.leaves) done
call_hands a b o (run.source (run.nexts r h)) =
    let e : r ≡ answer (state_of a) = h.gives ∙ sym (meant_tells (state_of a)) in
    next_hands (state_of a) (state_of b) r e (h.steps ∙ ap (handing (state_of a)) (sym e))
call_hands a b o (run.source (run.glances r h)) = glance_hands (state_of a) (state_of b) r h.keeps
call_hands a b o (run.source (run.literals text buffer after r h)) = literal_hands a b text buffer after r h

session_call_comes : (a b : Session) (o : Outcome) → SessionCall a o b → Comes (state_of a).place (meant (state_of a)) o
session_call_comes a b o (run.nexts r h) = next_comes (state_of a).place (meant (state_of a)) r (h.answers ∙ meant_tells (state_of a))
session_call_comes a b o (run.glances r h) = glance_comes (state_of a).place (meant (state_of a)) r (h.answers ∙ meant_tells (state_of a))
session_call_comes a b o (run.places p h) = h.answers
session_call_comes a b o (run.source c) = call_comes session_means SessionStays SessionMoves (state_of a).place a b o c

run_hands : (s : Session) (ts : List Token) (a : Session) → SessionRun s ts a → Hands (state_of s) ts (state_of a)
run_hands s ts a run.opened = done
run_hands s ts a (run.calls {ts = us} {a = b} {o = o} r c) = hands_append (run_hands s us b r) (call_hands b a o c)

-- the law of sessions
pub session_law : (text : List ℕ) (rooms : Rooms) (s : Session) → state_of s ≡ opening text rooms → (ts : List Token) (a : Session) → SessionRun s ts a → SessionLawful text rooms ts a
session_law text rooms s e ts a r = record {
  laws = runs_lawful text rooms ts (state_of a) (subst (λ σ. Hands σ ts (state_of a)) e (run_hands s ts a r));
  next = λ o b c. session_call_comes a b o c;
}
