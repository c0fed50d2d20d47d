-- Tokens handed out one after another, and what is then still to come.
use Rattle.std.proofs.Common.{◌≡◌, List, [], ◌∷◌, ◌++◌, Some, Ok, sym, refl, ap, ◌∙◌}
use Rattle.token.specs.declared.place.Token.{Token}
use Rattle.lexer.specs.Answers.{after, answer}
use Rattle.lexer.specs.Runs.{Meaning}
use Rattle.lexer.specs.States.{State}
use Rattle.runs.specs.Coming.{meant}
use Rattle.runs.specs.Hands.{Hands, done, more}
use Rattle.runs.proofs.Enough.{meant_goes, meant_leads}

pub hands_one : (σ : State) (t : Token) → answer σ ≡ Ok (Some t) → Hands σ (t ∷ []) (after σ t)
hands_one σ t e = more t e done

pub hands_append : {σ τ υ : State} {ts us : List Token} → Hands σ ts τ → Hands τ us υ → Hands σ (ts ++ us) υ
hands_append done k = k
hands_append (more t e h) k = more t e (hands_append h k)

-- the tokens handed out come first of what was to come, and the ending stays
pub hands_meant : {σ τ : State} {ts : List Token} → Hands σ ts τ → ((meant σ).tokens ≡ ts ++ (meant τ).tokens) × ((meant σ).ending ≡ (meant τ).ending)
hands_meant done = (refl, refl)
hands_meant (more {σ = σ} t e h) =
    let r = hands_meant h in
    (meant_leads σ t e ∙ ap (λ (us : List Token). t ∷ us) r.0, sym (ap (λ (m : Meaning). m.ending) (meant_goes σ t e)) ∙ r.1)
