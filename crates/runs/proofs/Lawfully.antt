-- Whatever is handed out from the opening of a session on keeps the laws.
use Rattle.std.proofs.Common.{◌≡◌, ℕ, ◌+◌, Bool, true, false, cond, List, ◌++◌, length, take, drop, Some, None, Ok, Option, sym, refl, ap, ◌∙◌, subst, arith}
use Rattle.std.specs.List.{flat_map}
use Rattle.std.proofs.lemmas.List.{append_assoc, append_cancel_right, length-append, take-append-drop}
use Rattle.token.specs.Told.{origin}
use Rattle.token.specs.declared.fault.Cause.{Cause}
use Rattle.token.specs.declared.place.Position.{Position}
use Rattle.token.specs.declared.place.Token.{Token}
use Rattle.source.specs.Places.{walk}
use Rattle.source.proofs.Walks.{walk_offset}
use Rattle.rules.specs.Effects.{effect_of}
use Rattle.rules.specs.Found.{Found, Lexed, Fails, Unclosed}
use Rattle.lexer.specs.Answers.{after, answer, lacks, placed, roomed, stored}
use Rattle.lexer.proofs.Came.{came, token_within}
use Rattle.lexer.specs.Runs.{Meaning}
use Rattle.lexer.specs.States.{State, ahead, found, opening}
use Rattle.runs.specs.Coming.{meant}
use Rattle.runs.specs.Hands.{Hands, done, more}
use Rattle.runs.specs.Laws.{Laid, RunsLawful}
use Rattle.runs.specs.Opens.{Open, closed, leaves, lexeme, opened}
use Rattle.runs.specs.Orders.{AllOrderly}
use Rattle.runs.proofs.Enough.{ahead_after, counted, meant_tells, whole_meant}
use Rattle.runs.proofs.Handing.{hands_meant}
use Rattle.runs.proofs.Mirrors.{Mirrors, lexeme_ahead, mirrors_on, opening_mirrors, stands}

-- the text stays
pub hands_text : {σ τ : State} {ts : List Token} → Hands σ ts τ → τ.text ≡ σ.text
hands_text done = refl
hands_text (more t e h) = hands_text h

-- the tokens' texts end to end, and then what lies ahead, are what lay ahead
pub hands_whole : {σ τ : State} {ts : List Token} → Hands σ ts τ → flat_map (lexeme σ.text) ts ++ ahead τ ≡ ahead σ
hands_whole done = refl
hands_whole {τ = τ} (more {σ = σ} {ts = ts} t e h) =
    append_assoc (lexeme σ.text t) (flat_map (lexeme σ.text) ts) (ahead τ)
    ∙ ap (λ (s : List ℕ). lexeme σ.text t ++ s) (hands_whole h ∙ ahead_after σ t (token_within σ t e))
    ∙ ap (λ (s : List ℕ). s ++ drop t.length (ahead σ)) (lexeme_ahead σ t e)
    ∙ take-append-drop t.length (ahead σ)

-- each token may stand where it does
pub hands_orderly : {σ τ : State} {ts : List Token} (o : Open) → Hands σ ts τ → Mirrors σ o → AllOrderly σ.text o ts
hands_orderly o done m = tt
hands_orderly o (more {σ = σ} t e h) m = (stands σ t o e m, hands_orderly (opened σ.text o t) h (mirrors_on σ t o e m))

-- what the tokens leave open is what the state holds open
pub hands_mirror : {σ τ : State} {ts : List Token} (o : Open) → Hands σ ts τ → Mirrors σ o → Mirrors τ (leaves σ.text o ts)
hands_mirror o done m = m
hands_mirror o (more {σ = σ} t e h) m = hands_mirror (opened σ.text o t) h (mirrors_on σ t o e m)

-- the tokens lie end to end
pub hands_laid : {σ τ : State} {ts : List Token} (o : Open) → Hands σ ts τ → Mirrors σ o → Laid σ.text σ.place.offset ts τ.place.offset
hands_laid o done m = refl
hands_laid {τ = τ} o (more {σ = σ} {ts = ts} t e h) m =
    let p : t.position ≡ σ.place = (came σ t e).placed in
    let w : (after σ t).place.offset ≡ σ.place.offset + t.length = walk_offset t.length (ahead σ) σ.place (token_within σ t e) in
    (ap (λ (q : Position). q.offset) p, p ∙ m.place, subst (λ n. Laid σ.text n ts τ.place.offset) w (hands_laid (opened σ.text o t) h (mirrors_on σ t o e m)))

-- nothing is answered only behind Eof
pub nothing_ended : (σ : State) → answer σ ≡ Ok None → σ.standing.ended ≡ true
nothing_ended σ e = go σ.standing.ended e
  where
    room : (t : Token) (o : Option Cause) → roomed t o ≡ Ok None → false ≡ true
    room t None e = cc
    room t (Some c) e = cc

    look : (f : Found) → stored σ (placed σ f) ≡ Ok None → false ≡ true
    look (Lexed k n) e = room (record { kind = k; position = σ.place; length = n }) (lacks σ (effect_of k)) e
    look (Fails c a n) e = cc
    look Unclosed e = cc

    go : (b : Bool) → cond b (Ok None) (stored σ (placed σ (found σ))) ≡ Ok None → b ≡ true
    go true e = refl
    go false e = look (found σ) e

pub runs_lawful : RunsLawful
runs_lawful text rooms ts τ h =
    let g = hands_meant h in
    let w = whole_meant text rooms in
    let s : τ.text ≡ text = hands_text h in
    let m : Mirrors τ (leaves text closed ts) = hands_mirror closed h (opening_mirrors text rooms) in
    record {
      first = ap (λ (n : Meaning). n.tokens) w ∙ g.0;
      ending = ap (λ (n : Meaning). n.ending) w ∙ g.1;
      tells = meant_tells τ;
      laid = hands_laid closed h (opening_mirrors text rooms);
      whole =
          append_cancel_right (flat_map (lexeme text) ts) (take τ.place.offset text) (ahead τ)
          (hands_whole h ∙ sym (take-append-drop τ.place.offset text) ∙ ap (λ (r : List ℕ). take τ.place.offset text ++ drop τ.place.offset r) (sym s));
      within = omega (arith, m.within, ap length s);
      place = m.place ∙ ap (λ (r : List ℕ). walk τ.place.offset r origin) s;
      few = omega (arith, counted (opening text rooms), ap length g.0, length-append ts (meant τ).tokens);
      orderly = hands_orderly closed h (opening_mirrors text rooms);
      nest = m.nest;
      last = λ e. sym m.ended ∙ nothing_ended τ e;
    }
