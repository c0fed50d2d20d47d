use Rattle.std.proofs.Common.{◌≡◌, ◌++◌, Some, Ok, Option, Result, sym, refl, ap, ◌∙◌, rules}
use Rattle.std.proofs.lemmas.List.{append-nil}
use Rattle.std.proofs.lemmas.Result.{IfOk-weaker}
use Rattle.token.specs.declared.fault.Fault.{Fault}
use Rattle.token.specs.declared.place.Token.{Token}
use Rattle.stack.specs.Held.{room}
use Rattle.source.specs.Sources.{text_of}
use Rattle.source.specs.declared.record.Source.{Source}
use Rattle.listing.specs.Lines.{laid_out, line_in}
use Rattle.lexer.specs.Answers.{after, answer}
use Rattle.lexer.specs.Runs.{Meaning}
use Rattle.lexer.specs.States.{State, opening}
use Rattle.session.specs.Sessions.{state_of}
use Rattle.lister.specs.Listings.{clean, listed, tables}
use Rattle.lister.proofs.Steps.{appends_all, as_defined, clean_end, clean_fault, ending_on, fewer, listed_end, listed_fault, turn}
use Rattle.lister.proofs.growing.Listing.append_tokens.Goals as goal

pub loop-token-init : goal.loop-token-init
loop-token-init c =
    let text = text_of c.args.self.now.source in
    let levels : room c.new.result ≡ 359 = c.new.ensures.rooms in
    let openers : room c.new-2.result ≡ 1024 = c.new-2.ensures.rooms in
    let o : state_of c.open-session.result ≡ opening text tables = c.open-session.ensures ∙ (λ i. opening text (record { levels = levels i; openers = openers i })) in
    let all = as_defined text tables _ o in
    record {
      text = ap (λ (σ : State). σ.text) o;
      ending = ap (λ (m : Meaning). m.ending) all;
      whole = ap (λ (m : Meaning). c.args.self.now.out.now.items ++ listed text m) all;
      source = refl;
      same_reference = refl;
    }

-- a token is answered, and the session goes on
answered : (c : goal.In_ok-append-in-Ok-Some) → (◌≡◌ {A = Result (Option Token) Fault} (Ok (Some c.in-Ok-Some.token)) (answer (state_of c.loop-token.session))) × (state_of c.next.new.self ≡ after (state_of c.loop-token.session) c.in-Ok-Some.token)
answered c = (search rules, search rules)

pub loop-token-smaller : goal.loop-token-smaller
loop-token-smaller c = fewer c.loop-token.session c.next.new.self c.in-Ok-Some.token (answered c).0 (answered c).1

pub loop-token-preserved : goal.loop-token-preserved
loop-token-preserved c =
    let s = c.loop-token.session in
    let on = c.next.new.self in
    let t = c.in-Ok-Some.token in
    let was = c.loop-token.invariant in
    let a = c.in_ok-append-in-Ok-Some.ensures.appends in
    record {
      text = ap (λ (σ : State). σ.text) (answered c).1 ∙ was.text;
      ending = sym (ending_on s on t (answered c).0 (answered c).1) ∙ was.ending;
      whole =
          turn s on t (answered c).0 (answered c).1 (text_of c.args.self.now.source) was.text c.loop-token.self.out.now.items c.append.new.self.out.now.items
          (a.items ∙ ap (λ (of : Source). c.loop-token.self.out.now.items ++ laid_out (line_in (text_of of) (Ok t))) was.source)
          ∙ was.whole;
      source = a.source ∙ was.source;
      same_reference = c.append.ensures.same_reference ∙ was.same_reference;
    }

pub returns-in-Ok-None-clause-tells : goal.returns-in-Ok-None-clause-tells
returns-in-Ok-None-clause-tells c = sym (clean_end (state_of c.loop-token.session) (search rules)) ∙ ap clean c.loop-token.invariant.ending

pub returns-in-Ok-None-clause-appends : goal.returns-in-Ok-None-clause-appends
returns-in-Ok-None-clause-appends c =
    let was = c.loop-token.invariant in
    let items = c.loop-token.self.out.now.items in
    record {
      items = sym (append-nil items) ∙ ap (λ l. items ++ l) (sym (listed_end (state_of c.loop-token.session) (search rules) (text_of c.args.self.now.source))) ∙ was.whole;
      source = was.source;
    }

pub returns-in-Err-clause-tells : goal.returns-in-Err-clause-tells
returns-in-Err-clause-tells c =
    IfOk-weaker c.append_fault.result _ _ (λ w e. e ∙ sym (clean_fault (state_of c.loop-token.session) c.in-Err.fault (search rules)) ∙ ap clean c.loop-token.invariant.ending)
    c.append_fault.ensures.tells

pub returns-in-Err-clause-appends : goal.returns-in-Err-clause-appends
returns-in-Err-clause-appends c =
    let was = c.loop-token.invariant in
    IfOk-weaker c.append_fault.result _ _
    (λ w. appends_all was.source
    (ap (λ l. c.loop-token.self.out.now.items ++ l) (sym (listed_fault (state_of c.loop-token.session) c.in-Err.fault (search rules) (text_of c.args.self.now.source))) ∙ was.whole))
    c.append_fault.ensures.appends
