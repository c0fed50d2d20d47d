use Rattle.std.proofs.Common.{◌+◌, length, Ok, sym, ap, ◌∙◌, add-zero}
use Rattle.std.proofs.lemmas.Str.{length-encode}
use Rattle.unescape.specs.Escapes.{emit}
use Rattle.text.specs.Fedby.{over}
use Rattle.text.proofs.Written.{over_none, stepped}
use Rattle.text.proofs.feeding.Writer.place.Goals as goal

pub returns-in_default-clause-gives : goal.returns-in_default-clause-gives
returns-in_default-clause-gives c =
    let s = c.args.self.now in
    let p = stepped s.machine.state _ c.args.c c.in_ok-given.ensures.moves s.end c.in_ok-given.field-0 c.in_ok-given.ensures.gives in
    p.0 ∙ ap (λ n. Ok (c.step.new.self.state, n)) (ap (λ o. s.end + length (emit o)) c.in_default.is ∙ add-zero s.end)

pub returns-in_default-clause-writes : goal.returns-in_default-clause-writes
returns-in_default-clause-writes c =
    let s = c.args.self.now in
    let p = stepped s.machine.state _ c.args.c c.in_ok-given.ensures.moves s.end c.in_ok-given.field-0 c.in_ok-given.ensures.gives in
    λ _. sym (ap (λ bs. over s.end bs s.out.now) (p.1 ∙ ap emit c.in_default.is) ∙ over_none s.end s.out.now)

pub returns-in-Some-clause-gives : goal.returns-in-Some-clause-gives
returns-in-Some-clause-gives c =
    let s = c.args.self.now in
    let p = stepped s.machine.state _ c.args.c c.in_ok-given.ensures.moves s.end c.in_ok-given.field-0 c.in_ok-given.ensures.gives in
    p.0 ∙ ap (λ n. Ok (c.step.new.self.state, n)) (ap (λ o. s.end + length (emit o)) c.in-Some.is ∙ ap (λ n. s.end + n) (length-encode c.in-Some.given) ∙ sym c.put-self.ensures.is)

pub returns-in-Some-clause-writes : goal.returns-in-Some-clause-writes
returns-in-Some-clause-writes c =
    let s = c.args.self.now in
    let p = stepped s.machine.state _ c.args.c c.in_ok-given.ensures.moves s.end c.in_ok-given.field-0 c.in_ok-given.ensures.gives in
    λ h. c.put-self.ensures.writes h ∙ ap (λ bs. over s.end bs s.out.now) (sym (p.1 ∙ ap emit c.in-Some.is))
