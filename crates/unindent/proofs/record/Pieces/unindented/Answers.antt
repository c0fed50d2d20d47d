use Rattle.std.proofs.Common.{◌≡◌, true, length, sym, ap, ◌∙◌, subst}
use Rattle.unindent.specs.Lines.{all_roomy, indentation, lines}
use Rattle.unindent.proofs.Shared.{all_room}
use Rattle.unindent.proofs.record.Pieces.unindented.Goals as goal

pub invariant_of-result : goal.invariant_of-result
invariant_of-result c =
    let bs = c.args.text.now in
    let e : c.indentation.result ≡ length (indentation (lines bs)) = c.indentation.ensures ∙ ap (λ l. length (indentation (lines l))) c.as_bytes.ensures.value in
    record { room = subst (λ n. all_roomy n (lines bs) ≡ true) (sym e) (all_room (lines bs)) }
