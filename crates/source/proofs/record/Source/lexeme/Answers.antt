use Rattle.std.proofs.Common.{◌≡◌, ◌+◌, ◌-◌, take, drop, sym, refl, ap, ◌∙◌, arith}
use Rattle.std.proofs.lemmas.Bool.{false≢true}
use Rattle.token.specs.Told.{gave, refused, refusal}
use Rattle.source.specs.Sources.{lexeme_in, text_of}
use Rattle.source.proofs.Cut.{source_text, cut_there, missed, start_missed, end_missed}
use Rattle.source.proofs.record.Source.lexeme.Goals as goal
use Rattle.source.proofs.record.Source.lexeme.Goals.{else-is_char_boundary-via-then-is_char_boundary+else-is_char_boundary-2, else-is_char_boundary-via-else-is_char_boundary}

pub returns-then-is_char_boundary-2-clause-tells : goal.returns-then-is_char_boundary-2-clause-tells
returns-then-is_char_boundary-2-clause-tells c =
    let from = c.args.token.position.offset in
    let n = c.args.token.length in
    let e : (from + n) - from ≡ n = omega arith in
    ap gave (c.range.ensures.value ∙ ap (λ k. take k (drop from c.args.self.now.text.now)) e)
    ∙ sym (cut_there _ (source_text c.args.self.now) c.args.token (c.if-is_char_boundary.ensures.test.0 refl) (c.if-is_char_boundary-2.ensures.test.0 refl))

pub returns-else-is_char_boundary-clause-tells : goal.returns-else-is_char_boundary-clause-tells
returns-else-is_char_boundary-clause-tells c =
    let u = source_text c.args.self.now in
    let m : lexeme_in (text_of c.args.self.now) c.args.token ≡ missed c.args.token =
    elim c.else-is_char_boundary.branch [
      | else-is_char_boundary-via-then-is_char_boundary+else-is_char_boundary-2 w ↦ end_missed _ u c.args.token (λ b. false≢true (w.if-is_char_boundary-2.ensures.test.1 b))
      | else-is_char_boundary-via-else-is_char_boundary w ↦ start_missed _ u c.args.token (λ b. false≢true (w.if-is_char_boundary.ensures.test.1 b))
    ]
    in
    ap (λ f. refused (refusal f)) c.over.ensures ∙ sym m
