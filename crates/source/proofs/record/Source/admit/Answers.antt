use Rattle.std.proofs.Common.{◌≡◌, ◌≤◌, length, None, sym, ap, ◌∙◌, subst}
use Rattle.utf8.specs.Utf8.{first_bad_offset, well_formed}
use Rattle.source.proofs.Admits.{handed_on, none_bad}
use Rattle.source.proofs.record.Source.admit.Goals as goal

pub invariant_of-self : goal.invariant_of-self
invariant_of-self c =
    let bs = c.args.bytes.now in
    let t = handed_on _ _ _ (λ s. (s.now ≡ bs) × (first_bad_offset bs ≡ None)) _ _ c.map_err.ensures.cases c.in_ok-text.was c.text.ensures in
    record { small = subst (λ l. length l ≤ 65536) (sym t.0) c.if-bytes-gt-MAX_TEXT.false; valid = ap well_formed t.0 ∙ none_bad _ t.1 }
