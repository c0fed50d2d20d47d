use Rattle.std.proofs.Common.{◌≡◌, eqb, sym, ◌∙◌}
use Rattle.std.proofs.lemmas.Bool.{cond-true, cond-false, eq-eqb, ne_eqb}
use Rattle.utf8.specs.Utf8.{leading_ones, shown_length}
use Rattle.utf8.proofs.Rows.{shown_character}
use Rattle.utf8.proofs.grammar.character_length.Goals as goal

pub returns-then-ones-eq0 : goal.returns-then-ones-eq0
returns-then-ones-eq0 c =
    let b = c.args.first in
    let e : 1 ≡ shown_length b =
    sym (cond-true (eqb (leading_ones b) 0) 1 (leading_ones b) (eq-eqb _ 0 (sym c.leading_ones-ones.ensures ∙ c.if-ones-eq0.true))) in
    record { shows = e; agrees = λ r h. e ∙ shown_character b r h }

pub returns-else-ones-eq0 : goal.returns-else-ones-eq0
returns-else-ones-eq0 c =
    let b = c.args.first in
    let e : c.leading_ones-ones.result ≡ shown_length b =
    c.leading_ones-ones.ensures ∙ sym (cond-false (eqb (leading_ones b) 0) 1 (leading_ones b) (ne_eqb _ 0 (λ z. c.if-ones-eq0.false (c.leading_ones-ones.ensures ∙ z)))) in
    record { shows = e; agrees = λ r h. e ∙ shown_character b r h }
