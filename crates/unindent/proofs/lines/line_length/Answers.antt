use Rattle.std.proofs.Common.{eqb, ap, ◌∙◌, rules}
use borrow.Author.Tests.{tests}
use Rattle.std.proofs.lemmas.List.Sorted.{answers_always}
use Rattle.unindent.specs.Cuts.{first_line_length}
use Rattle.unindent.proofs.Split.{cut_length}
use Rattle.unindent.proofs.lines.line_length.Goals as goal

pub returns-in-Some-clause-is : goal.returns-in-Some-clause-is
returns-in-Some-clause-is c =
    let s = c.in-Some.ensures.steps in
    let first = s.1.2 (λ b. eqb b 10) (answers_always _ _ _ (λ f a r q k. search (rules, tests))) in
    s.1.1 ∙ cut_length _ _ first.1 ∙ ap first_line_length c.split_inclusive.ensures.rest
