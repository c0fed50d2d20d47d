use Rattle.std.proofs.Common.{◌≡◌, ◌<◌, length, take, drop, eqb, ap, sym, subst, ◌∙◌, rules}
use borrow.Author.Tests.{tests}
use Rattle.std.specs.Option.{option_map}
use Rattle.std.proofs.lemmas.List.{take_rest}
use Rattle.std.proofs.lemmas.List.Sorted.{answers_always}
use Rattle.unindent.specs.Lines.{or_none}
use Rattle.unindent.specs.Cuts.{first_line_length}
use Rattle.unindent.proofs.Shared.{share_more, share_end}
use Rattle.unindent.proofs.Split.{cut_length, split_off}
use Rattle.unindent.proofs.lines.indentation.Goals as goal

pub loop-line-preserved : goal.loop-line-preserved
loop-line-preserved c =
    let s = c.in-Some.ensures.steps in
    let first = s.1.2 (λ b. eqb b 10) (answers_always _ _ _ (λ f a r q k. search (rules, tests))) in
    let same = c.split_inclusive.ensures.rest in
    let l = c.loop-line.rest.now in
    let n = s.1.1 ∙ cut_length _ _ first.1 ∙ ap first_line_length same in
    let some = subst (λ q. 0 < length q) same s.2 in
    let front = (split_off _ _ _ s.1.0 s.0 s.1.1 first.1).0 ∙ ap (λ q. take (first_line_length q) q) same in
    let back = take_rest l (length c.in-Some.line.now) ∙ ap (λ k. drop k l) n in
    share_more _ _ l _ _ some front back c.share-shared.ensures ∙ c.loop-line.invariant

pub returns : goal.returns
returns c =
    let e : c.map_or.result ≡ length (or_none (option_map (λ r. r.now) c.loop-line.shared)) = search rules in
    e ∙ ap length (share_end _ _ (ap length (sym c.split_inclusive.ensures.rest) ∙ c.in_default.ensures.steps.0) ∙ c.loop-line.invariant)
