use Rattle.std.proofs.Common.{ℕ, ◌≤◌, List, length, sym, ap, ◌∙◌, arith}
use Rattle.std.proofs.lemmas.Bool.{cond-true, le-leb}
use Rattle.token.specs.Told.{gave}
use Rattle.listing.specs.Lines.{line_buffer, line_of}
use Rattle.listing.proofs.Laid.{laid_whole}
use Rattle.listing.proofs.line.write_line.Goals as goal

pub returns-clause-fills : goal.returns-clause-fills
returns-clause-fills c =
    let l = c.in_ok-line in
    let out = c.args.buffer.now in
    let bs : List ℕ = line_of l.line.entry l.line.lexeme.now in
    let room : length bs ≤ length out = omega (arith, c.lay-n.ensures.long, c.if-n-buffer.false) in
    c.lay.ensures.lays ∙ laid_whole bs out room ∙ sym (cond-true _ _ _ (le-leb (length bs) (length out) room))
    ∙ ap (λ t. line_buffer t out) (ap (λ e. gave (line_of e l.line.lexeme.now)) l.ensures.of ∙ l.ensures.tells)
