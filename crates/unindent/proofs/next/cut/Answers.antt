use Rattle.std.proofs.Common.{◌≡◌, IsUtf8, sym, ap, ◌∙◌, subst}
use Rattle.std.specs.Str.{IsCharBoundary}
use Rattle.unindent.specs.Cuts.{first_line_length}
use Rattle.unindent.proofs.Split.{cut_bound}
use Rattle.unindent.proofs.next.cut.Goals as goal

pub split_at-requires : goal.split_at-requires
split_at-requires c =
    let bs = c.args.text.now in
    let e : c.line_length-n.result ≡ first_line_length bs = c.line_length-n.ensures.is ∙ ap first_line_length c.as_bytes.ensures.value in
    subst (IsCharBoundary bs) (sym e) (cut_bound bs (subst IsUtf8 c.as_bytes.ensures.value c.as_bytes.ensures.utf8))
