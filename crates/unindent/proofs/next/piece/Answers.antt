use Rattle.std.proofs.Common.{IsUtf8, ap, ◌∙◌, subst}
use Rattle.unindent.specs.Lines.{blank}
use Rattle.unindent.proofs.Split.{gap_bound}
use Rattle.unindent.proofs.Turns.{room_there}
use Rattle.unindent.proofs.next.piece.Goals as goal

pub range_from-requires : goal.range_from-requires
range_from-requires c = λ _.
    let l = c.args.line.now in
    let e = c.as_bytes.ensures.value in
    gap_bound l c.args.n (subst IsUtf8 e c.as_bytes.ensures.utf8) (room_there c.args.n l c.requires.room (c.if-not-blank.ensures ∙ ap blank e))
