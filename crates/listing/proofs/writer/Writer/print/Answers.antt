use Rattle.std.proofs.Common.{[], get_or, take, arith}
use Rattle.std.proofs.lemmas.List.{flat_map_more, take_more}
use Rattle.listing.specs.Lines.{shown}
use Rattle.listing.proofs.Laid.{writes_none, writes_then}
use Rattle.listing.proofs.writer.Writer.print.Goals as goal

pub loop-b-init : goal.loop-b-init
loop-b-init c = writes_none c.args.self.now (omega arith)

pub loop-b-preserved : goal.loop-b-preserved
loop-b-preserved c =
    rw (take_more c.args.bytes.now c.loop-b.b-index 0 (omega arith))
    (rw (← flat_map_more shown [] (take c.loop-b.b-index c.args.bytes.now) (get_or c.args.bytes.now c.loop-b.b-index 0))
    (writes_then c.loop-b.invariant c.show.ensures))
