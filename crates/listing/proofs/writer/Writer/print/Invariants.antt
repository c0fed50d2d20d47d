use Rattle.std.proofs.Common.{take}
use Rattle.listing.specs.Lines.{printed}
use Rattle.listing.specs.Writers.{Writes}
use Rattle.listing.proofs.writer.Writer.print.Given as goal

-- the bytes passed are printed
abbrev pub invariant-loop-b : goal.invariant-loop-b
invariant-loop-b l = Writes (printed (take l.b-index l.bytes)) l.initial.self l.self
