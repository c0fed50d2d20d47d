use Rattle.std.proofs.Common.{length}
use Rattle.stream.proofs.Sifting.{Going}
use Rattle.stream.proofs.past.glance_past.Given as goal

abbrev pub invariant-loop-t : goal.invariant-loop-t
invariant-loop-t g l = Going g.S.TokenSource.meaning g.S.TokenSource.stays g.S.TokenSource.moves l.initial.below l.below

abbrev pub decreases-loop-t : goal.decreases-loop-t
decreases-loop-t g l = length (g.S.TokenSource.meaning l.below).tokens
