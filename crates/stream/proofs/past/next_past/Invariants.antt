use Rattle.std.proofs.Common.{length}
use Rattle.stream.proofs.Sifting.{Going}
use Rattle.stream.proofs.past.next_past.Given as goal

abbrev pub invariant-loop-token : goal.invariant-loop-token
invariant-loop-token g l = Going g.S.TokenSource.meaning g.S.TokenSource.stays g.S.TokenSource.moves l.initial.below l.below

abbrev pub decreases-loop-token : goal.decreases-loop-token
decreases-loop-token g l = length (g.S.TokenSource.meaning l.below).tokens
