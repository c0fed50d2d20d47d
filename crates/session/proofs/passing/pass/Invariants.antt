use Rattle.std.proofs.Common.{length}
use Rattle.source.specs.Cursors.{ahead}
use Rattle.session.proofs.Ways.{Onward}
use Rattle.session.proofs.passing.pass.Given as goal

-- what is left of the way leads to the same place
abbrev pub invariant-loop-cursor : goal.invariant-loop-cursor
invariant-loop-cursor l = Onward l.initial.cursor l.cursor l.end

abbrev pub decreases-loop-cursor : goal.decreases-loop-cursor
decreases-loop-cursor l = length (ahead l.cursor)
