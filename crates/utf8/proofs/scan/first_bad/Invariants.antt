use Rattle.std.proofs.Common.{◌≡◌, ◌-◌, ◌≤◌, length}
use Rattle.utf8.specs.Utf8.{bad_from, first_bad_offset}
use Rattle.utf8.proofs.scan.first_bad.Given as goal

-- what is left gives the answer
abbrev pub invariant-loop-n : goal.invariant-loop-n
invariant-loop-n l = (length l.rest ≤ length l.bytes) × (bad_from (length l.bytes - length l.rest) 0 l.rest ≡ first_bad_offset l.bytes)

abbrev pub decreases-loop-n : goal.decreases-loop-n
decreases-loop-n l = length l.rest
