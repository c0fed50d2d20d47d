use Rattle.std.proofs.Common.{◌≡◌, ◌+◌, ◌≤◌, false, length}
use Rattle.rules.specs.Scans.{scan}
use Rattle.table.proofs.steps.passed.Given as goal

-- what is left gives the answer
abbrev pub invariant-loop-rest : goal.invariant-loop-rest
invariant-loop-rest g l =
    (length l.rest ≤ length l.bytes) × (length l.bytes + scan (g.S.Steps.moves l.steps) 0 l.escaped l.rest ≡ length l.rest + scan (g.S.Steps.moves l.steps) 0 false l.bytes)

abbrev pub decreases-loop-rest : goal.decreases-loop-rest
decreases-loop-rest g l = length l.rest
