use Rattle.std.proofs.Common.{◌≡◌, length}
use Rattle.std.specs.Option.{option_map}
use Rattle.unindent.specs.Lines.{lines, shared_from, indentation}
use Rattle.unindent.proofs.lines.indentation.Given as goal

-- what is left gives the whole
abbrev pub invariant-loop-line : goal.invariant-loop-line
invariant-loop-line l = shared_from (option_map (λ r. r.now) l.shared) (lines l.rest) ≡ indentation (lines l.text)

abbrev pub decreases-loop-line : goal.decreases-loop-line
decreases-loop-line l = length l.rest
