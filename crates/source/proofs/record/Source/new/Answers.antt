use Rattle.std.proofs.Common.{arith}
use Rattle.source.proofs.Cut.{empty_well_formed}
use Rattle.source.proofs.record.Source.new.Goals as goal

pub invariant_of-result : goal.invariant_of-result
invariant_of-result c = record { small = omega arith; valid = empty_well_formed }
