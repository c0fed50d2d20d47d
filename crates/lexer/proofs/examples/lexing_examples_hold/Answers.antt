use Rattle.std.proofs.Common.{refl}
use lib.Count.{count_leading_zeros}
use Rattle.lexer.proofs.examples.lexing_examples_hold.Goals as goal

pub returns : goal.returns
unfolding count_leading_zeros
returns c = refl
