use Rattle.std.proofs.Common.{refl}
use lib.Count.{count_leading_zeros}
use lib.Utf8.{encode}
use Rattle.std.specs.Str.{chars}
use Rattle.utf8.specs.Utf8.{bound, character, well_formed}
use Rattle.text.specs.Quotes.{literal}
use Rattle.examples.proofs.worked_examples_hold.Goals as goal

pub returns : goal.returns
unfolding count_leading_zeros bound character well_formed literal chars encode
returns c = refl
