use Rattle.std.proofs.Common.{refl}
use lib.Count.{count_leading_zeros}
use Rattle.std.specs.Fmt.{digits}
use Rattle.utf8.specs.Utf8.{character}
use Rattle.lister.proofs.sample_holds.Goals as goal

pub returns : goal.returns
unfolding count_leading_zeros digits character
returns c = refl
