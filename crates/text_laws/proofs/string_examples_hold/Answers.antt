use Rattle.std.proofs.Common.{refl}
use lib.Utf8.{encode}
use Rattle.std.specs.Str.{chars}
use Rattle.utf8.specs.Utf8.{bound, character, well_formed}
use Rattle.text.specs.Quotes.{literal}
use Rattle.text_laws.proofs.string_examples_hold.Goals as goal

pub returns : goal.returns
unfolding bound character well_formed literal chars encode
returns c = refl
