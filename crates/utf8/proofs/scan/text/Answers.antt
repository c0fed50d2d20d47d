use Rattle.std.proofs.Common.{sym}
use Rattle.utf8.proofs.Bad.{none_bad_text}
use Rattle.utf8.proofs.scan.text.Goals as goal

pub from_utf8_unchecked-requires : goal.from_utf8_unchecked-requires
from_utf8_unchecked-requires c = none_bad_text c.args.bytes.now (sym c.in-None.ensures.is)
