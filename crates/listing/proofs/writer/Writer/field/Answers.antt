use Rattle.listing.proofs.Laid.{writes_then}
use Rattle.listing.proofs.writer.Writer.field.Goals as goal

pub returns : goal.returns
returns c = writes_then c.number.ensures c.push.ensures
