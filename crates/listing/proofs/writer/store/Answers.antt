use Rattle.std.proofs.Common.{[], ◌∷◌, arith}
use Rattle.listing.proofs.Laid.{laid_one, laid_past}
use Rattle.listing.proofs.writer.store.Goals as goal

pub returns-then-place-out : goal.returns-then-place-out
returns-then-place-out c = laid_one c.args.out.now c.args.place c.args.b (omega arith)

pub returns-else-place-out : goal.returns-else-place-out
returns-else-place-out c = laid_past c.args.out.now c.args.place (c.args.b ∷ []) (omega arith)
