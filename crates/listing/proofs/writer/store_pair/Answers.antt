use Rattle.std.proofs.Common.{[], ◌∷◌, ◌∙◌, arith}
use Rattle.listing.proofs.Laid.{laid_pair, laid_past}
use Rattle.listing.proofs.writer.store_pair.Goals as goal

pub returns-then-place-out : goal.returns-then-place-out
returns-then-place-out c = c.store.ensures ∙ laid_pair c.args.out.now c.args.place c.args.a c.args.b (omega arith)

pub returns-else-place-out : goal.returns-else-place-out
returns-else-place-out c = laid_past c.args.out.now c.args.place (c.args.a ∷ c.args.b ∷ []) (omega arith)
