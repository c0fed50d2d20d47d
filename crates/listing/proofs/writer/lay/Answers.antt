use Rattle.std.proofs.Common.{◌≡◌, ◌+◌, ◌-◌, ◌++◌, take, drop, ◌∙◌, arith}
use Rattle.listing.proofs.Laid.{laid_past, laid_room}
use Rattle.listing.proofs.writer.lay.Goals as goal

pub returns-then-place-out : goal.returns-then-place-out
returns-then-place-out c =
    let out = c.args.out.now in
    let at = c.args.place in
    let n = c.min-n.result in
    let k : at + n - at ≡ n = omega arith in
    (λ i. take at out ++ (c.copy_from_slice.ensures.after i ++ drop (k i) (drop at out))) ∙ laid_room out at n c.args.bytes.now (omega arith) c.min-n.ensures

pub returns-else-place-out : goal.returns-else-place-out
returns-else-place-out c = laid_past c.args.out.now c.args.place c.args.bytes.now (omega arith)
