use Rattle.std.proofs.Common.{◌-◌, not, length, sym, ap, ◌∙◌, arith}
use Rattle.std.specs.Bool.{then_some}
use Rattle.utf8.proofs.Bad.{done, turn}
use Rattle.utf8.proofs.Rows.{counted_none, counted_some}
use Rattle.utf8.proofs.scan.first_bad.Goals as goal

pub loop-n-preserved : goal.loop-n-preserved
loop-n-preserved c =
    let w = c.in-Some.ensures.within in
    let t = turn (length c.args.bytes.now) c.in-Some.n c.loop-n.rest.now c.loop-n.invariant.0 w.0 w.1 (counted_some _ _ c.in-Some.ensures.is) in
    (omega (arith, t.0, c.loop-n.invariant.0), sym t.1 ∙ c.loop-n.invariant.1)

pub returns-clause-is : goal.returns-clause-is
returns-clause-is c =
    let m = length c.args.bytes.now in
    let rest = c.loop-n.rest.now in
    c.then_some.ensures
    ∙ ap (λ b. then_some (not b) (m - length rest)) c.is_empty.ensures
    ∙ done m rest (counted_none _ c.in_default.ensures.is)
    ∙ c.loop-n.invariant.1
