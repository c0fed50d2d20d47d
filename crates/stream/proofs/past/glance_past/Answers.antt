use Rattle.std.proofs.Common.{Some, None, Ok, sym, ap, ◌∙◌, subst}
use Rattle.std.proofs.lemmas.Result.{err_from_is_err_and}
use Rattle.runs.specs.Coming.{tell}
use Rattle.stream.specs.Sources.{Glances}
use Rattle.stream.proofs.Sifting.{going_here, going_looks, going_passes, shown}
use Rattle.stream.proofs.past.glance_past.Goals as goal

pub loop-t-init : goal.loop-t-init
loop-t-init g c = going_here _ _ _ _

pub returns-in_err-t : goal.returns-in_err-t
returns-in_err-t g c =
    let p = err_from_is_err_and c.from_residual.result c.from_residual.ensures.1 in
    rw (p.1, p.2)
    (let h = c.in_err-t.ensures in
    shown _ _ _ _ c.loop-t.below c.glance.new.self _ c.loop-t.invariant tt h)

pub returns : goal.returns
returns g c =
    let h = subst (λ o. Glances g.S.TokenSource.meaning g.S.TokenSource.stays c.loop-t.below (Ok o) c.glance.new.self) c.in_default.is c.in_ok-t.ensures in
    shown _ _ _ _ c.loop-t.below c.glance.new.self (Ok None) c.loop-t.invariant tt h

pub returns-then-not-is_of : goal.returns-then-not-is_of
returns-then-not-is_of g c =
    let h = subst (λ o. Glances g.S.TokenSource.meaning g.S.TokenSource.stays c.loop-t.below (Ok o) c.glance.new.self) c.in-Some.is c.in_ok-t.ensures in
    shown _ _ _ _ c.loop-t.below c.glance.new.self (Ok (Some c.in-Some.t)) c.loop-t.invariant (sym c.if-not-is_of.ensures) h

pub loop-t-preserved : goal.loop-t-preserved
loop-t-preserved g c =
    let h = subst (λ o. Glances g.S.TokenSource.meaning g.S.TokenSource.stays c.loop-t.below (Ok o) c.glance.new.self) c.in-Some.is c.in_ok-t.ensures in
    going_passes _ _ _ _ c.glance.new.self c.next.new.self c.in-Some.t
    (going_looks _ _ _ _ c.loop-t.below c.glance.new.self c.loop-t.invariant h.leaves h.keeps)
    (ap tell h.leaves ∙ sym h.gives) (sym c.if-not-is_of.ensures) c.next.ensures.leaves c.next.ensures.steps
