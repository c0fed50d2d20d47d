use Rattle.std.proofs.Common.{Some, Ok, sym, subst}
use Rattle.stream.specs.Sources.{Nexts}
use Rattle.stream.proofs.Sifting.{going_here, going_passes, past}
use Rattle.stream.proofs.past.next_past.Goals as goal

pub loop-token-init : goal.loop-token-init
loop-token-init g c = going_here _ _ _ _

pub loop-token-preserved : goal.loop-token-preserved
loop-token-preserved g c =
    let h = subst (λ o. Nexts g.S.TokenSource.meaning g.S.TokenSource.moves c.loop-token.below (Ok o) c.next.new.self) c.in-Some.is c.in_ok-token.ensures in
    going_passes _ _ _ _ c.loop-token.below c.next.new.self c.in-Some.token c.loop-token.invariant (sym h.gives) (sym c.if-not-is_of.ensures) h.leaves h.steps

pub returns-then-not-is_of : goal.returns-then-not-is_of
returns-then-not-is_of g c =
    let h = subst (λ o. Nexts g.S.TokenSource.meaning g.S.TokenSource.moves c.loop-token.below (Ok o) c.next.new.self) c.in-Some.is c.in_ok-token.ensures in
    past _ _ _ _ c.loop-token.below c.next.new.self (Ok (Some c.in-Some.token)) c.loop-token.invariant (sym c.if-not-is_of.ensures) h
