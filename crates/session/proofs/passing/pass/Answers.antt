use Rattle.std.proofs.Common.{◌+◌, sym, ap, subst, arith}
use Rattle.token.specs.declared.place.Position.{Position}
use Rattle.std.proofs.lemmas.List.{length-drop}
use Rattle.source.specs.Cursors.{ahead}
use Rattle.source.specs.Sources.{text_of}
use Rattle.session.proofs.Ways.{Onward, bound_within, onward_start, onward_on, onward_shorter}
use Rattle.session.proofs.passing.pass.Goals as goal

pub overflow_add-end : goal.overflow_add-end
overflow_add-end c =
    let s = c.args.cursor.now in
    omega (arith, ap (λ (p : Position). p.offset) c.position.ensures, bound_within (ahead s) c.args.n c.requires, s.within, s.source.small, length-drop s.position.offset (text_of s.source))

pub loop-cursor-init : goal.loop-cursor-init
loop-cursor-init c =
    subst (λ o. Onward c.args.cursor.now c.args.cursor.now (o + c.args.n)) (sym (ap (λ (p : Position). p.offset) c.position.ensures)) (onward_start c.args.cursor.now c.args.n c.requires)

pub loop-cursor-smaller : goal.loop-cursor-smaller
loop-cursor-smaller c = onward_shorter c.args.cursor.now c.loop-cursor.cursor c.advance.new.self _ c.loop-cursor.invariant (omega (arith, ap (λ (p : Position). p.offset) c.position-in-loop-cursor.ensures, c.loop-cursor-test.true)) c.advance.ensures.keeps c.advance.ensures.moves

pub loop-cursor-preserved : goal.loop-cursor-preserved
loop-cursor-preserved c = onward_on c.args.cursor.now c.loop-cursor.cursor c.advance.new.self _ c.loop-cursor.invariant (omega (arith, ap (λ (p : Position). p.offset) c.position-in-loop-cursor.ensures, c.loop-cursor-test.true)) c.advance.ensures.keeps c.advance.ensures.moves
