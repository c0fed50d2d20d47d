use Rattle.std.proofs.Common.{length, sym, ◌∙◌, arith}
use Rattle.utf8.specs.Utf8.{character}
use Rattle.source.specs.Cursors.{ahead}
use Rattle.source.proofs.Walks.{character_ahead, step_walk, step_length, end_walk, some_length}
use Rattle.survey.proofs.walk.end.Goals as goal

pub loop-smaller : goal.loop-smaller
loop-smaller c =
    let a = c.loop.cursor in
    let b = c.advance.new.self in
    omega (arith, step_length a b c.advance.ensures.keeps c.advance.ensures.moves, character_ahead a (some_length (ahead a) c.loop-test.ensures.answer))

pub loop-preserved : goal.loop-preserved
loop-preserved c = step_walk c.loop.cursor c.advance.new.self c.advance.ensures.keeps c.advance.ensures.moves ∙ c.loop.invariant

pub returns-clause-is : goal.returns-clause-is
returns-clause-is c =
    let a = c.loop.cursor in
    let h = c.loop-test.ensures.answer in
    c.position.ensures ∙ c.advance.ensures.moves ∙ end_walk (character (ahead a)) (ahead a) a.position h
    ∙ sym (end_walk (length (ahead a)) (ahead a) a.position h) ∙ c.loop.invariant
