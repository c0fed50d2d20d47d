use Rattle.std.proofs.Common.{length, ap, arith, rules}
use Rattle.unindent.proofs.Turns.{not_empty, line_room_of, after_room_of, next_left}
use Rattle.unindent.proofs.next.PiecesIterator.next.Goals as goal

pub piece-piece-requires-clause-room : goal.piece-piece-requires-clause-room
piece-piece-requires-clause-room c =
    line_room_of c.in-Some.n _ _ _ (not_empty _ c.if-is_empty.ensures) c.cut.ensures.line c.cut.ensures.after c.args.self.now.indent c.in-Some.is c.args.self.now.room

pub invariant_of-self-2 : goal.invariant_of-self-2
invariant_of-self-2 c = record {
  room = after_room_of c.in-Some.n _ _ _ (not_empty _ c.if-is_empty.ensures) c.cut.ensures.line c.cut.ensures.after c.args.self.now.indent c.in-Some.is c.args.self.now.room;
}

pub returns-clause-steps : goal.returns-clause-steps
returns-clause-steps c = record {
  gives = next_left c.in-Some.n _ _ _ (not_empty _ c.if-is_empty.ensures) c.cut.ensures.line c.cut.ensures.after c.args.self.now.indent c.in-Some.is
      c.args.self.now.first _ _ c.is_empty-2.ensures c.piece-piece.ensures.is;
  shorter = c.cut.ensures.shorter;
  utf8 = search rules;
  near = omega (arith, c.cut.ensures.parts, c.piece-piece.ensures.short);
}

pub returns-clause-goes : goal.returns-clause-goes
returns-clause-goes c =
    let e = ap length (returns-clause-steps c).gives in
    record { on = λ _. (tt, tt, omega (arith, e)); keeps = tt; rests = λ _. tt }
