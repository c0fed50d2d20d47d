use Rattle.std.proofs.Common.{◌≡◌, ◌+◌, ◌*◌, ◌≤◌, length}
use Rattle.std.specs.Str.{chars}
use Rattle.unescape.specs.Escapes.{close, feed}
use Rattle.unindent.specs.Left.{left}
use Rattle.text.specs.Cooked.{cooked}
use Rattle.text.proofs.Cooks.{laid}
use Rattle.text.proofs.Written.{Sofar}
use Rattle.text.proofs.literal.Literal.lay.Given as goal

-- what is written and what is left give the whole, which is the literal's text
abbrev pub invariant-loop-piece : goal.invariant-loop-piece
invariant-loop-piece l =
    (l.writer.end + 4 * length l.piece-iterator.rest.now ≤ 4 * 65536)
    × (close (feed l.initial.writer.machine.state (chars (laid (left l.initial.piece-iterator)))) ≡ cooked l.self.kind l.self.inner.now)
    × Sofar 0 l.writer.end l.writer.machine.state (chars (laid (left l.piece-iterator))) l.writer.out.now l.initial.writer.out.now (feed l.initial.writer.machine.state (chars (laid (left l.initial.piece-iterator))))
    × (l.writer.out.ghost_name ≡ l.initial.writer.out.ghost_name)
