use Rattle.std.proofs.Common.{◌≡◌, ◌+◌, ◌*◌, ◌≤◌, length, IsUtf8}
use Rattle.std.specs.Str.Iter.{chars_rest}
use Rattle.std.specs.Str.{chars}
use Rattle.unescape.specs.Escapes.{feed}
use Rattle.text.proofs.Written.{Sofar}
use Rattle.text.proofs.feeding.Writer.write.Given as goal

-- what is written and what is left give the whole
abbrev pub invariant-loop-c : goal.invariant-loop-c
invariant-loop-c l =
    (goal.iterator-loop-c).can_next l.c-iterator
    × (goal.iterator-loop-c).is_finite l.c-iterator
    × IsUtf8 (chars_rest l.c-iterator)
    × (l.self.end + 4 * length (chars_rest l.c-iterator) ≤ l.initial.self.end + 4 * length l.text)
    × Sofar l.initial.self.end l.self.end l.self.machine.state (chars (chars_rest l.c-iterator)) l.self.out.now l.initial.self.out.now (feed l.initial.self.machine.state (chars l.text))
    × (l.self.out.ghost_name ≡ l.initial.self.out.ghost_name)
