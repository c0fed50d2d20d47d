-- What a session value stands for.
use Rattle.source.specs.Sources.{text_of}
use Rattle.stack.specs.Held.{room, stacked}
use Rattle.lexer.specs.States.{Inner, Standing, State}
use Rattle.session.specs.declared.record.Session.{Session}

abbrev pub state_of : Session → State
state_of s = record {
  text = text_of s.cursor.source;
  rooms = record { levels = room s.levels; openers = room s.openers };
  place = s.cursor.position;
  standing = record {
    levels = stacked s.levels;
    body = s.body;
    ended = s.ended;
    inner = record { openers = stacked s.openers; mark = s.mark; colon = s.colon; formats = s.formats };
  };
}

-- a session that stands otherwise, at the same place
abbrev pub stands : State → Standing → State
stands σ w = record σ { standing = w }

-- a session of which a small thing is otherwise
abbrev pub turned : State → Inner → State
turned σ i = stands σ (record σ.standing { inner = i })

abbrev pub inner_of : State → Inner
inner_of σ = σ.standing.inner
