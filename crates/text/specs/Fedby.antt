-- What unescaping makes of a piece, by its parts.
use Rattle.std.specs.Prelude.{ℕ, ◌+◌, List, [], ◌++◌, length, take, drop, Ok, Err, Result}
use Rattle.unescape.specs.Escapes.{Fed}
use Rattle.unescape.specs.declared.record.Escape.{Escape}
use Rattle.unescape.specs.declared.record.State.{State}

-- the state behind it, and how many bytes it gives besides n; or the refusal
abbrev pub summed : ℕ → Result Fed Escape → Result (State × ℕ) Escape
summed n (Ok f) = Ok (f.state, n + length f.bytes)
summed n (Err e) = Err e

-- the bytes it gives; none where it is refused
abbrev pub bytes_of : Result Fed Escape → List ℕ
bytes_of (Ok f) = f.bytes
bytes_of (Err e) = []

-- bytes written over the start of others
abbrev pub onto : List ℕ → List ℕ → List ℕ
onto bs out = bs ++ drop (length bs) out

-- bytes written over others from a place on
abbrev pub over : ℕ → List ℕ → List ℕ → List ℕ
over at bs out = take at out ++ onto bs (drop at out)

-- the length of a text, or its refusal
abbrev pub sized : Result (List ℕ) Escape → Result ℕ Escape
sized (Ok bs) = Ok (length bs)
sized (Err e) = Err e

-- a text; none where it is refused
abbrev pub from_ok : Result (List ℕ) Escape → List ℕ
from_ok (Ok bs) = bs
from_ok (Err e) = []
