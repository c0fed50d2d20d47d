-- What a stored roll holds and means.
use Rattle.std.specs.Prelude.{ℕ, ◌+◌, List, [], ◌∷◌, take, drop, Option}
use Rattle.token.specs.declared.fault.Fault.{Fault}
use Rattle.token.specs.declared.place.Token.{Token}
use Rattle.stack.specs.Held.{held, room}
use Rattle.lexer.specs.Runs.{Meaning}
use Rattle.stream.specs.declared.roll.Roll.{Roll}

-- the stored tokens, oldest first; how many could be stored; the cursor; the ending
pub record Rolled : Type 0 where
  pub entries : List Token
  pub size : ℕ
  pub cursor : ℕ
  pub ending : Option Fault

abbrev pub rolled : Roll → Rolled
rolled r = record { entries = held r.tokens; size = room r.tokens; cursor = r.cursor; ending = r.ending }

-- the tokens behind the cursor, of the first 98,305
abbrev pub coming : Rolled → List Token
coming r = drop r.cursor (take 98305 r.entries)

abbrev pub means : Rolled → Meaning
means r = record { tokens = coming r; ending = r.ending }

abbrev pub passed : List Token → ℕ → ℕ
passed [] n = n
passed (t ∷ ts) n = n + 1

-- behind a next: the cursor has passed a token, if one was left
abbrev pub forward : Rolled → Rolled
forward r = record { entries = r.entries; size = r.size; cursor = passed (coming r) r.cursor; ending = r.ending }
