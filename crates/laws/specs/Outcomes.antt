-- What a call comes to.
use Rattle.std.specs.Prelude.{ℕ, List, [], ◌∷◌, Some, None, Ok, Err, Option, Result}
use Rattle.token.specs.Told.{Refusal, refusal}
use Rattle.token.specs.declared.fault.Fault.{Fault}
use Rattle.token.specs.declared.place.Position.{Position}
use Rattle.token.specs.declared.place.Token.{Token}

-- a token is handed out; one is shown, and is still to come; the place is told; next or glance refuses; literal refuses; nothing is given
pub data Outcome : Type 0 where
  hands : Token → Outcome
  shows : Token → Outcome
  tells : Position → Outcome
  refuses : Refusal → Outcome
  declines : Refusal → Outcome
  ends : Outcome

-- the tokens that are handed out
abbrev pub handed : Outcome → List Token
handed (hands t) = t ∷ []
handed (shows t) = []
handed (tells p) = []
handed (refuses f) = []
handed (declines f) = []
handed ends = []

abbrev pub by_next : Result (Option Token) Fault → Outcome
by_next (Ok (Some t)) = hands t
by_next (Ok None) = ends
by_next (Err f) = refuses (refusal f)

abbrev pub by_glance : Result (Option Token) Fault → Outcome
by_glance (Ok (Some t)) = shows t
by_glance (Ok None) = ends
by_glance (Err f) = refuses (refusal f)

abbrev pub by_literal : Result (Token × ℕ) Fault → Outcome
by_literal (Ok p) = hands p.0
by_literal (Err f) = declines (refusal f)
