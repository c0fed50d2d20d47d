-- The laws of what is handed out.
use Rattle.std.specs.Prelude.{◌≡◌, ℕ, ◌+◌, ◌/◌, ◌≤◌, true, List, [], ◌∷◌, ◌++◌, length, take, None, Ok}
use Rattle.std.specs.List.{flat_map}
use Rattle.token.specs.Told.{origin}
use Rattle.token.specs.declared.place.Token.{Token}
use Rattle.source.specs.Places.{walk}
use Rattle.lexer.specs.Answers.{answer}
use Rattle.lexer.specs.Runs.{tokens_of}
use Rattle.lexer.specs.States.{Rooms, State, opening}
use Rattle.runs.specs.Coming.{meant, tell}
use Rattle.runs.specs.Hands.{Hands}
use Rattle.runs.specs.Opens.{closed, leaves, lexeme}
use Rattle.runs.specs.Orders.{AllOrderly, Nest}

-- each token begins where the one before it ended, at the place that passing all bytes before it gives: the first at one offset, and the last ends at another
abbrev pub Laid : (text : List ℕ) → (from : ℕ) → List Token → (to : ℕ) → Type 0
Laid text from [] to = from ≡ to
Laid text from (t ∷ ts) to = (t.position.offset ≡ from) × (t.position ≡ walk from text origin) × Laid text (from + t.length) ts to

-- tokens handed out from the opening of a session over a text, and the state that they left
pub record Lawful (text : List ℕ) (rooms : Rooms) (ts : List Token) (τ : State) : Type 0 where
  -- they are the first that the definition gives; the others are to come, and the ending
  pub first : (tokens_of text rooms).tokens ≡ ts ++ (meant τ).tokens
  pub ending : (tokens_of text rooms).ending ≡ (meant τ).ending
  -- the next answer is what comes then
  pub tells : answer τ ≡ tell (meant τ)
  -- they lie end to end from the start to the place, and are the text up to there
  pub laid : Laid text 0 ts τ.place.offset
  pub whole : flat_map (lexeme text) ts ≡ take τ.place.offset text
  pub within : τ.place.offset ≤ length text
  pub place : τ.place ≡ walk τ.place.offset text origin
  -- they are few
  pub few : length ts ≤ length text + length text / 2 + 1
  -- each may stand where it does, by what the tokens before it left open
  pub orderly : AllOrderly text closed ts
  pub nest : Nest (leaves text closed ts).indents
  -- nothing is given only behind Eof
  pub last : answer τ ≡ Ok None → (leaves text closed ts).ended ≡ true

abbrev pub RunsLawful : Type 0
RunsLawful = (text : List ℕ) (rooms : Rooms) (ts : List Token) (τ : State) → Hands (opening text rooms) ts τ → Lawful text rooms ts τ
