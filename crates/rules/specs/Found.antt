-- What a rule finds, and what a scan does at a place.
use Rattle.std.specs.Prelude.{ℕ, Bool, Some, None, Ok, Err, Option, Result}
use Rattle.token.specs.declared.kinds.TokenKind.{TokenKind}
use Rattle.rules.specs.declared.found.Layout.{Layout}
use Rattle.rules.specs.declared.found.Miss.{Miss}
use Rattle.rules.specs.declared.found.Miss.TheVariants as miss
use Rattle.rules.specs.declared.parts.Pass.{Pass as Step}

abbrev pub Found : Type 0
Found = Result (TokenKind × ℕ) Miss

-- a token here, of a kind and a length
pattern abbrev pub Lexed : TokenKind → ℕ → Found
Lexed k n = Ok (k, n)

-- a fault: why, how many bytes ahead, and over how many
pattern abbrev pub Fails : Layout → ℕ → ℕ → Found
Fails cause ahead n = Err (miss.Fails cause ahead n)

-- the text ends while an interpolation is open
pattern abbrev pub Unclosed : Found
Unclosed = Err miss.Unclosed

abbrev pub Move : Type 0
Move = Option Step

pattern abbrev pub Stop : Move
Stop = None

-- a byte is passed and so many more, with the next character escaped or not
abbrev pub Pass : ℕ → Bool → Move
Pass more escaped = Some (record { more = more; escaped = escaped })
