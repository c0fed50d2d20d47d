-- What a line of words stands for.
use Rattle.std.specs.Prelude.{◌≡◌, ℕ, List, Some}
use Rattle.std.specs.Iterator.{Drains, YieldsThen}
use Rattle.std.specs.List.{All, flat_map}
use Rattle.std.specs.Str.Iter.{split_whitespace_rest, split_whitespace_steps}
use Rattle.std.specs.declared.str.SplitWhitespace.{SplitWhitespace}
use denote.Ref.{Bor}
use Rattle.words.specs.Refusals.{Refuses}
use Rattle.words.specs.Words.{IsWord, bytes_of}
use Rattle.words.specs.declared.error.WordError.{WordError}

-- the bytes of each of them, in turn
abbrev pub bytes_of_all : List (Bor (List ℕ)) → List ℕ
bytes_of_all words = flat_map (λ w. bytes_of w.now) words

-- the line parts into words of which these are the bytes
abbrev pub StandsFor : (line bytes : List ℕ) → Type 0
StandsFor line bytes =
    (it : SplitWhitespace) × (split_whitespace_rest it ≡ line)
    × ((words : List (Bor (List ℕ))) × Drains split_whitespace_steps it words
    × All (λ w. IsWord w.now) words × (bytes ≡ bytes_of_all words))

-- the line begins with words, and behind them is one that is refused so
abbrev pub RefusesLine : WordError → (line : List ℕ) → Type 0
RefusesLine e line =
    (it : SplitWhitespace) × (split_whitespace_rest it ≡ line)
    × ((words : List (Bor (List ℕ))) × ((word : Bor (List ℕ)) × ((rest : SplitWhitespace)
    × YieldsThen split_whitespace_steps it words (Some word) rest
    × All (λ w. IsWord w.now) words × Refuses e word.now)))
