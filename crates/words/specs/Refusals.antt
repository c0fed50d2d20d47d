-- What a refusal says of a word.
use Rattle.std.specs.Prelude.{ℕ, List}
use Rattle.words.specs.Words.{IsWord}
use Rattle.words.specs.declared.error.WordError.{WordError}
use Rattle.words.specs.declared.error.WordError.TheVariants.{Number, OutOfMemory}

-- a number is at fault where it is no word, and memory where it is one
abbrev pub Refuses : WordError → List ℕ → Type 0
Refuses (Number e) word = ¬ (IsWord word)
Refuses OutOfMemory word = IsWord word
