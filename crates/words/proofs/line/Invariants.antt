use Rattle.std.proofs.Common.{◌≡◌}
use Rattle.std.specs.List.{All}
use Rattle.words.specs.Lines.{bytes_of_all}
use Rattle.words.specs.Words.{IsWord}
use Rattle.words.proofs.line.Given as goal

-- each so far is a word, and its bytes are there
abbrev pub invariant-loop-word : goal.invariant-loop-word
invariant-loop-word l = All (λ w. IsWord w.now) l.yielded × (l.bytes.items ≡ bytes_of_all l.yielded)
