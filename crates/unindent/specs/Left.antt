-- What pieces a text still has to give.
use Rattle.std.specs.Prelude.{ℕ, ◌+◌, ◌<◌, ◌≤◌, Bool, List, [], ◌∷◌, length, Some, None, IfSome, IsUtf8, OnSome, Option}
use Rattle.std.specs.Borrow.{Bor}
use Rattle.std.specs.Iterator.{YieldsFirstRef}
use Rattle.unindent.specs.Lines.{lines, pieces}
use Rattle.unindent.specs.declared.record.Pieces.{Pieces}

-- a text that is not empty is one piece
abbrev pub whole : List ℕ → List (List ℕ)
whole [] = []
whole (b ∷ bs) = (b ∷ bs) ∷ []

-- the lines with n bytes of indentation removed from each, or the text as it stands
abbrev pub left_of : Option ℕ → Bool → List ℕ → List (List ℕ)
left_of None first bs = whole bs
left_of (Some n) first bs = pieces first n (lines bs)

abbrev pub left : Pieces → List (List ℕ)
left p = left_of p.indent p.first p.rest.now

-- what a call of `next` gives
pub record GivesPiece (s : Pieces) (r : Option (Bor (List ℕ))) (t : Pieces) : Type 0 where
  pub gives : YieldsFirstRef left s r t
  pub shorter : OnSome r (length t.rest.now < length s.rest.now)
  pub utf8 : IfSome r (λ p. IsUtf8 p.now)
  pub near : IfSome r (λ p. length p.now + length t.rest.now ≤ length s.rest.now)
