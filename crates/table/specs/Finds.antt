-- What several rules of the table find in one way.
use Rattle.std.specs.Prelude.{ℕ, ◌+◌, List, [], ◌∷◌, Some, None, Option, cond}
use Rattle.scan.specs.Prefix.{begins}
use Rattle.token.specs.declared.kinds.StringKind.{StringKind}
use Rattle.token.specs.declared.kinds.TokenKind.{TokenKind}
use Rattle.rules.specs.Found.{Found, Lexed, Fails}
use Rattle.rules.specs.Scans.{crlf, lf}
use Rattle.rules.specs.Strings.{unterminated}
use Rattle.rules.specs.Table.{or_longer}
use Rattle.rules.specs.declared.parts.Reach.{Reach}
use Rattle.rules.specs.declared.parts.Reach.TheVariants.{Closes, Pauses, Ends}

-- the token of two characters by its second, the first of these that fits, or else what is found otherwise
abbrev pub chosen : (first : ℕ) → List (ℕ × TokenKind) → Found → List ℕ → Found
chosen first [] otherwise s = otherwise
chosen first (choice ∷ choices) otherwise s = or_longer (first ∷ choice.0 ∷ []) choice.1 (chosen first choices otherwise s) s

-- the length of the line end that comes first
abbrev pub line_end_length : List ℕ → Option ℕ
line_end_length s = cond (begins lf s) (Some 1) (cond (begins crlf s) (Some 2) None)

-- the token that the inside of a string ends, of n bytes before the inside
abbrev pub ended : (closes pauses : TokenKind) → StringKind → ℕ → Reach → Found
ended closes pauses k n (Closes m) = Lexed closes (n + m)
ended closes pauses k n (Pauses m) = Lexed pauses (n + m)
ended closes pauses k n Ends = Fails (unterminated k.delimiter) 0 n
