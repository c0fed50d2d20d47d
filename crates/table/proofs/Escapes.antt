-- What stands behind a backslash.
use Rattle.std.proofs.Common.{◌≡◌, ℕ, true, cond, List, [], ◌∷◌, drop, arith}
use Rattle.std.proofs.lemmas.Bool.{false≢true}
use Rattle.scan.specs.Prefix.{begins}
use Rattle.rules.specs.Found.{Fails}
use Rattle.rules.specs.declared.found.Layout.TheVariants.{UnpairedCarriageReturn}
use Rattle.rules.specs.Scans.{crlf, lf}
use Rattle.rules.specs.Table.{escape, folded, stray}

behind : (p s : List ℕ) → begins (92 ∷ []) s ≡ true → begins (92 ∷ p) s ≡ begins p (drop 1 s)
behind p [] h = absurd (false≢true h)
behind p (c ∷ s) h = grind arith

pub escape_behind : (s : List ℕ) → begins (92 ∷ []) s ≡ true → escape s ≡ cond (begins lf (drop 1 s)) (folded 2 s) (cond (begins crlf (drop 1 s)) (folded 3 s) (cond (begins (13 ∷ []) (drop 1 s)) (Fails UnpairedCarriageReturn 0 2) (stray (drop 1 s))))
escape_behind s h = grind arith
