-- How long lines are.
use Rattle.std.proofs.Common.{ℕ, ◌*◌, ◌^◌, ◌<◌, ◌≤◌, Bool, true, false, cond, List, [], ◌∷◌, length, codes, decimal, arith, ◌==◌}
use Rattle.std.proofs.lemmas.List.{length-append}
use Rattle.std.proofs.lemmas.Fmt.{length-decimal-le}
use Rattle.listing.specs.Lines.{field, printed, shown}

pub decimal_short : (n : ℕ) → n < 2 ^ 32 → length (decimal n) ≤ 10
decimal_short n h = length-decimal-le 10 n (omega arith) (omega arith) (omega arith)

pub field_short : (n b : ℕ) → n < 2 ^ 32 → length (field n b) ≤ 11
field_short n b h = omega (arith, decimal_short n h, length-append (decimal n) (b ∷ []))

shown_short : (b : ℕ) → length (shown b) ≤ 2
shown_short b = by (b == 10) (b == 13) (b == 9)
  where
    by : (n r t : Bool) → length (cond n (codes "\\n") (cond r (codes "\\r") (cond t (codes "\\t") (b ∷ [])))) ≤ 2
    by true r t = omega arith
    by false true t = omega arith
    by false false true = omega arith
    by false false false = omega arith

pub printed_short : (bs : List ℕ) → length (printed bs) ≤ 2 * length bs
printed_short [] = omega arith
printed_short (b ∷ bs) = omega (arith, length-append (shown b) (printed bs), shown_short b, printed_short bs)
