-- String literals: which quotes they have, and what stands between.
use Rattle.std.specs.Prelude.{ℕ, ◌-◌, ◌*◌, Bool, true, false, cond, ◌&&◌, List, [], ◌∷◌, length, take, drop, Some, None, Option, nat_le}
use Rattle.std.specs.List.{find}
use Rattle.scan.specs.Prefix.{begins}
use Rattle.token.specs.Strings.{delimiter_of}
use Rattle.token.specs.declared.kinds.StringDelimiter.{StringDelimiter}
use Rattle.token.specs.declared.kinds.StringDelimiter.TheVariants.{QuoteDouble, QuoteSingle}
use Rattle.token.specs.declared.kinds.StringKind.{StringKind}

abbrev pub three : StringDelimiter → StringKind
three q = record { delimiter = q; indented = true }

abbrev pub one : StringDelimiter → StringKind
one q = record { delimiter = q; indented = false }

-- the quotes, in the order in which they are tried
abbrev pub quotes : List StringKind
quotes = three QuoteDouble ∷ one QuoteDouble ∷ three QuoteSingle ∷ one QuoteSingle ∷ []

-- the first whose delimiter the bytes begin with
abbrev pub first_of : List StringKind → List ℕ → Option StringKind
first_of ks bs = find (λ k. begins (delimiter_of k) bs) ks

-- the bytes end with the delimiter, and are at least twice as long
abbrev pub closed_by : List ℕ → List ℕ → Bool
closed_by d bs = nat_le (2 * length d) (length bs) && begins d (drop (length bs - length d) bs)

-- what is left without n bytes at each end
abbrev pub stripped : ℕ → List ℕ → List ℕ
stripped n bs = take (length bs - n - n) (drop n bs)

abbrev pub closed : List ℕ → Option StringKind → Option (StringKind × List ℕ)
closed bs None = None
closed bs (Some k) = cond (closed_by (delimiter_of k) bs) (Some (k, stripped (length (delimiter_of k)) bs)) None

-- a literal's kind, and what stands between its delimiters
unfoldable pub literal : List ℕ → Option (StringKind × List ℕ)
literal bs = closed bs (first_of quotes bs)
