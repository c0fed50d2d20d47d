-- How strings are quoted.
use Rattle.std.specs.Prelude.{ℕ, Bool, true, false, cond, List, [], ◌∷◌}
use Rattle.token.specs.declared.kinds.StringDelimiter.{StringDelimiter}
use Rattle.token.specs.declared.kinds.StringDelimiter.TheVariants.{Backtick, QuoteDouble, QuoteSingle}
use Rattle.token.specs.declared.kinds.StringKind.{StringKind}

-- the byte of ` " and '
abbrev pub quote_byte : StringDelimiter → ℕ
quote_byte Backtick = 96
quote_byte QuoteDouble = 34
quote_byte QuoteSingle = 39

abbrev pub delimiter_of : StringKind → List ℕ
delimiter_of k = let q = quote_byte k.delimiter in cond k.indented (q ∷ q ∷ q ∷ []) (q ∷ [])

-- a backslash escapes in double quotes alone
abbrev pub escapes_by : StringDelimiter → Bool
escapes_by Backtick = false
escapes_by QuoteDouble = true
escapes_by QuoteSingle = false

abbrev pub escapes_in : StringKind → Bool
escapes_in k = escapes_by k.delimiter
