-- A literal may be cut at its delimiters.
use Rattle.std.proofs.Common.{◌≡◌, ℕ, zero, suc, ◌+◌, ◌-◌, ◌*◌, ◌<◌, ◌≤◌, Bool, true, false, cond, eqb, leb, List, [], ◌∷◌, length, get_or, drop, IsUtf8, sym, refl, ap, ◌∙◌, subst, arith}
use Rattle.std.specs.Str.{IsCharBoundary}
use Rattle.std.proofs.lemmas.List.{get_or-drop}
use Rattle.std.proofs.lemmas.Bool.{and_parts, eqb-true, leb-true, false≢true}
use Rattle.std.proofs.lemmas.Str.{IsCharBoundary-after_ascii, IsCharBoundary-before_ascii}
use Rattle.scan.specs.Prefix.{begins}
use Rattle.token.specs.Strings.{delimiter_of, quote_byte}
use Rattle.token.specs.declared.kinds.StringDelimiter.{StringDelimiter}
use Rattle.token.specs.declared.kinds.StringDelimiter.TheVariants.{Backtick, QuoteDouble, QuoteSingle}
use Rattle.token.specs.declared.kinds.StringKind.{StringKind}
use Rattle.text.specs.Quotes.{closed_by}

begins_at : (ps bs : List ℕ) (i : ℕ) → begins ps bs ≡ true → i < length ps → get_or bs i 0 ≡ get_or ps i 0
begins_at [] bs i h l = absurd (omega arith)
begins_at (p ∷ ps) [] i h l = absurd (false≢true h)
begins_at (p ∷ ps) (b ∷ bs) zero h l = eqb-true b p (and_parts (eqb b p) (begins ps bs) h).0
begins_at (p ∷ ps) (b ∷ bs) (suc i) h l = begins_at ps bs i (and_parts (eqb b p) (begins ps bs) h).1 (omega arith)

quote_low : (q : StringDelimiter) → quote_byte q < 128
quote_low Backtick = omega arith
quote_low QuoteDouble = omega arith
quote_low QuoteSingle = omega arith

-- a delimiter is not empty, and begins and ends with its quote
record Delimited (k : StringKind) : Type 0 where
  some : 0 < length (delimiter_of k)
  first : get_or (delimiter_of k) 0 0 < 128
  last : get_or (delimiter_of k) (length (delimiter_of k) - 1) 0 < 128

delimited : (k : StringKind) → Delimited k
delimited k = by k.indented refl
  where
    q : ℕ
    q = quote_byte k.delimiter

    by : (t : Bool) → k.indented ≡ t → Delimited k
    by true e =
        let d : delimiter_of k ≡ q ∷ q ∷ q ∷ [] = ap (λ t. cond t (q ∷ q ∷ q ∷ []) (q ∷ [])) e in
        let low : q < 128 = quote_low k.delimiter in
        record {
          some = omega (arith, ap length d);
          first = subst (λ l. get_or l 0 0 < 128) (sym d) low;
          last = subst (λ l. get_or l (length l - 1) 0 < 128) (sym d) low;
        }
    by false e =
        let d : delimiter_of k ≡ q ∷ [] = ap (λ t. cond t (q ∷ q ∷ q ∷ []) (q ∷ [])) e in
        let low : q < 128 = quote_low k.delimiter in
        record {
          some = omega (arith, ap length d);
          first = subst (λ l. get_or l 0 0 < 128) (sym d) low;
          last = subst (λ l. get_or l (length l - 1) 0 < 128) (sym d) low;
        }

module _ (k : StringKind) (bs : List ℕ) (u : IsUtf8 bs) (o : begins (delimiter_of k) bs ≡ true) (c : closed_by (delimiter_of k) bs ≡ true) where
  abbrev n : ℕ
  n = length (delimiter_of k)

  parts : (leb (2 * n) (length bs) ≡ true) × (begins (delimiter_of k) (drop (length bs - n) bs) ≡ true)
  parts = and_parts (leb (2 * n) (length bs)) (begins (delimiter_of k) (drop (length bs - n) bs)) c

  pub twice : 2 * n ≤ length bs
  twice = leb-true (2 * n) (length bs) parts.0

  pub start_seam : IsCharBoundary bs n
  start_seam =
      let d = delimited k in
      let e : get_or bs (n - 1) 0 ≡ get_or (delimiter_of k) (n - 1) 0 = begins_at (delimiter_of k) bs (n - 1) o (omega (arith, d.some)) in
      let i : n - 1 + 1 ≡ n = omega (arith, d.some) in
      subst (IsCharBoundary bs) i (IsCharBoundary-after_ascii bs (n - 1) u (omega (arith, twice, d.some)) (subst (λ b. b < 128) (sym e) d.last))

  pub end_seam : IsCharBoundary bs (length bs - n)
  end_seam =
      let d = delimited k in
      let z : length bs - n + 0 ≡ length bs - n = omega arith in
      let e : get_or bs (length bs - n) 0 ≡ get_or (delimiter_of k) 0 0 =
      sym (ap (λ i. get_or bs i 0) z) ∙ sym (get_or-drop (length bs - n) bs 0 0) ∙ begins_at (delimiter_of k) (drop (length bs - n) bs) 0 parts.1 d.some in
      IsCharBoundary-before_ascii bs (length bs - n) (omega (arith, twice, d.some)) (subst (λ b. b < 128) (sym e) d.first)
