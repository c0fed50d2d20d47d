-- What the rules find fits.
use Rattle.std.proofs.Common.{◌≡◌, ℕ, ◌+◌, ◌<◌, ◌≤◌, Bool, true, false, cond, ◌&&◌, List, [], ◌∷◌, length, drop, is_some, Some, None, Option, sym, refl, ap, arith}
use Rattle.std.proofs.lemmas.List.{length-drop}
use Rattle.std.proofs.lemmas.List.Sums.{prefix_len-le-length}
use Rattle.std.proofs.lemmas.Bool.{or_left}
use Rattle.scan.specs.Classes.{gap}
use Rattle.scan.specs.Prefix.{begins}
use Rattle.scan.proofs.Prefixes.{begins_fits}
use Rattle.token.specs.Strings.{delimiter_of, quote_byte}
use Rattle.token.specs.declared.kinds.Delimiter.{Delimiter}
use Rattle.token.specs.declared.kinds.Delimiter.TheVariants as delimiter
use Rattle.token.specs.declared.kinds.StringDelimiter.{StringDelimiter}
use Rattle.token.specs.declared.kinds.StringDelimiter.TheVariants as quote
use Rattle.token.specs.declared.kinds.StringKind.{StringKind}
use Rattle.token.specs.declared.kinds.TokenKind.{TokenKind}
use Rattle.token.specs.declared.kinds.TokenKind.TheVariants as kind
use Rattle.rules.specs.declared.found.Around.{Around}
use Rattle.rules.specs.Found.{Found}
use Rattle.rules.specs.declared.parts.Reach.{Reach}
use Rattle.rules.specs.declared.parts.Reach.TheVariants.{Closes, Pauses, Ends}
use Rattle.rules.specs.declared.parts.Rule.TheVariants as rule
use Rattle.rules.specs.Effects.{effect_of}
use Rattle.rules.specs.Laws.{Fits, Shaped, Sound}
use Rattle.rules.specs.Picks.{admits}
use Rattle.rules.specs.Scans.{closing as closing_braces, empty, over_comment}
use Rattle.rules.specs.Strings.{formatting, kind_of, opened, quotation, reach, reaches, resumed, string_of}
use Rattle.rules.specs.Table.{bang, brace, found_by_rule, closing, colon, continuing, found_line_end, equals, escape, first_of, folded, format_of, general, letter, missing, name_byte, plus, stray, table, twice}
use Rattle.rules.proofs.Cases.{by}
use Rattle.rules.proofs.Passes.{comment_some, delimiter_some, leading_some, reach_le, scan_le, some, width_le}
use Rattle.rules.proofs.Picked.{Held, looked_up, picked}

module _ (fresh : Bool) (o : Around) (levels : List (List ℕ)) (s : List ℕ) where
  abbrev Good : Found → Type 0
  Good f = Sound fresh o levels s f

  -- a kind that may stand over so many bytes, if they are there
  abbrev Plain : TokenKind → Type 0
  Plain k = (n : ℕ) → 0 < n → n ≤ length s → Fits fresh o levels s (effect_of k) n

  bang_good : empty s ≡ false → Good (bang s)
  bang_good h = grind arith

  plus_good : empty s ≡ false → Good (plus s)
  plus_good h = grind arith

  equals_good : empty s ≡ false → Good (equals s)
  equals_good h = grind arith

  colon_good : empty s ≡ false → Good (colon s)
  colon_good h = grind arith

  missing_good : 0 < length s → (t : List ℕ) → Good (missing t)
  missing_good l [] = (omega arith, omega arith)
  missing_good l (c ∷ t) = (omega arith, omega (arith, width_le (c ∷ t)))

  twice_good : (c : ℕ) (k : TokenKind) → Plain k → empty s ≡ false → Good (twice c k s)
  twice_good c k f h =
      by Good (begins (c ∷ c ∷ []) s) (λ b. f 2 (omega arith) (begins_fits (c ∷ c ∷ []) s b)) (λ _. missing_good (some s h) (drop 1 s))

  closing_good : (d : Delimiter) (k : TokenKind) (newest : Option Delimiter) → (Shaped d newest → Fits fresh o levels s (effect_of k) 1) → Good (closing d k newest)
  closing_good d k None f = (omega arith, omega arith)
  closing_good d k (Some e) f = grind arith

  opened_good : (k : StringKind) (n : ℕ) (r : Reach) → 0 < n → n + reaches r ≤ length s → Good (opened k n r)
  opened_good k n (Closes m) a b = grind arith
  opened_good k n (Pauses m) a b = (omega arith, b, tt)
  opened_good k n Ends a b = (omega arith, omega arith)

  string_good : (k : StringKind) (f : Bool) → begins (delimiter_of k) s ≡ true → Good (string_of k f s)
  string_good k f h =
      let n = length (delimiter_of k) in
      opened_good k n (reach k f (drop n s)) (delimiter_some k) (omega (arith, reach_le k f (drop n s), length-drop n s, begins_fits (delimiter_of k) s h))

  kind_begins : (q : StringDelimiter) → begins (quote_byte q ∷ []) s ≡ true → begins (delimiter_of (kind_of q s)) s ≡ true
  kind_begins q h = grind arith

  quotation_good : (q : StringDelimiter) → begins (quote_byte q ∷ []) s ≡ true → Good (quotation q o.formats s)
  quotation_good q h = string_good (kind_of q s) (formatting q && o.formats) (kind_begins q h)

  resumed_good : (k : StringKind) (r : Reach) → 2 + reaches r ≤ length s → is_some (format_of o.newest) ≡ true → Good (resumed k r)
  resumed_good k (Closes m) b i = (omega arith, b, i)
  resumed_good k (Pauses m) b i = (omega arith, b, tt)
  resumed_good k Ends b i = (omega arith, omega arith)

  brace_closes : 0 < length s → Good (closing delimiter.Brace kind.BraceR o.newest)
  brace_closes l = grind arith

  continuing_good : (f : Option StringKind) → f ≡ format_of o.newest → begins closing_braces s ≡ true → Good (continuing f o.newest s)
  continuing_good None e h = brace_closes (omega (arith, begins_fits closing_braces s h))
  continuing_good (Some k) e h =
      resumed_good k (reach k true (drop 2 s)) (omega (arith, reach_le k true (drop 2 s), length-drop 2 s, begins_fits closing_braces s h)) (ap (λ v. is_some v) (sym e))

  brace_good : empty s ≡ false → Good (brace o.newest s)
  brace_good h = by Good (begins closing_braces s) (λ b. continuing_good (format_of o.newest) refl b) (λ _. brace_closes (some s h))

  line_end_good : empty s ≡ false → Good (found_line_end o s)
  line_end_good h = grind arith

  folded_good : (n : ℕ) → 0 < n → n ≤ length s → Good (folded n s)
  folded_good n a b = (omega arith, omega (arith, prefix_len-le-length gap (drop n s), length-drop n s), tt)

  stray_good : (t : List ℕ) → Good (stray t)
  stray_good [] = (omega arith, omega arith)
  stray_good (c ∷ t) = (omega arith, omega arith)

  escape_good : Good (escape s)
  escape_good =
      by Good (begins (92 ∷ 10 ∷ []) s)
      (λ b. folded_good 2 (omega arith) (begins_fits (92 ∷ 10 ∷ []) s b))
      (λ _. by Good (begins (92 ∷ 13 ∷ 10 ∷ []) s)
      (λ b. folded_good 3 (omega arith) (begins_fits (92 ∷ 13 ∷ 10 ∷ []) s b))
      (λ _. by Good (begins (92 ∷ 13 ∷ []) s) (λ b. (omega arith, omega arith)) (λ _. stray_good (drop 1 s))))

  single : empty s ≡ false → (0 < 1) × (1 ≤ length s) × Unit {0}
  single h = (omega arith, some s h, tt)

  blank_good : admits rule.Blank s ≡ true → Good (found_by_rule rule.Blank o s)
  blank_good a = (leading_some gap gap s (λ c h. h) a, prefix_len-le-length gap s, tt)

  comment_good : admits rule.Comment s ≡ true → Good (found_by_rule rule.Comment o s)
  comment_good a = (comment_some s a, scan_le over_comment 0 false s, tt)

  mark_good : admits rule.ByteOrderMark s ≡ true → Good (found_by_rule rule.ByteOrderMark o s)
  mark_good a = grind arith

  other_good : (c : ℕ) → admits (cond (letter c) rule.Name rule.Unknown) s ≡ true → Good (found_by_rule (cond (letter c) rule.Name rule.Unknown) o s)
  other_good c =
      by (λ r. admits r s ≡ true → Good (found_by_rule r o s)) (letter c)
      (λ _ a. (leading_some name_byte letter s (λ d h. or_left _ _ h) a, prefix_len-le-length name_byte s, tt))
      (λ _ _. (omega arith, omega (arith, width_le s)))

  rows_good : (c : ℕ) → empty s ≡ false → Held (λ r. admits r s ≡ true → Good (found_by_rule r o s)) c table
  unfolding Held
  rows_good c h =
      ((λ _ a. blank_good a), ((λ _ a. blank_good a), ((λ _ a. comment_good a), ((λ _ _. single h), ((λ _ _. single h), ((λ _ _. single h), ((λ _ _. single h), ((λ _ _. single h), ((λ _ _. single h), ((λ _ _. bang_good h), ((λ _ _. plus_good h), ((λ _ _. equals_good h), ((λ _ _. colon_good h), ((λ _ _. twice_good 38 kind.AmpersandAmpersand (λ n a b. (a, b, tt)) h), ((λ _ _. twice_good 124 kind.BarBar (λ n a b. (a, b, tt)) h), ((λ _ _. single h), ((λ _ _. single h), ((λ _ _. single h), ((λ _ _. closing_good delimiter.Paren kind.ParenR o.newest (λ q. (omega arith, some s h, q))), ((λ _ _. closing_good delimiter.Bracket kind.BracketR o.newest (λ q. (omega arith, some s h, q))), ((λ _ _. brace_good h), ((λ _ _. line_end_good h), ((λ _ _. line_end_good h), ((λ _ _. escape_good), ((λ _ a. quotation_good quote.Backtick a), ((λ _ a. quotation_good quote.QuoteDouble a), ((λ _ a. quotation_good quote.QuoteSingle a), ((λ _ a. mark_good a), tt))))))))))))))))))))))))))))

  pub general_good : empty s ≡ false → Good (general o s)
  general_good h = looked_up (λ r. admits r s ≡ true → Good (found_by_rule r o s)) (first_of s) table (rows_good (first_of s) h) (other_good (first_of s)) (picked s)
