-- What a rule finds ends between characters.
use Rattle.std.proofs.Common.{◌≡◌, ℕ, suc, pred, ◌+◌, ◌<◌, ◌≤◌, Bool, true, false, cond, not, ◌&&◌, ◌||◌, eqb, ltb, List, [], ◌∷◌, length, take, drop, is_some, Some, None, IsUtf8, Option, refl, ap, ◌∙◌, subst, arith}
use lib.Count.{count_leading_zeros}
use Rattle.std.specs.Str.{IsCharBoundary}
use Rattle.std.specs.List.{prefix_len}
use Rattle.std.proofs.lemmas.List.{length-take-le}
use Rattle.std.proofs.lemmas.List.Sums.{prefix_len-le-length}
use Rattle.std.proofs.lemmas.Bool.{and_parts, eqb-true, false≢true, ltb-true}
use Rattle.std.proofs.lemmas.Str.{IsCharBoundary-after_ascii, IsCharBoundary-from_rest, IsCharBoundary-start, IsUtf8-drop}
use Rattle.scan.specs.Classes.{gap}
use Rattle.scan.specs.Prefix.{begins}
use Rattle.scan.proofs.Prefixes.{begins_fits}
use Rattle.token.specs.Strings.{delimiter_of, escapes_in, quote_byte}
use Rattle.token.specs.declared.kinds.Delimiter.{Delimiter}
use Rattle.token.specs.declared.kinds.Delimiter.TheVariants as delimiter
use Rattle.token.specs.declared.kinds.TokenKind.TheVariants as kind
use Rattle.token.specs.declared.kinds.StringDelimiter.{StringDelimiter}
use Rattle.token.specs.declared.kinds.StringDelimiter.TheVariants.{Backtick, QuoteDouble, QuoteSingle}
use Rattle.token.specs.declared.kinds.StringKind.{StringKind}
use Rattle.token.specs.declared.kinds.TokenKind.{TokenKind}
use Rattle.utf8.specs.Utf8.{shown_length}
use Rattle.rules.specs.declared.found.Around.{Around}
use Rattle.rules.specs.Found.{Found, Lexed, Fails, Unclosed}
use Rattle.rules.specs.declared.parts.Reach.{Reach}
use Rattle.rules.specs.declared.parts.Reach.TheVariants.{Closes, Pauses, Ends}
use Rattle.rules.specs.declared.parts.Rule.{Rule}
use Rattle.rules.specs.declared.parts.Rule.TheVariants as rule
use Rattle.rules.specs.declared.parts.Start.{Start}
use Rattle.rules.specs.declared.parts.Start.TheVariants.{Still, Aligned, Outward, Inward, Wrong}
use Rattle.rules.specs.Lines.{body, finish, indented, innermost, mixed, onward, or_else, outdents, rule as rule_of, same, among, start, stop, told}
use Rattle.rules.specs.Picks.{admits, first_is}
use Rattle.rules.specs.Scans.{character, closing, crlf, doubled, empty, lf, line_end, is_line_over, opening, over_comment, over_text, scan}
use Rattle.rules.specs.Strings.{formatting, kind_of, opened, over_string, reach, resumed, string_of}
use Rattle.rules.specs.Table.{found_by_rule, closing as closes, continuing, escape, first_of, folded, format_of, general, letter, mark, missing, name_byte, nested, or_longer, pick, shape, stray, table}
use Rattle.rules.proofs.Cases.{by}
use Rattle.rules.proofs.Edges.{all_low, begins_edge, character_edge, class_edge, WholeMove, WholeMoves, scan_edge}
use Rattle.rules.proofs.Passes.{text_none}
use Rattle.rules.proofs.Picked.{Held, looked_up, picked}

abbrev pub Whole : List ℕ → Found → Type 0
Whole s (Lexed k n) = IsCharBoundary s n
Whole s (Fails c a n) = IsCharBoundary s a
Whole s Unclosed = Unit {0}

gap_low : (b : ℕ) → gap b ≡ true → b < 128
gap_low b h = grind arith

name_low : (b : ℕ) → name_byte b ≡ true → b < 128
name_low b h = grind arith

-- scans
character_whole : (c : ℕ) (s : List ℕ) → IsUtf8 (c ∷ s) → WholeMove (c ∷ s) (character (c ∷ s))
character_whole c s u = character_edge c s u

comment_whole : WholeMoves over_comment
comment_whole e c s u = by (WholeMove (c ∷ s)) (line_end (c ∷ s)) (λ _. tt) (λ _. character_whole c s u)

text_whole : WholeMoves over_text
text_whole e c s u =
    by (WholeMove (c ∷ s)) (begins doubled (c ∷ s))
    (λ h. begins_edge doubled (c ∷ s) u refl (omega arith) h)
    (λ _. by (WholeMove (c ∷ s)) (line_end (c ∷ s) || begins opening (c ∷ s)) (λ _. tt) (λ _. character_whole c s u))

string_whole : (k : StringKind) (format : Bool) → WholeMoves (over_string k format)
string_whole k format e c s u =
    by (WholeMove (c ∷ s)) (not e && (escapes_in k && begins (92 ∷ []) (c ∷ s)))
    (λ h. begins_edge (92 ∷ []) (c ∷ s) u refl (omega arith) (and_parts (escapes_in k) _ (and_parts (not e) _ h).1).1)
    (λ _. by (WholeMove (c ∷ s)) (format && begins doubled (c ∷ s))
    (λ h. begins_edge doubled (c ∷ s) u refl (omega arith) (and_parts format _ h).1)
    (λ _. by (WholeMove (c ∷ s)) (not e && (begins (delimiter_of k) (c ∷ s) || (format && begins opening (c ∷ s)))) (λ _. tt) (λ _. character_whole c s u)))

-- delimiters are ASCII
quote_low : (q : StringDelimiter) → ltb (quote_byte q) 128 ≡ true
quote_low Backtick = refl
quote_low QuoteDouble = refl
quote_low QuoteSingle = refl

delimiter_low : (k : StringKind) → (all_low (delimiter_of k) ≡ true) × (0 < length (delimiter_of k))
delimiter_low k = by (λ d. (all_low d ≡ true) × (0 < length d)) k.indented (λ _. (three (ltb (quote_byte k.delimiter) 128) (quote_low k.delimiter), omega arith)) (λ _. (one (ltb (quote_byte k.delimiter) 128) (quote_low k.delimiter), omega arith))
  where
    three : (b : Bool) → b ≡ true → (b && (b && (b && true))) ≡ true
    three true e = refl
    three false e = absurd (false≢true e)

    one : (b : Bool) → b ≡ true → (b && true) ≡ true
    one true e = refl
    one false e = absurd (false≢true e)

delimiter_edge : (k : StringKind) (s : List ℕ) → IsUtf8 s → begins (delimiter_of k) s ≡ true → IsCharBoundary s (length (delimiter_of k))
delimiter_edge k s u h = let d = delimiter_low k in begins_edge (delimiter_of k) s u d.0 d.1 h

-- where the inside of a string leads
abbrev WholeReach : List ℕ → Reach → Type 0
WholeReach s (Closes n) = IsCharBoundary s n
WholeReach s (Pauses n) = IsCharBoundary s n
WholeReach s Ends = Unit {0}

reach_whole : (k : StringKind) (format : Bool) (s : List ℕ) → IsUtf8 s → WholeReach s (reach k format s)
reach_whole k format s u =
    let n : ℕ = scan (over_string k format) 0 false s in
    let b = scan_edge (over_string k format) (string_whole k format) false s u in
    let v : IsUtf8 (drop n s) = IsUtf8-drop s n u b in
    by (WholeReach s) (begins (delimiter_of k) (drop n s))
    (λ h. IsCharBoundary-from_rest s n (length (delimiter_of k)) b.0 (delimiter_edge k (drop n s) v h))
    (λ _. by (WholeReach s) (begins opening (drop n s)) (λ h. IsCharBoundary-from_rest s n 2 b.0 (begins_edge opening (drop n s) v refl (omega arith) h)) (λ _. tt))

opened_whole : (k : StringKind) (s : List ℕ) (n : ℕ) → IsUtf8 s → IsCharBoundary s n → (r : Reach) → WholeReach (drop n s) r → Whole s (opened k n r)
opened_whole k s n u b (Closes m) h = IsCharBoundary-from_rest s n m b.0 h
opened_whole k s n u b (Pauses m) h = IsCharBoundary-from_rest s n m b.0 h
opened_whole k s n u b Ends h = IsCharBoundary-start s u

string_found : (k : StringKind) (format : Bool) (s : List ℕ) → IsUtf8 s → begins (delimiter_of k) s ≡ true → Whole s (string_of k format s)
string_found k format s u h =
    let b = delimiter_edge k s u h in
    opened_whole k s (length (delimiter_of k)) u b (reach k format (drop (length (delimiter_of k)) s)) (reach_whole k format (drop (length (delimiter_of k)) s) (IsUtf8-drop s (length (delimiter_of k)) u b))

kind_begins : (q : StringDelimiter) (s : List ℕ) → begins (quote_byte q ∷ []) s ≡ true → begins (delimiter_of (kind_of q s)) s ≡ true
kind_begins q s h = go (begins (delimiter_of (record { delimiter = q; indented = true })) s) refl
  where
    go : (t : Bool) → begins (delimiter_of (record { delimiter = q; indented = true })) s ≡ t → begins (cond t (quote_byte q ∷ quote_byte q ∷ quote_byte q ∷ []) (quote_byte q ∷ [])) s ≡ true
    go true e = e
    go false e = h

resumed_whole : (k : StringKind) (s : List ℕ) → IsUtf8 s → IsCharBoundary s 2 → (r : Reach) → WholeReach (drop 2 s) r → Whole s (resumed k r)
resumed_whole k s u b (Closes m) h = IsCharBoundary-from_rest s 2 m b.0 h
resumed_whole k s u b (Pauses m) h = IsCharBoundary-from_rest s 2 m b.0 h
resumed_whole k s u b Ends h = IsCharBoundary-start s u

-- the rules of the table
one_edge : (s : List ℕ) → IsUtf8 s → first_is (λ b. ltb b 128) s ≡ true → IsCharBoundary s 1
one_edge [] u h = absurd (false≢true h)
one_edge (c ∷ s) u h = let e : 0 + 1 ≡ 1 = omega arith in subst (IsCharBoundary (c ∷ s)) e (IsCharBoundary-after_ascii (c ∷ s) 0 u (omega arith) (ltb-true c 128 h))

-- the first byte is ASCII, but for the byte order mark and what no row picks
abbrev Low : Rule → List ℕ → Type 0
Low rule.Blank s = first_is (λ b. ltb b 128) s ≡ true
Low rule.Comment s = first_is (λ b. ltb b 128) s ≡ true
Low (rule.Single k) s = first_is (λ b. ltb b 128) s ≡ true
Low rule.ByteOrderMark s = begins mark s ≡ true
Low rule.Bang s = first_is (λ b. ltb b 128) s ≡ true
Low rule.Plus s = first_is (λ b. ltb b 128) s ≡ true
Low rule.Equals s = first_is (λ b. ltb b 128) s ≡ true
Low rule.Colon s = first_is (λ b. ltb b 128) s ≡ true
Low (rule.Twice c k) s = (first_is (λ b. ltb b 128) s ≡ true) × (ltb c 128 ≡ true)
Low (rule.Closing d k) s = first_is (λ b. ltb b 128) s ≡ true
Low rule.Brace s = first_is (λ b. ltb b 128) s ≡ true
Low rule.LineEnd s = first_is (λ b. ltb b 128) s ≡ true
Low rule.Escape s = first_is (λ b. ltb b 128) s ≡ true
Low (rule.Quote q) s = first_is (λ b. ltb b 128) s ≡ true
Low rule.Name s = first_is (λ b. ltb b 128) s ≡ true
Low rule.Unknown s = Unit {0}

rows_low : (c : ℕ) (s : List ℕ) → ltb c 128 ≡ true → Held (λ r. Low r (c ∷ s)) c table
unfolding Held
rows_low c s a = grind arith

low_picked : (s : List ℕ) → Low (pick (first_of s)) s
low_picked [] = tt
low_picked (c ∷ s) =
    by (λ d. Low (pick d) (c ∷ s)) (ltb c 128)
    (λ a. looked_up (λ r. Low r (c ∷ s)) c table (rows_low c s a) (by (λ r. Low r (c ∷ s)) (letter c) (λ _. a) (λ _. tt)))
    (λ _. by (λ d. Low (pick d) (c ∷ s)) (begins mark (c ∷ s)) (λ e. e) (λ _. tt))

longer_whole : (p s : List ℕ) (k : TokenKind) (f : Found) → IsUtf8 s → all_low p ≡ true → length p ≡ 2 → Whole s f → Whole s (or_longer p k f s)
longer_whole p s k f u a l h =
    by (Whole s) (begins p s) (λ b. subst (IsCharBoundary s) l (begins_edge p s u a (omega arith) b)) (λ _. h)

missing_whole : (s t : List ℕ) → IsCharBoundary s 1 → Whole s (missing t)
missing_whole s [] b = b
missing_whole s (c ∷ t) b = b

twice_low : (c : ℕ) → ltb c 128 ≡ true → all_low (c ∷ c ∷ []) ≡ true
twice_low c h = ap (λ b. b && (b && true)) h

closes_whole : (s : List ℕ) (d : Delimiter) (k : TokenKind) (n : Option Delimiter) → IsUtf8 s → IsCharBoundary s 1 → Whole s (closes d k n)
closes_whole s d k None u b = IsCharBoundary-start s u
closes_whole s d k (Some newest) u b = by (Whole s) (eqb (shape newest) (shape d)) (λ _. b) (λ _. IsCharBoundary-start s u)

folded_whole : (s : List ℕ) (n : ℕ) → IsUtf8 s → IsCharBoundary s n → Whole s (folded n s)
folded_whole s n u b = IsCharBoundary-from_rest s n (prefix_len gap (drop n s)) b.0 (class_edge gap gap_low (drop n s) (prefix_len gap (drop n s)) (IsUtf8-drop s n u b) (omega arith))

stray_whole : (s t : List ℕ) → IsUtf8 s → Whole s (stray t)
stray_whole s [] u = IsCharBoundary-start s u
stray_whole s (c ∷ t) u = IsCharBoundary-start s u

escape_whole : (s : List ℕ) → IsUtf8 s → Whole s (escape s)
escape_whole s u =
    by (Whole s) (begins (92 ∷ 10 ∷ []) s) (λ h. folded_whole s 2 u (begins_edge (92 ∷ 10 ∷ []) s u refl (omega arith) h))
    (λ _. by (Whole s) (begins (92 ∷ 13 ∷ 10 ∷ []) s) (λ h. folded_whole s 3 u (begins_edge (92 ∷ 13 ∷ 10 ∷ []) s u refl (omega arith) h))
    (λ _. by (Whole s) (begins (92 ∷ 13 ∷ []) s) (λ _. IsCharBoundary-start s u) (λ _. stray_whole s (drop 1 s) u)))

continuing_whole : (s : List ℕ) (f : Option StringKind) (n : Option Delimiter) → IsUtf8 s → IsCharBoundary s 1 → IsCharBoundary s 2 → Whole s (continuing f n s)
continuing_whole s None n u b c = closes_whole s delimiter.Brace kind.BraceR n u b
continuing_whole s (Some k) n u b c = resumed_whole k s u c (reach k true (drop 2 s)) (reach_whole k true (drop 2 s) (IsUtf8-drop s 2 u c))

mark_width : suc (pred (shown_length 239)) ≡ 3
unfolding count_leading_zeros
mark_width = refl

mark_edge : (s : List ℕ) → IsUtf8 s → begins mark s ≡ true → IsCharBoundary s 3
mark_edge [] u h = absurd (false≢true h)
mark_edge (c ∷ s) u h =
    let e : c ≡ 239 = eqb-true c 239 (and_parts (eqb c 239) _ h).0 in
    subst (IsCharBoundary (c ∷ s)) (ap (λ x. suc (pred (shown_length x))) e ∙ mark_width) (character_edge c s u)

ruled_whole : (r : Rule) (o : Around) (s : List ℕ) → IsUtf8 s → admits r s ≡ true → Low r s → Whole s (found_by_rule r o s)
ruled_whole rule.Blank o s u h l = class_edge gap gap_low s (prefix_len gap s) u (omega arith)
ruled_whole rule.Comment o s u h l = scan_edge over_comment comment_whole false s u
ruled_whole (rule.Single k) o s u h l = one_edge s u l
ruled_whole rule.ByteOrderMark o s u h l = mark_edge s u l
ruled_whole rule.Bang o s u h l = longer_whole (33 ∷ 61 ∷ []) s kind.BangEquals (or_longer (33 ∷ 126 ∷ []) kind.BangTilde (Lexed kind.Bang 1) s) u refl refl (longer_whole (33 ∷ 126 ∷ []) s kind.BangTilde (Lexed kind.Bang 1) u refl refl (one_edge s u l))
ruled_whole rule.Plus o s u h l = longer_whole (43 ∷ 43 ∷ []) s kind.PlusPlus (Lexed kind.Plus 1) u refl refl (one_edge s u l)
ruled_whole rule.Equals o s u h l = longer_whole (61 ∷ 61 ∷ []) s kind.EqualsEquals (or_longer (61 ∷ 126 ∷ []) kind.EqualsTilde (Lexed kind.Equals 1) s) u refl refl (longer_whole (61 ∷ 126 ∷ []) s kind.EqualsTilde (Lexed kind.Equals 1) u refl refl (one_edge s u l))
ruled_whole rule.Colon o s u h l = longer_whole (58 ∷ 61 ∷ []) s kind.ColonEquals (or_longer (58 ∷ 58 ∷ []) kind.ColonColon (Lexed kind.Colon 1) s) u refl refl (longer_whole (58 ∷ 58 ∷ []) s kind.ColonColon (Lexed kind.Colon 1) u refl refl (one_edge s u l))
ruled_whole (rule.Twice c k) o s u h l = longer_whole (c ∷ c ∷ []) s k (missing (drop 1 s)) u (twice_low c l.1) refl (missing_whole s (drop 1 s) (one_edge s u l.0))
ruled_whole (rule.Closing d k) o s u h l = closes_whole s d k o.newest u (one_edge s u l)
ruled_whole rule.Brace o s u h l =
    by (Whole s) (begins closing s)
    (λ b. continuing_whole s (format_of o.newest) o.newest u (one_edge s u l) (begins_edge closing s u refl (omega arith) b))
    (λ _. closes_whole s delimiter.Brace kind.BraceR o.newest u (one_edge s u l))
ruled_whole rule.LineEnd o s u h l =
    by (Whole s) (begins lf s) (λ b. begins_edge lf s u refl (omega arith) b)
    (λ _. by (Whole s) (begins crlf s) (λ b. begins_edge crlf s u refl (omega arith) b) (λ _. IsCharBoundary-start s u))
ruled_whole rule.Escape o s u h l = escape_whole s u
ruled_whole (rule.Quote q) o s u h l = string_found (kind_of q s) (formatting q && o.formats) s u (kind_begins q s h)
ruled_whole rule.Name o s u h l = class_edge name_byte name_low s (prefix_len name_byte s) u (omega arith)
ruled_whole rule.Unknown o s u h l = IsCharBoundary-start s u

general_whole : (o : Around) (s : List ℕ) → IsUtf8 s → Whole s (general o s)
general_whole o s u = ruled_whole (pick (first_of s)) o s u (picked s) (low_picked s)

-- bodies, ends and starts of lines
module _ (o : Around) (levels : List (List ℕ)) (s : List ℕ) (u : IsUtf8 s) where
  stop_whole : (line_end s || begins opening s) ≡ true → Whole s (stop s)
  stop_whole h =
      by (Whole s) (begins lf s) (λ b. begins_edge lf s u refl (omega arith) b)
      (λ n. by (Whole s) (begins crlf s) (λ b. begins_edge crlf s u refl (omega arith) b)
      (λ m. begins_edge opening s u refl (omega arith) (braces n m)))
    where
      braces : begins lf s ≡ false → begins crlf s ≡ false → begins opening s ≡ true
      braces n m = grind arith

  body_whole : empty s ≡ false → Whole s (body s)
  body_whole e =
      by (Whole s) (eqb (scan over_text 0 false s) 0)
      (λ z. stop_whole (text_none s e (eqb-true (scan over_text 0 false s) 0 z)))
      (λ _. scan_edge over_text text_whole false s u)

  finish_whole : Whole s (finish o levels)
  finish_whole = by (Whole s) o.marked (λ _. tt) (λ _. by (Whole s) (indented levels) (λ _. IsCharBoundary-start s u) (λ _. IsCharBoundary-start s u))

  onward_whole : Whole s (onward o levels s)
  onward_whole =
      by (Whole s) (empty s) (λ _. finish_whole)
      (λ e. by (Whole s) ((o.marked && not (is_some o.newest)) && begins closing s)
      (λ h. begins_edge closing s u refl (omega arith) (and_parts (o.marked && not (is_some o.newest)) (begins closing s) h).1)
      (λ _. by (Whole s) (o.body && not o.marked) (λ _. body_whole e) (λ _. general_whole o s u)))

  abbrev count : ℕ
  count = prefix_len gap s

  abbrev Within : Start → Type 0
  Within (Still n) = n ≤ count
  Within (Aligned n) = n ≤ count
  Within Outward = Unit {0}
  Within (Inward n) = n ≤ count
  Within (Wrong c n) = Unit {0}

  start_within : Within (start o levels s)
  start_within =
      by Within (nested o) (λ _. omega arith)
      (λ _. by Within (is_line_over (drop count s)) (λ _. by Within (indented levels && outdents false s) (λ _. tt) (λ _. omega arith))
      (λ _. by Within (same run (innermost levels)) (λ _. omega arith)
      (λ _. by Within (empty run || among run levels) (λ _. tt)
      (λ _. by Within (o.body && begins l run) (λ h. omega (arith, begins_fits l run (and_parts o.body (begins l run) h).1, length-take-le count s (prefix_len-le-length gap s)))
      (λ _. by Within (o.body && mixed (take (length l) run)) (λ _. tt)
      (λ _. by Within (not o.body && mixed run) (λ _. tt)
      (λ _. by Within (begins l run) (λ _. omega arith) (λ _. tt))))))))
    where
      run : List ℕ
      run = take count s

      l : List ℕ
      l = innermost levels

  told_whole : (v : Start) → Within v → (f : Found) → Whole s f → Whole s (or_else (told v) f)
  told_whole (Still n) w f h = by (λ x. Whole s (or_else x f)) (eqb n 0) (λ _. h) (λ _. class_edge gap gap_low s n u w)
  told_whole (Aligned n) w f h = by (λ x. Whole s (or_else x f)) (eqb n 0) (λ _. h) (λ _. class_edge gap gap_low s n u w)
  told_whole Outward w f h = IsCharBoundary-start s u
  told_whole (Inward n) w f h = class_edge gap gap_low s n u w
  told_whole (Wrong c n) w f h = IsCharBoundary-start s u

  pub rule_whole : (fresh : Bool) → Whole s (rule_of fresh o levels s)
  rule_whole fresh = by (λ x. Whole s (or_else x (onward o levels s))) fresh (λ _. told_whole (start o levels s) start_within (onward o levels s) onward_whole) (λ _. onward_whole)
