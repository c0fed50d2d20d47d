-- A literal is what stands between its delimiters.
use Rattle.std.proofs.Common.{◌≡◌, ℕ, ◌+◌, ◌-◌, ◌*◌, Bool, true, false, cond, eqb, leb, List, [], ◌∷◌, ◌++◌, length, take, drop, Some, None, sym, refl, ap, ◌∙◌, subst, arith}
use Rattle.std.proofs.lemmas.List.{append-nil, length-append, length-drop, nil_from_length, take_at, drop_at, drop-drop, take-append-drop}
use Rattle.std.proofs.lemmas.Bool.{and_parts, and_from, cond-true, cond-false, eq-eqb, eqb-true, false≢true, le-leb, leb-true, false_from_ne_true}
use Rattle.scan.specs.Prefix.{begins}
use Rattle.token.specs.Strings.{delimiter_of}
use Rattle.token.specs.declared.kinds.StringKind.{StringKind}
use Rattle.text.specs.Quotes.{closed, closed_by, first_of, literal, quotes, stripped}

begins_split : (ps bs : List ℕ) → begins ps bs ≡ true → bs ≡ ps ++ drop (length ps) bs
begins_split [] bs h = refl
begins_split (p ∷ ps) [] h = absurd (false≢true h)
begins_split (p ∷ ps) (b ∷ bs) h = let t = and_parts (eqb b p) (begins ps bs) h in λ i. eqb-true b p t.0 i ∷ begins_split ps bs t.1 i

split_begins : (ps rest : List ℕ) → begins ps (ps ++ rest) ≡ true
split_begins [] rest = refl
split_begins (p ∷ ps) rest = and_from (eqb p p) (begins ps (ps ++ rest)) (eq-eqb p p refl) (split_begins ps rest)

found_begins : (k : StringKind) (ks : List StringKind) (bs : List ℕ) → Some k ≡ first_of ks bs → begins (delimiter_of k) bs ≡ true
found_begins k [] bs e = absurd (let z : ◌≡◌ {A = ℕ} 0 1 = cc in omega arith)
found_begins k (j ∷ ks) bs e = by (begins (delimiter_of j) bs) refl e (found_begins k ks bs)
  where
    by : (t : Bool) → begins (delimiter_of j) bs ≡ t → Some k ≡ cond t (Some j) (first_of ks bs) → (Some k ≡ first_of ks bs → begins (delimiter_of k) bs ≡ true) → begins (delimiter_of k) bs ≡ true
    by true h e f = let q : k ≡ j = cc in ap (λ i. begins (delimiter_of i) bs) q ∙ h
    by false h e f = f e

-- between two delimiters
module _ (d bs x : List ℕ) (o : bs ≡ d ++ x) where
  behind : drop (length d) bs ≡ x
  behind = ap (drop (length d)) o ∙ drop_at d x (length d) refl

  closed_between : (front : List ℕ) → x ≡ front ++ d → (closed_by d bs ≡ true) × (stripped (length d) bs ≡ front)
  closed_between front e =
      let n : length bs ≡ length d + (length front + length d) = ap length o ∙ length-append d x ∙ ap (λ k. length d + k) (ap length e ∙ length-append front d) in
      let y : length bs - length d ≡ length d + length front = omega arith in
      let z : length bs - length d - length d ≡ length front = omega arith in
      let last : drop (length bs - length d) bs ≡ d =
      ap (λ k. drop k bs) y ∙ sym (drop-drop (length front) (length d) bs) ∙ ap (drop (length front)) (behind ∙ e) ∙ drop_at front d (length front) refl in (
        and_from (leb (2 * length d) (length bs)) _ (le-leb _ _ (omega arith)) (ap (begins d) (last ∙ sym (append-nil d)) ∙ split_begins d []),
        (λ i. take (z i) (behind i)) ∙ ap (take (length front)) e ∙ take_at front d (length front) refl,
      )

  closed_splits : closed_by d bs ≡ true → x ≡ take (length x - length d) x ++ d
  closed_splits c =
      let p = and_parts (leb (2 * length d) (length bs)) (begins d (drop (length bs - length d) bs)) c in
      let n : length bs ≡ length d + length x = ap length o ∙ length-append d x in
      let tail : List ℕ = drop (length bs - length d) bs in
      let none : drop (length d) tail ≡ [] = nil_from_length _ (omega (arith, length-drop (length d) tail, length-drop (length bs - length d) bs)) in
      let last : tail ≡ d = begins_split d tail p.1 ∙ ap (λ l. d ++ l) none ∙ append-nil d in
      let y : length d + (length x - length d) ≡ length bs - length d = omega (arith, leb-true _ _ p.0) in
      sym (take-append-drop (length x - length d) x)
      ∙ ap (λ l. take (length x - length d) x ++ l) (sym (ap (drop (length x - length d)) behind) ∙ drop-drop (length x - length d) (length d) bs ∙ ap (λ k. drop k bs) y ∙ last)

-- what a literal is
pub no_quote : (bs : List ℕ) → None ≡ first_of quotes bs → literal bs ≡ None
unfolding literal
no_quote bs q = sym (ap (closed bs) q)

module _ (bs d : List ℕ) (k : StringKind) (q : Some k ≡ first_of quotes bs) (e : d ≡ delimiter_of k) where
  pub not_opened : ((rest : List ℕ) → bs ≡ d ++ rest → ⊥) → literal bs ≡ None
  not_opened h = absurd (h _ (begins_split d bs (subst (λ l. begins l bs ≡ true) (sym e) (found_begins k quotes bs q))))

  pub not_closed : (x : List ℕ) → bs ≡ d ++ x → ((front : List ℕ) → x ≡ front ++ d → ⊥) → literal bs ≡ None
  unfolding literal
  not_closed x o h =
      sym (ap (closed bs) q) ∙ cond-false (closed_by (delimiter_of k) bs) _ _ (false_from_ne_true (closed_by (delimiter_of k) bs) (λ c. h _ (closed_splits d bs x o (ap (λ l. closed_by l bs) e ∙ c))))

  pub stands_between : (x front : List ℕ) → bs ≡ d ++ x → x ≡ front ++ d → literal bs ≡ Some (k, front)
  unfolding literal
  stands_between x front o f =
      let c = closed_between d bs x o front f in
      sym (ap (closed bs) q) ∙ cond-true (closed_by (delimiter_of k) bs) _ _ (sym (ap (λ l. closed_by l bs) e) ∙ c.0) ∙ ap (λ l. Some (k, l)) (sym (ap (λ l. stripped (length l) bs) e) ∙ c.1)
