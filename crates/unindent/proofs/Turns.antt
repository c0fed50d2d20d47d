-- One line after the other.
use Rattle.std.proofs.Common.{◌≡◌, ℕ, zero, suc, ◌<◌, ◌≤◌, Bool, true, false, cond, ◌||◌, eqb, List, [], ◌∷◌, ◌++◌, length, take, drop, Some, None, IsUtf8, Option, sym, refl, ap, ◌∙◌, subst, arith}
use lib.Utf8.{encodes}
use Rattle.std.specs.List.{flat_map, prefix_len}
use Rattle.std.proofs.lemmas.List.{append-nil, length-drop}
use Rattle.std.proofs.lemmas.Bool.{and_parts, ne_eqb}
use Rattle.std.proofs.lemmas.Bool.Decides.{nat_tests}
use Rattle.std.proofs.lemmas.Str.{encode_ascii, IsUtf8-append, IsUtf8-drop, IsUtf8-nil, IsUtf8-take}
use Rattle.scan.specs.Classes.{gap}
use Rattle.unindent.specs.Cuts.{first_line_length}
use Rattle.unindent.specs.Lines.{blank, ends_with_crlf, grows, indentation, lines, none, piece, pieces, roomy, all_roomy, all_roomy_for, unindented}
use Rattle.unindent.specs.Left.{left, left_of, whole}
use Rattle.unindent.specs.declared.record.Pieces.{Pieces}
use Rattle.unindent.proofs.Shared.{all_room}
use Rattle.unindent.proofs.Split.{first_line, cut_bound, gap_bound, length_some}

pub not_empty : (n : ℕ) → false ≡ eqb n 0 → 0 < n
not_empty n e = grind (arith, nat_tests)

-- a line that is not blank has the room
pub room_there : (n : ℕ) (l : List ℕ) → roomy n l ≡ true → false ≡ blank l → n ≤ prefix_len gap l
room_there n l h b = grind (arith, nat_tests)

no_lines : (bs : List ℕ) → none (lines bs) ≡ eqb (length bs) 0
no_lines [] = refl
no_lines (b ∷ bs) = by (eqb b 10) (lines bs) ∙ sym (ne_eqb (suc (length bs)) 0 (λ e. omega arith))
  where
    by : (t : Bool) (ls : List (List ℕ)) → none (cond t ((b ∷ []) ∷ ls) (grows b ls)) ≡ false
    by true ls = refl
    by false [] = refl
    by false (l ∷ ls) = refl

module _ (n : ℕ) (rest line after : List ℕ) (h : 0 < length rest) (l : line ≡ take (first_line_length rest) rest) (a : after ≡ drop (first_line_length rest) rest) where
  split : lines rest ≡ line ∷ lines after
  split = first_line rest h ∙ (λ i. sym l i ∷ lines (sym a i))

  parts : all_roomy n (lines rest) ≡ true → (roomy n line ≡ true) × (all_roomy n (lines after) ≡ true)
  parts e = and_parts (roomy n line) (all_roomy n (lines after)) (sym (ap (all_roomy n) split) ∙ e)

  pub line_room : all_roomy n (lines rest) ≡ true → roomy n line ≡ true
  line_room e = (parts e).0

  pub after_room : all_roomy n (lines rest) ≡ true → all_roomy n (lines after) ≡ true
  after_room e = (parts e).1

  pub next_piece : (first last : Bool) (p : List ℕ) → last ≡ eqb (length after) 0 → p ≡ piece first last n line → pieces first n (lines rest) ≡ p ∷ pieces false n (lines after)
  next_piece first last p t e =
      ap (pieces first n) split ∙ ap (λ q. q ∷ pieces false n (lines after)) (ap (λ b. piece first b n line) (no_lines after ∙ sym t) ∙ sym e)

  -- and so where it is told that n bytes are to be removed
  module _ (o : Option ℕ) (s : o ≡ Some n) where
    pub line_room_of : all_roomy_for o (lines rest) ≡ true → roomy n line ≡ true
    line_room_of r = line_room (sym (ap (λ i. all_roomy_for i (lines rest)) s) ∙ r)

    pub after_room_of : all_roomy_for o (lines rest) ≡ true → all_roomy_for o (lines after) ≡ true
    after_room_of r = ap (λ i. all_roomy_for i (lines after)) s ∙ after_room (sym (ap (λ i. all_roomy_for i (lines rest)) s) ∙ r)

    pub next_left : (first last : Bool) (p : List ℕ) → last ≡ eqb (length after) 0 → p ≡ piece first last n line → left_of o first rest ≡ p ∷ left_of o false after
    next_left first last p t e = ap (λ i. left_of i first rest) s ∙ next_piece first last p t e ∙ ap (λ i. p ∷ left_of i false after) (sym s)

encodes_low : (c : ℕ) (cs : List ℕ) → c < 128 → encodes cs ≡ cs → encodes (c ∷ cs) ≡ c ∷ cs
encodes_low c cs h e = (λ i. encode_ascii c h i ++ e i)

-- what becomes of text is text
line_text : (first last : Bool) (n : ℕ) (l : List ℕ) → IsUtf8 l → roomy n l ≡ true → IsUtf8 (piece first last n l)
line_text first last n l u r = by (blank l) refl
  where
    feed_ascii : (b : Bool) → IsUtf8 (cond b (13 ∷ 10 ∷ []) (10 ∷ []))
    feed_ascii true = (13 ∷ 10 ∷ [], (refl, encodes_low 13 (10 ∷ []) (omega arith) (encodes_low 10 [] (omega arith) refl)))
    feed_ascii false = (10 ∷ [], (refl, encodes_low 10 [] (omega arith) refl))

    ended : (e : Bool) → IsUtf8 (cond e [] (cond (ends_with_crlf l) (13 ∷ 10 ∷ []) (10 ∷ [])))
    ended true = IsUtf8-nil
    ended false = feed_ascii (ends_with_crlf l)

    by : (t : Bool) → blank l ≡ t → IsUtf8 (cond t (cond (first || last) [] (cond (ends_with_crlf l) (13 ∷ 10 ∷ []) (10 ∷ []))) (drop n l))
    by true e = ended (first || last)
    by false e = IsUtf8-drop l n u (gap_bound l n u (room_there n l r (sym e)))

texts : (k : ℕ) (first : Bool) (n : ℕ) (bs : List ℕ) → length bs ≤ k → IsUtf8 bs → all_roomy n (lines bs) ≡ true → IsUtf8 (flat_map (λ p. p) (pieces first n (lines bs)))
texts k first n [] l u r = IsUtf8-nil
texts zero first n (b ∷ bs) l u r = absurd (omega arith)
texts (suc k) first n (b ∷ bs) l u r =
    let all : List ℕ = b ∷ bs in
    let m : ℕ = first_line_length all in
    let line : List ℕ = take m all in
    let after : List ℕ = drop m all in
    let h : 0 < length all = omega arith in
    let c = cut_bound all u in
    let next = next_piece n all line after h refl refl first (eqb (length after) 0) (piece first (eqb (length after) 0) n line) refl refl in
    let shorter : length after ≤ k = omega (arith, length-drop m all, length_some all h) in
    subst (λ ps. IsUtf8 (flat_map (λ p. p) ps)) (sym next)
    (IsUtf8-append _ _
    (line_text first (eqb (length after) 0) n line (IsUtf8-take all m u c) (line_room n all line after h refl refl r))
    (texts k false n after shorter (IsUtf8-drop all m u c) (after_room n all line after h refl refl r)))

pub unindented_text : (bs : List ℕ) → IsUtf8 bs → IsUtf8 (unindented bs)
unindented_text bs u = texts (length bs) true (length (indentation (lines bs))) bs (omega arith) u (all_room (lines bs))

pub pieces_text : (p : Pieces) → IsUtf8 p.rest.now → IsUtf8 (flat_map (λ q. q) (left p))
pieces_text p u = by p.indent p.room
  where
    whole_text : (bs : List ℕ) → IsUtf8 bs → IsUtf8 (flat_map (λ q. q) (whole bs))
    whole_text [] u = u
    whole_text (b ∷ bs) u = subst IsUtf8 (sym (append-nil (b ∷ bs))) u

    by : (o : Option ℕ) → all_roomy_for o (lines p.rest.now) ≡ true → IsUtf8 (flat_map (λ q. q) (left_of o p.first p.rest.now))
    by None r = whole_text p.rest.now u
    by (Some n) r = texts (length p.rest.now) p.first n p.rest.now (omega arith) u r
