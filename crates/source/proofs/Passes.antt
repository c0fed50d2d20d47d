-- What passing one character does to a place.
use Rattle.std.proofs.Common.{◌≡◌, ℕ, ◌+◌, ◌<◌, ◌≤◌, Bool, true, false, not, ◌&&◌, eqb, List, [], ◌∷◌, ◌++◌, length, Some, slice_get, get_or, drop, IsUtf8, sym, refl, ap, ◌∙◌, subst, arith}
use lib.Utf8.{scalar, scalars, encode, encodes}
use Rattle.std.specs.Char.{len_utf8}
use Rattle.std.specs.Str.{IsCharBoundary}
use Rattle.std.proofs.lemmas.List.{get_or_append_left}
use Rattle.std.proofs.lemmas.Bool.{and_parts, and_left, cond-false, ne_eqb, eqb-true, eqb-false}
use Rattle.std.proofs.lemmas.Str.{length-encode, len_utf8_bounds, IsUtf8-drop, IsCharBoundary-past_char}
use Rattle.token.specs.declared.place.Position.{Position}
use Rattle.source.specs.Places.{behind, none, breaks, past, walk}
use Rattle.utf8.specs.Utf8.{character, bound, well_formed}
use Rattle.utf8.proofs.Bad.{bound_boundary, boundary_bound, well_formed_text}
use Rattle.utf8.proofs.Rows.{Written, in_1, in_2, in_3, in_4, written, character_encode, row_of_1}

-- the place n bytes on in the same line
abbrev along : ℕ → Position → Position
along n p = record { offset = p.offset + n; line = p.line; column = p.column + n }

abbrev Plain : List ℕ → Type 0
Plain [] = Unit {0}
Plain (b ∷ bs) = (b ≡ 10 → ⊥) × Plain bs

-- bytes that hold no line feed lie along the line
walk_plain : (es r : List ℕ) (p : Position) → Plain es → walk (length es) (es ++ r) p ≡ along (length es) p
walk_plain [] r p h = λ i. record { offset = sym_zero p.offset i; line = p.line; column = sym_zero p.column i }
  where
    sym_zero : (n : ℕ) → n ≡ n + 0
    sym_zero n = omega arith
walk_plain (e ∷ es) r p h =
    let q : Position = along 1 p in
    let one : past (eqb e 10 && not (none (es ++ r))) p ≡ q = cond-false (eqb e 10 && not (none (es ++ r))) _ _ (and_left _ _ (ne_eqb e 10 h.0)) in
    ap (walk (length es) (es ++ r)) one ∙ walk_plain es r q h.1 ∙ (λ i. record { offset = more p.offset i; line = p.line; column = more p.column i })
  where
    more : (n : ℕ) → n + 1 + length es ≡ n + length (e ∷ es)
    more n = omega arith

plain_written : (c : ℕ) (bs : List ℕ) → Written c bs → (get_or bs 0 0 ≡ 10 → ⊥) → Plain bs
plain_written c _ (in_1 x h) n = (n, tt)
plain_written c _ (in_2 x y l h f) n = (n, ((λ z. omega arith), tt))
plain_written c _ (in_3 x y z l h f g k s) n = (n, ((λ q. omega arith), ((λ q. omega arith), tt)))
plain_written c _ (in_4 x y z w l h f g k p q) n = (n, ((λ q. omega arith), ((λ q. omega arith), ((λ q. omega arith), tt))))

-- the first character of a text that is not empty
pub record First (bs : List ℕ) : Type 0 where
  pub char : ℕ
  pub rest : List ℕ
  pub is : scalar char ≡ true
  pub split : bs ≡ encode char ++ rest

pub first_of : (x : ℕ) (r : List ℕ) → IsUtf8 (x ∷ r) → First (x ∷ r)
first_of x r u = by u.0 u.1.0 u.1.1
  where
    by : (cs : List ℕ) → scalars cs ≡ true → encodes cs ≡ x ∷ r → First (x ∷ r)
    by [] s e = absurd (omega (arith, ap length e))
    by (c ∷ cs) s e = record { char = c; rest = encodes cs; is = (and_parts (scalar c) (scalars cs) s).0; split = sym e }

pub first_length : (bs : List ℕ) (f : First bs) → character bs ≡ length (encode f.char)
first_length bs f = ap character f.split ∙ character_encode f.char f.rest f.is

pub first_there : (x : ℕ) (r : List ℕ) → IsUtf8 (x ∷ r) → 0 < character (x ∷ r)
first_there x r u = let f = first_of x r u in omega (arith, first_length (x ∷ r) f, length-encode f.char, (len_utf8_bounds f.char).0)

first_walk : (x : ℕ) (r : List ℕ) (p : Position) → IsUtf8 (x ∷ r) → walk (character (x ∷ r)) (x ∷ r) p ≡ behind (character (x ∷ r)) (breaks (x ∷ r)) p
first_walk x r p u = by (eqb x 10) refl
  where
    by : (b : Bool) → eqb x 10 ≡ b → walk (character (x ∷ r)) (x ∷ r) p ≡ behind (character (x ∷ r)) (breaks (x ∷ r)) p
    by true e =
        let one : character (x ∷ r) ≡ 1 = row_of_1 x r (omega (arith, eqb-true x 10 e)) in
        subst (λ n. walk n (x ∷ r) p ≡ behind n (eqb x 10 && not (none r)) p) (sym one) refl
    by false e =
        let f = first_of x r u in
        let es : List ℕ = encode f.char in
        let n : character (x ∷ r) ≡ length es = first_length (x ∷ r) f in
        let long : 0 < length es = omega (arith, length-encode f.char, (len_utf8_bounds f.char).0) in
        let head : x ≡ get_or es 0 0 = ap (λ l. get_or l 0 0) f.split ∙ get_or_append_left es f.rest 0 0 long in
        let plain : Plain es = plain_written f.char es (written f.char f.is) (λ z. eqb-false x 10 e (head ∙ z)) in
        ap (λ l. walk (character (x ∷ r)) l p) f.split
        ∙ ap (λ k. walk k (es ++ f.rest) p) n
        ∙ walk_plain es f.rest p plain
        ∙ ap (λ k. along k p) (sym n)
        ∙ sym (cond-false (eqb x 10 && not (none r)) _ _ (and_left (eqb x 10) _ e))

-- all that a step over the bytes ahead needs and gives
pub record Stepped (text : List ℕ) (p : Position) (bs : List ℕ) : Type 0 where
  pub there : 0 < character bs
  pub room : p.offset + character bs ≤ length text
  pub next : bound text (p.offset + character bs) ≡ true
  pub moved : walk (character bs) bs p ≡ behind (character bs) (breaks bs) p

pub stepped : (text : List ℕ) (p : Position) (bs : List ℕ) → well_formed text ≡ true → bound text p.offset ≡ true → bs ≡ drop p.offset text → 0 < length bs → Stepped text p bs
stepped text p [] w b e h = absurd (omega arith)
stepped text p (x ∷ r) w b e h =
    let u : IsUtf8 text = well_formed_text text w in
    let here : IsCharBoundary text p.offset = bound_boundary text p.offset u b in
    let v : IsUtf8 (drop p.offset text) = IsUtf8-drop text p.offset u here in
    let a : IsUtf8 (x ∷ r) = subst IsUtf8 (sym e) v in
    let f = first_of x r a in
    let n : character (x ∷ r) ≡ len_utf8 f.char = first_length (x ∷ r) f ∙ length-encode f.char in
    let on : IsCharBoundary text (p.offset + len_utf8 f.char) = IsCharBoundary-past_char text f.rest p.offset f.char here.0 v (sym e ∙ f.split) in
    let next : bound text (p.offset + character (x ∷ r)) ≡ true = ap (λ k. bound text (p.offset + k)) n ∙ boundary_bound text _ u on in
    record { there = first_there x r a; room = omega (arith, n, on.0); next = next; moved = first_walk x r p a }

-- bytes that have a first one are not empty
pub one_ahead : (bs : List ℕ) (x : ℕ) → Some x ≡ slice_get bs 0 → 0 < length bs
one_ahead [] x e = absurd cc
one_ahead (y ∷ r) x e = omega arith

-- a length that agrees with the grammar wherever a character begins with the first byte is the first character's
pub agreed : (bs : List ℕ) (x n : ℕ) → Some x ≡ slice_get bs 0 → 0 < character bs → ((r : List ℕ) → 0 < character (x ∷ r) → n ≡ character (x ∷ r)) → n ≡ character bs
agreed [] x n e c k = absurd cc
agreed (y ∷ r) x n e c k =
    let i : x ≡ y = cc in
    k r (subst (λ z. 0 < character (z ∷ r)) (sym i) c) ∙ ap (λ z. character (z ∷ r)) i

pub behind_offset : (n : ℕ) (b : Bool) (p q : Position) → q ≡ behind n b p → q.offset ≡ p.offset + n
behind_offset n true p q e = ap (λ (z : Position). z.offset) e
behind_offset n false p q e = ap (λ (z : Position). z.offset) e

pub behind_near : (n : ℕ) (b : Bool) (p q : Position) → 0 < n → q ≡ behind n b p → p.line + p.column ≤ p.offset → q.line + q.column ≤ q.offset
behind_near n true p q h e l = omega (arith, ap (λ (z : Position). z.offset) e, ap (λ (z : Position). z.line) e, ap (λ (z : Position). z.column) e)
behind_near n false p q h e l = omega (arith, ap (λ (z : Position). z.offset) e, ap (λ (z : Position). z.line) e, ap (λ (z : Position). z.column) e)
