-- The rows of the grammar and the encodings of Unicode scalar values are the same bytes.
use Rattle.std.proofs.Common.{◌≡◌, IfSome, Some, None, zero, suc, ℕ, ◌+◌, ◌-◌, ◌*◌, ◌^◌, ◌<◌, ◌≤◌, true, cond, ◌&&◌, eqb, leb, ◌⊎◌, List, [], ◌∷◌, ◌++◌, length, get_or, take, drop, IsUtf8, sym, refl, ap, ◌∙◌, subst, inl, inr, ⊎_elim, arith}
use lib.Count.{leading_unique}
use lib.Utf8.{scalar, scalars, encode, encodes, scalar_cases}
use Rattle.std.proofs.str.Laws.{Scalar, Shape, of1, of2, of3, of4, shape, Follows, order, one, two, three}
use Rattle.std.proofs.str.Valid.{of_one, of_two, of_three, of_four}
use Rattle.std.proofs.lemmas.List.{append_assoc, get_or_append_left, length-take-le, take-append-drop}
use Rattle.std.proofs.lemmas.Bool.{and_parts, leb-true, false≢true, cond-false, cond_both, ne_eqb}
use Rattle.std.proofs.lemmas.Str.{length-encode, len_utf8_bounds}
use Rattle.std.proofs.lemmas.Bool.Decides.{nat_tests}
use Rattle.utf8.specs.Utf8.{Range, ◌to◌, inside, tail, rows, begins, among, character, counted, leading_ones, shown_length}

-- the bytes are one of each range, in order
abbrev Each : List Range → List ℕ → Type 0
Each [] [] = Unit {0}
Each [] (b ∷ bs) = ⊥
Each (r ∷ rs) [] = ⊥
Each ((low to high) ∷ rs) (b ∷ bs) = (low ≤ b) × (b ≤ high) × Each rs bs

each : (rs : List Range) (bs : List ℕ) → begins rs bs ≡ true → Each rs (take (length rs) bs)
each [] bs h = tt
each (r ∷ rs) [] h = absurd (false≢true h)
each ((low to high) ∷ rs) (b ∷ bs) h =
    let p = and_parts (leb low b && leb b high) (begins rs bs) h in
    let q = and_parts (leb low b) (leb b high) p.0 in
    (leb-true low b q.0, leb-true b high q.1, each rs bs p.1)

long : (rs : List Range) (bs : List ℕ) → begins rs bs ≡ true → length rs ≤ length bs
long [] bs h = omega arith
long (r ∷ rs) [] h = absurd (false≢true h)
long (r ∷ rs) (b ∷ bs) h = let i : length rs ≤ length bs = long rs bs (and_parts (inside r b) (begins rs bs) h).1 in omega arith

-- a row's bytes are a character's encoding
text_1 : (low high : ℕ) → high < 128 → (bs : List ℕ) → Each ((low to high) ∷ []) bs → IsUtf8 bs
text_1 low high h [] e = absurd e
text_1 low high h (x ∷ []) e = of_one (x ∷ []) 0 (omega arith) (omega arith)
text_1 low high h (x ∷ y ∷ bs) e = absurd e.2

text_2 : (bs : List ℕ) → Each ((0xC2 to 0xDF) ∷ tail ∷ []) bs → IsUtf8 bs
text_2 [] e = absurd e
text_2 (x ∷ []) e = absurd e.2
text_2 (x ∷ y ∷ []) e = of_two (x ∷ y ∷ []) 0 (omega arith) (omega arith, omega arith) (omega arith, omega arith)
text_2 (x ∷ y ∷ z ∷ bs) e = absurd e.2.2

-- three bytes in the ranges that leave out what a shorter row writes, and surrogates
text_3 : (x y z : ℕ) → (224 ≤ x) × (x < 240) → Follows y → Follows z → 32 ≤ (x - 224) * 64 + (y - 128) → ((x - 224) * 64 + (y - 128) < 864) ⊎ (896 ≤ (x - 224) * 64 + (y - 128)) → IsUtf8 (x ∷ y ∷ z ∷ [])
text_3 x y z h f g l s =
    of_three (x ∷ y ∷ z ∷ []) 0 (omega arith) h f g (omega arith) (⊎_elim (λ p. inl (omega arith)) (λ p. inr (omega arith)) s)

row_3 : (a b c d : ℕ) → ((x y : ℕ) → (a ≤ x) × (x ≤ b) → (c ≤ y) × (y ≤ d) → (224 ≤ x) × (x < 240) × Follows y × (32 ≤ (x - 224) * 64 + (y - 128)) × (((x - 224) * 64 + (y - 128) < 864) ⊎ (896 ≤ (x - 224) * 64 + (y - 128))))
    → (bs : List ℕ) → Each ((a to b) ∷ (c to d) ∷ tail ∷ []) bs → IsUtf8 bs
row_3 a b c d k [] e = absurd e
row_3 a b c d k (x ∷ []) e = absurd e.2
row_3 a b c d k (x ∷ y ∷ []) e = absurd e.2.2
row_3 a b c d k (x ∷ y ∷ z ∷ []) e =
    let p = k x y (e.0, e.1) (e.2.0, e.2.1) in
    text_3 x y z (p.0, p.1) p.2 (omega arith, omega arith) p.3 p.4
row_3 a b c d k (x ∷ y ∷ z ∷ w ∷ bs) e = absurd e.2.2.2

row_4 : (a b c d : ℕ) → ((x y : ℕ) → (a ≤ x) × (x ≤ b) → (c ≤ y) × (y ≤ d) → (240 ≤ x) × Follows y × (16 ≤ (x - 240) * 64 + (y - 128)) × ((x - 240) * 64 + (y - 128) < 272))
    → (bs : List ℕ) → Each ((a to b) ∷ (c to d) ∷ tail ∷ tail ∷ []) bs → IsUtf8 bs
row_4 a b c d k [] e = absurd e
row_4 a b c d k (x ∷ []) e = absurd e.2
row_4 a b c d k (x ∷ y ∷ []) e = absurd e.2.2
row_4 a b c d k (x ∷ y ∷ z ∷ []) e = absurd e.2.2.2
row_4 a b c d k (x ∷ y ∷ z ∷ w ∷ []) e =
    let p = k x y (e.0, e.1) (e.2.0, e.2.1) in
    of_four (x ∷ y ∷ z ∷ w ∷ []) 0 (omega arith) p.0 p.1 (omega arith, omega arith) (omega arith, omega arith) (p.2, p.3)
row_4 a b c d k (x ∷ y ∷ z ∷ w ∷ v ∷ bs) e = absurd e.2.2.2.2

-- of rows that each write a text, so does the one that is found
abbrev Write : List (List Range) → Type 0
Write [] = Unit {0}
Write (r ∷ rs) = ((bs : List ℕ) → Each r bs → IsUtf8 bs) × Write rs

pub record Begun (bs : List ℕ) (n : ℕ) : Type 0 where
  pub within : n ≤ length bs
  pub text : 0 < n → IsUtf8 (take n bs)

found : (rs : List (List Range)) → Write rs → (bs : List ℕ) → Begun bs (among rs bs)
found [] w bs = record { within = omega arith; text = λ h. absurd (omega arith) }
found (r ∷ rs) w bs =
    cond_both (begins r bs) (length r) (among rs bs) (Begun bs)
    (λ h. record { within = long r bs h; text = λ _. w.0 (take (length r) bs) (each r bs h) })
    (λ h. found rs w.1 bs)

-- a character that begins bytes is there whole, and is text
pub character_begun : (bs : List ℕ) → Begun bs (character bs)
unfolding character
character_begun bs = found rows (
  text_1 0 127 (omega arith),
  (
    text_2,
    (
      row_3 0xE0 0xE0 0xA0 0xBF (λ x y p q. (omega arith, omega arith, (omega arith, omega arith), omega arith, inl (omega arith))),
      (
        row_3 0xE1 0xEC 0x80 0xBF (λ x y p q. (omega arith, omega arith, (omega arith, omega arith), omega arith, inl (omega arith))),
        (
          row_3 0xED 0xED 0x80 0x9F (λ x y p q. (omega arith, omega arith, (omega arith, omega arith), omega arith, inl (omega arith))),
          (
            row_3 0xEE 0xEF 0x80 0xBF (λ x y p q. (omega arith, omega arith, (omega arith, omega arith), omega arith, inr (omega arith))),
            (
              row_4 0xF0 0xF0 0x90 0xBF (λ x y p q. (omega arith, (omega arith, omega arith), omega arith, omega arith)),
              (
                row_4 0xF1 0xF3 0x80 0xBF (λ x y p q. (omega arith, (omega arith, omega arith), omega arith, omega arith)),
                (
                  row_4 0xF4 0xF4 0x80 0x8F (λ x y p q. (omega arith, (omega arith, omega arith), omega arith, omega arith)),
                  tt,
                ),
              ),
            ),
          ),
        ),
      ),
    ),
  ),
) bs

-- and the encoding of a scalar value is a row's
pub row_of_1 : (x : ℕ) (r : List ℕ) → x < 128 → character (x ∷ r) ≡ 1
unfolding character
row_of_1 x r h = grind (arith, nat_tests)

row_of_2 : (x y : ℕ) (r : List ℕ) → 194 ≤ x → x < 224 → Follows y → character (x ∷ y ∷ r) ≡ 2
unfolding character
row_of_2 x y r l h f = grind (arith, nat_tests)

row_of_3 : (x y z : ℕ) (r : List ℕ) → 224 ≤ x → x < 240 → Follows y → Follows z → 32 ≤ (x - 224) * 64 + (y - 128) → ((x - 224) * 64 + (y - 128) < 864) ⊎ (896 ≤ (x - 224) * 64 + (y - 128)) → character (x ∷ y ∷ z ∷ r) ≡ 3
unfolding character
row_of_3 x y z r l h f g k s = grind (arith, nat_tests)

row_of_4 : (x y z w : ℕ) (r : List ℕ) → 240 ≤ x → Follows y → Follows z → Follows w → 16 ≤ (x - 240) * 64 + (y - 128) → (x - 240) * 64 + (y - 128) < 272 → character (x ∷ y ∷ z ∷ w ∷ r) ≡ 4
unfolding character
row_of_4 x y z w r l f g k p q = grind (arith, nat_tests)

-- the bytes of a scalar value, by the row that writes them
pub data Written (c : ℕ) : List ℕ → Type 0 where
  in_1 : (x : ℕ) → x < 128 → Written c (x ∷ [])
  in_2 : (x y : ℕ) → 194 ≤ x → x < 224 → Follows y → Written c (x ∷ y ∷ [])
  in_3 : (x y z : ℕ) → 224 ≤ x → x < 240 → Follows y → Follows z → 32 ≤ (x - 224) * 64 + (y - 128) → ((x - 224) * 64 + (y - 128) < 864) ⊎ (896 ≤ (x - 224) * 64 + (y - 128)) → Written c (x ∷ y ∷ z ∷ [])
  in_4 : (x y z w : ℕ) → 240 ≤ x → x < 245 → Follows y → Follows z → Follows w → 16 ≤ (x - 240) * 64 + (y - 128) → (x - 240) * 64 + (y - 128) < 272 → Written c (x ∷ y ∷ z ∷ w ∷ [])

-- no shorter encoding would do
least : (c : ℕ) (k n : ℕ) → (c < k → length (encode c) ≤ n) → n < length (encode c) → k ≤ c
least c k n h l = ⊎_elim (λ p. absurd (omega (arith, h p))) (λ p. p) (order c k)

least_2 : (c a b : ℕ) → encode c ≡ a ∷ b ∷ [] → 128 ≤ c
least_2 c a b e = least c 128 1 (λ p. omega (arith, ap length (one c p))) (omega (arith, ap length e))

least_3 : (c a b d : ℕ) → encode c ≡ a ∷ b ∷ d ∷ [] → 2048 ≤ c
least_3 c a b d e =
    let o : 128 ≤ c = least c 128 1 (λ p. omega (arith, ap length (one c p))) (omega (arith, ap length e)) in
    least c 2048 2 (λ p. omega (arith, ap length (two c o p))) (omega (arith, ap length e))

least_4 : (c a b d x : ℕ) → encode c ≡ a ∷ b ∷ d ∷ x ∷ [] → 65536 ≤ c
least_4 c a b d x e =
    let o : 128 ≤ c = least c 128 1 (λ p. omega (arith, ap length (one c p))) (omega (arith, ap length e)) in
    let t : 2048 ≤ c = least c 2048 2 (λ p. omega (arith, ap length (two c o p))) (omega (arith, ap length e)) in
    least c 65536 3 (λ p. omega (arith, ap length (three c t p))) (omega (arith, ap length e))

written_as : (c : ℕ) → Scalar c → Shape c → Written c (encode c)
written_as c s (of1 h e) = subst (Written c) (sym e) (in_1 c h)
written_as c s (of2 a b l h f k e) =
    let m : 128 ≤ c = least_2 c a b e in
    subst (Written c) (sym e) (in_2 a b (omega arith) h f)
written_as c s (of3 a b d l h f g k e) =
    let m : 2048 ≤ c = least_3 c a b d e in
    subst (Written c) (sym e)
    (in_3 a b d l h f g (omega arith) (⊎_elim (λ p. inl (omega arith)) (λ p. inr (omega arith)) s))
written_as c s (of4 a b d x l h f g i k e) =
    let m : 65536 ≤ c = least_4 c a b d x e in
    let t : c < 1114112 = ⊎_elim (λ p. omega arith) (λ p. p.1) s in
    subst (Written c) (sym e) (in_4 a b d x l (omega arith) f g i (omega arith) (omega arith))

pub written : (c : ℕ) → scalar c ≡ true → Written c (encode c)
written c h = written_as c (scalar_cases c h) (shape c (scalar_cases c h))

row_of : (c : ℕ) (bs r : List ℕ) → Written c bs → character (bs ++ r) ≡ length bs
row_of c _ r (in_1 x h) = row_of_1 x r h
row_of c _ r (in_2 x y l h f) = row_of_2 x y r l h f
row_of c _ r (in_3 x y z l h f g k s) = row_of_3 x y z r l h f g k s
row_of c _ r (in_4 x y z w l h f g k p q) = row_of_4 x y z w r l f g k p q

-- the grammar finds a scalar value's encoding
pub character_encode : (c : ℕ) (r : List ℕ) → scalar c ≡ true → character (encode c ++ r) ≡ length (encode c)
character_encode c r h = row_of c (encode c) r (written c h)

-- and its first byte shows its length
ones : (x m r : ℕ) → r + m ≡ 8 → 255 - x < 2 ^ m → 2 ^ m ≤ 2 * (255 - x) + 1 → leading_ones x ≡ r
ones x m r e l h = sym (leading_unique 8 (255 - x) r m e l h)

shown_as : (x n : ℕ) → leading_ones x ≡ n → 0 < n → shown_length x ≡ n
shown_as x n e h = ap (λ k. cond (eqb k 0) 1 k) e ∙ cond-false (eqb n 0) 1 n (ne_eqb n 0 (λ z. omega arith))

shown : (c : ℕ) (bs : List ℕ) → Written c bs → shown_length (get_or bs 0 0) ≡ length bs
shown c _ (in_1 x h) = ap (λ k. cond (eqb k 0) 1 k) (ones x 8 0 refl (omega arith) (omega arith))
shown c _ (in_2 x y l h f) = shown_as x 2 (ones x 6 2 refl (omega arith) (omega arith)) (omega arith)
shown c _ (in_3 x y z l h f g k s) = shown_as x 3 (ones x 5 3 refl (omega arith) (omega arith)) (omega arith)
shown c _ (in_4 x y z w l h f g k p q) = shown_as x 4 (ones x 4 4 refl (omega arith) (omega arith)) (omega arith)

pub shown_encode : (c : ℕ) → scalar c ≡ true → shown_length (get_or (encode c) 0 0) ≡ length (encode c)
shown_encode c h = shown c (encode c) (written c h)

-- so wherever a character begins, its first byte shows its length
pub shown_character : (x : ℕ) (r : List ℕ) → 0 < character (x ∷ r) → shown_length x ≡ character (x ∷ r)
shown_character x r h =
    let n : ℕ = character (x ∷ r) in
    let b = character_begun (x ∷ r) in
    let u : IsUtf8 (take n (x ∷ r)) = b.text h in
    by u.0 u.1.0 u.1.1
  where
    by : (cs : List ℕ) → scalars cs ≡ true → encodes cs ≡ take (character (x ∷ r)) (x ∷ r) → shown_length x ≡ character (x ∷ r)
    by [] s e = absurd (omega (arith, ap length e, length-take-le (character (x ∷ r)) (x ∷ r) (character_begun (x ∷ r)).within))
    by (c ∷ cs) s e =
        let n : ℕ = character (x ∷ r) in
        let p = and_parts (scalar c) (scalars cs) s in
        let whole : x ∷ r ≡ encode c ++ (encodes cs ++ drop n (x ∷ r)) =
        sym (take-append-drop n (x ∷ r)) ∙ ap (λ l. l ++ drop n (x ∷ r)) (sym e) ∙ append_assoc (encode c) (encodes cs) (drop n (x ∷ r)) in
        let long : 0 < length (encode c) = omega (arith, length-encode c, (len_utf8_bounds c).0) in
        let first : x ≡ get_or (encode c) 0 0 = ap (λ l. get_or l 0 0) whole ∙ get_or_append_left (encode c) (encodes cs ++ drop n (x ∷ r)) 0 0 long in
        ap shown_length first ∙ shown_encode c p.0 ∙ sym (ap character whole ∙ character_encode c (encodes cs ++ drop n (x ∷ r)) p.0)

-- a length that there is is not 0
pub counted_within : (n m : ℕ) → n ≤ m → IfSome (counted n) (λ k. (0 < k) × (k ≤ m))
counted_within zero m h = tt
counted_within (suc n) m h = (omega arith, h)

pub counted_some : (n m : ℕ) → Some n ≡ counted m → n ≡ m
counted_some n zero e = cc
counted_some n (suc m) e = cc

pub counted_none : (m : ℕ) → None ≡ counted m → m ≡ 0
counted_none zero e = refl
counted_none (suc m) e = cc
