-- Laying bytes piece by piece.
use Rattle.std.proofs.Common.{◌≡◌, ℕ, zero, suc, ◌+◌, ◌-◌, ◌^◌, ◌<◌, ◌≤◌, List, [], ◌∷◌, ◌++◌, length, take, drop, set, min, refl, ap, ◌∙◌, arith}
use Rattle.std.proofs.lemmas.List.{length-append}
use Rattle.listing.specs.Laying.{laid}
use Rattle.listing.specs.Writers.{Writes}
use Rattle.listing.specs.declared.writer.Writer.{Writer}

laid_keeps : (out : List ℕ) (at : ℕ) (bs : List ℕ) → length (laid out at bs) ≡ length out
laid_keeps [] at bs = refl
laid_keeps (o ∷ out) (suc at) bs = ap suc (laid_keeps out at bs)
laid_keeps (o ∷ out) zero [] = refl
laid_keeps (o ∷ out) zero (b ∷ bs) = ap suc (laid_keeps out zero bs)

-- places past the end are the same
laid_at : (out : List ℕ) (p q : ℕ) (bs : List ℕ) → min p (length out) ≡ min q (length out) → laid out p bs ≡ laid out q bs
laid_at [] p q bs h = refl
laid_at (o ∷ out) zero zero bs h = refl
laid_at (o ∷ out) zero (suc q) bs h = absurd (omega arith)
laid_at (o ∷ out) (suc p) zero bs h = absurd (omega arith)
laid_at (o ∷ out) (suc p) (suc q) bs h = ap (λ l. o ∷ l) (laid_at out p q bs (omega arith))

-- others laid behind the first
laid_on : (out : List ℕ) (at : ℕ) (xs ys : List ℕ) → laid (laid out at xs) (at + length xs) ys ≡ laid out at (xs ++ ys)
laid_on [] at xs ys = refl
laid_on (o ∷ out) (suc at) xs ys =
    let e : suc at + length xs ≡ suc (at + length xs) = omega arith in
    ap (λ n. laid (o ∷ laid out at xs) n ys) e ∙ ap (λ l. o ∷ l) (laid_on out at xs ys)
laid_on (o ∷ out) zero [] ys = refl
laid_on (o ∷ out) zero (x ∷ xs) ys =
    let e : 0 + suc (length xs) ≡ suc (0 + length xs) = omega arith in
    ap (λ n. laid (x ∷ laid out 0 xs) n ys) e ∙ ap (λ l. x ∷ l) (laid_on out 0 xs ys)

-- where there is room, all are there
pub laid_whole : (bs out : List ℕ) → length bs ≤ length out → laid out 0 bs ≡ bs ++ drop (length bs) out
laid_whole [] [] h = refl
laid_whole [] (o ∷ out) h = refl
laid_whole (b ∷ bs) [] h = absurd (omega arith)
laid_whole (b ∷ bs) (o ∷ out) h = ap (λ l. b ∷ l) (laid_whole bs out (omega arith))

-- one byte
pub laid_one : (out : List ℕ) (at b : ℕ) → at < length out → set out at b ≡ laid out at (b ∷ [])
laid_one [] at b h = absurd (omega arith)
laid_one (o ∷ out) (suc at) b h = ap (λ l. o ∷ l) (laid_one out at b (omega arith))
laid_one (o ∷ []) zero b h = refl
laid_one (o ∷ p ∷ out) zero b h = refl

-- one byte behind another
pub laid_pair : (out : List ℕ) (at a b : ℕ) → at < length out → laid (set out at a) (at + 1) (b ∷ []) ≡ laid out at (a ∷ b ∷ [])
laid_pair out at a b h = ap (λ l. laid l (at + 1) (b ∷ [])) (laid_one out at a h) ∙ laid_on out at (a ∷ []) (b ∷ [])

-- where nothing is left to lay over, all stays
pub laid_past : (out : List ℕ) (at : ℕ) (bs : List ℕ) → length out ≤ at → out ≡ laid out at bs
laid_past [] at bs h = refl
laid_past (o ∷ out) (suc at) bs h = ap (λ l. o ∷ l) (laid_past out at bs (omega arith))
laid_past (o ∷ out) zero bs h = absurd (omega arith)

-- as many as there is room for
pub laid_room : (out : List ℕ) (at n : ℕ) (bs : List ℕ) → at ≤ length out → n ≡ min (length bs) (length out - at) → take at out ++ (take n bs ++ drop n (drop at out)) ≡ laid out at bs
laid_room [] (suc at) n bs h e = absurd (omega arith)
laid_room (o ∷ out) (suc at) n bs h e = ap (λ l. o ∷ l) (laid_room out at n bs (omega arith) (omega arith))
laid_room [] zero (suc n) bs h e = absurd (omega arith)
laid_room [] zero zero bs h e = refl
laid_room (o ∷ out) zero zero [] h e = refl
laid_room (o ∷ out) zero (suc n) [] h e = absurd (omega arith)
laid_room (o ∷ out) zero zero (b ∷ bs) h e = absurd (omega arith)
laid_room (o ∷ out) zero (suc n) (b ∷ bs) h e = ap (λ l. b ∷ l) (laid_room out zero n bs (omega arith) (omega arith))

-- no bytes
pub writes_none : (w : Writer) → w.place < 2 ^ 64 → Writes [] w w
writes_none w h = record { behind = omega arith; lays = by w.out.now w.place; same_reference = refl }
  where
    by : (out : List ℕ) (at : ℕ) → out ≡ laid out at []
    by [] at = refl
    by (o ∷ out) (suc at) = ap (λ l. o ∷ l) (by out at)
    by (o ∷ out) zero = refl

pub writes_then : {xs ys : List ℕ} {a b c : Writer} → Writes xs a b → Writes ys b c → Writes (xs ++ ys) a c
writes_then {xs} {ys} {a} {b} {c} f g = record {
  behind = omega (arith, f.behind, g.behind, length-append xs ys);
  lays =
      g.lays ∙ ap (λ l. laid l b.place ys) f.lays
      ∙ laid_at (laid a.out.now a.place xs) b.place (a.place + length xs) ys (omega (arith, f.behind, laid_keeps a.out.now a.place xs, a.small))
      ∙ laid_on a.out.now a.place xs ys;
  same_reference = g.same_reference ∙ f.same_reference;
}

-- equal bytes
pub writes_as : {xs ys : List ℕ} {a b : Writer} → xs ≡ ys → Writes xs a b → Writes ys a b
writes_as {xs} {ys} {a} {b} e f = record {
  behind = omega (arith, f.behind, ap length e);
  lays = f.lays ∙ ap (laid a.out.now a.place) e;
  same_reference = f.same_reference;
}
