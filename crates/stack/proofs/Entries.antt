-- What taking the newest entry off does to the entries below the count.
use Rattle.std.proofs.Common.{◌≡◌, ℕ, zero, suc, ◌+◌, ◌-◌, ◌<◌, List, [], ◌∷◌, reverse, length, get_or, take, sym, refl, ap, ◌∙◌, arith}
use Rattle.std.proofs.lemmas.List.{length-take, reverse-append, take_more, nil_from_length}
use Rattle.stack.specs.Held.{behind}

-- one more entry taken in is the newest
pub newest : {T : Type 0} (xs : List T) (n : ℕ) (d : T) → n < length xs → reverse (take (n + 1) xs) ≡ get_or xs n d ∷ reverse (take n xs)
newest xs n d h = ap reverse (take_more xs n d h) ∙ reverse-append (take n xs) (get_or xs n d ∷ [])

-- the entries counted are the entries there are
pub clamped : {T : Type 0} (k : ℕ) (xs : List T) → take (length (take k xs)) xs ≡ take k xs
clamped zero xs = refl
clamped (suc k) [] = refl
clamped (suc k) (x ∷ xs) = ap (λ ys. x ∷ ys) (clamped k xs)

module _ {T : Type 0} (k : ℕ) (xs : List T) where
  abbrev counted : ℕ
  counted = length (take k xs)

  stacked_newest : (m : ℕ) (d : T) → counted ≡ m + 1 → reverse (take k xs) ≡ get_or xs m d ∷ reverse (take m xs)
  stacked_newest m d e =
      let h : m < length xs = omega (arith, length-take k xs) in
      ap reverse (sym (clamped k xs) ∙ ap (λ n. take n xs) e) ∙ newest xs m d h

  none : counted ≡ 0 → reverse (take k xs) ≡ []
  none e = ap reverse (nil_from_length (take k xs) e)

  pub pop_less : (n : ℕ) → n ≡ counted - 1 → reverse (take n xs) ≡ behind (reverse (take k xs))
  pop_less n e = ap (λ m. reverse (take m xs)) e ∙ by (take k xs) refl
    where
      by : (ys : List T) → take k xs ≡ ys → reverse (take (counted - 1) xs) ≡ behind (reverse (take k xs))
      by [] p =
          let z : counted ≡ 0 = ap length p in
          let o : counted - 1 ≡ 0 = omega arith in
          ap (λ m. reverse (take m xs)) o ∙ sym (ap behind (none z))
      by (y ∷ ys) p =
          let z : counted ≡ suc (length ys) = ap length p in
          sym (ap behind (stacked_newest (counted - 1) y (omega arith)))
