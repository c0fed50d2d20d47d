-- The tokens behind a roll's cursor.
use Rattle.std.proofs.Common.{◌≡◌, ℕ, zero, suc, ◌+◌, ◌<◌, ◌≤◌, List, [], ◌∷◌, length, take, drop, None, sym, refl, ap, ◌∙◌, arith}
use Rattle.std.proofs.lemmas.List.{drop-drop, drop_all, length-drop, length-take}
use Rattle.token.specs.declared.place.Token.{Token}
use Rattle.stack.specs.Held.{at, first}
use Rattle.lexer.specs.Answers.{behind}
use Rattle.runs.specs.Coming.{rest}
use Rattle.stream.specs.Rolled.{Rolled, coming, forward, means, passed}

-- an entry before the limit is the first behind a cursor
pub entry_first : {A : Type 0} (xs : List A) (i n : ℕ) → i < n → at xs i ≡ first (drop i (take n xs))
entry_first xs i zero l = absurd (omega arith)
entry_first [] zero (suc n) l = refl
entry_first [] (suc i) (suc n) l = refl
entry_first (x ∷ xs) zero (suc n) l = refl
entry_first (x ∷ xs) (suc i) (suc n) l = entry_first xs i n (omega arith)

-- and behind the limit there is none
pub none_first : {A : Type 0} (xs : List A) (i n : ℕ) → n ≤ i → first (drop i (take n xs)) ≡ None
none_first xs i n l = ap first (drop_all i (take n xs) (omega (arith, length-take n xs)))

-- all behind the first is what a step on leaves
behind_drop : {A : Type 0} (xs : List A) (i : ℕ) → behind (drop i xs) ≡ drop (i + 1) xs
behind_drop xs i = go (drop i xs) ∙ drop-drop 1 i xs
  where
    go : {B : Type 0} (ys : List B) → behind ys ≡ drop 1 ys
    go [] = refl
    go (y ∷ ys) = refl

-- a token is passed, if one was left
pub passed_on : (E : List Token) (i : ℕ) (us : List Token) → drop i E ≡ us → drop (passed us i) E ≡ behind (drop i E)
passed_on E i [] e = e ∙ sym (ap behind e)
passed_on E i (u ∷ us) e = sym (behind_drop E i)

pub means_forward : (r : Rolled) → means (forward r) ≡ rest (means r)
means_forward r = λ i. record { tokens = passed_on (take 98305 r.entries) r.cursor (coming r) refl i; ending = r.ending }

-- no more than the limit
pub few : (r : Rolled) → length (coming r) ≤ 98305
few r = omega (arith, length-drop r.cursor (take 98305 r.entries), length-take 98305 r.entries)
