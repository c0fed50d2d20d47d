-- The texts of open Indents.
use Rattle.std.proofs.Common.{◌≡◌, ℕ, ◌||◌, List, [], ◌∷◌, map, refl, ap}
use Rattle.std.specs.List.{list_any}
use Rattle.rules.specs.Lines.{among, same}

pub among_any : {A : Type 0} (w : List ℕ) (f : A → List ℕ) (xs : List A) → among w (map f xs) ≡ list_any (λ x. same w (f x)) xs
among_any w f [] = refl
among_any w f (x ∷ xs) = ap (λ v. same w (f x) || v) (among_any w f xs)
