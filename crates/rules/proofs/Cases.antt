-- A fact of a choice, from facts of what is chosen.
use Rattle.std.proofs.Common.{◌≡◌, Bool, true, false, cond, refl}

pub by : {A : Type 0} (P : A → Type 0) (b : Bool) {x y : A} → (b ≡ true → P x) → (b ≡ false → P y) → P (cond b x y)
by P true f g = f refl
by P false f g = g refl

pub either : {A : Type 0} (P : A → Type 0) (b : Bool) {x y : A} → P x → P y → P (cond b x y)
either P true f g = f
either P false f g = g
