-- What is as the rules say keeps their law.
use Rattle.std.proofs.Common.{◌≡◌, ℕ, Bool, List, sym, subst}
use Rattle.rules.specs.Found.{Found}
use Rattle.rules.specs.Laws.{Sound}
use Rattle.rules.specs.Lines.{rule}
use Rattle.rules.specs.declared.found.Around.{Around}
use Rattle.rules.proofs.Ruled.{rules_sound}

pub sound_from : (fresh : Bool) (o : Around) (levels : List (List ℕ)) (s : List ℕ) (f : Found) → f ≡ rule fresh o levels s → Sound fresh o levels s f
sound_from fresh o levels s f e = subst (λ (g : Found). Sound fresh o levels s g) (sym e) (rules_sound fresh o levels s)
