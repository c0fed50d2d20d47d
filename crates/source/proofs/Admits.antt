-- What the admission takes over.
use Rattle.std.proofs.Common.{◌≡◌, ℕ, true, not, List, is_some, None, Ok, Err, Result, MatchResult, IsErrAnd, ap, subst}
use Rattle.utf8.specs.Utf8.{first_bad_offset, well_formed}

pub none_bad : (bs : List ℕ) → first_bad_offset bs ≡ None → well_formed bs ≡ true
unfolding well_formed
none_bad bs e = ap (λ o. not (is_some o)) e

-- what is known of an answer's value is known of the value that is handed on when only the error is turned into another
pub handed_on : {A E F : Type 0} (r : Result A E) (s : Result A F) (x : A) (P : A → Type 0) (R : E → Type 0) (Q : E → F → Type 0) → MatchResult r (λ a. s ≡ Ok a) (λ e. IsErrAnd s (Q e)) → s ≡ Ok x → MatchResult r P R → P x
handed_on (Ok a) s x P R Q h e m = let i : a ≡ x = cc in subst P i m
handed_on (Err b) s x P R Q h e m = absurd (subst (λ t. IsErrAnd t (Q b)) e h)
