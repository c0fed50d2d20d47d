-- Where a text may be cut.
use Rattle.std.proofs.Common.{◌≡◌, ℕ, ◌+◌, Bool, true, false, List, [], IsUtf8, refl}
use Rattle.std.specs.Str.{IsCharBoundary}
use Rattle.std.proofs.lemmas.Bool.{and_from, and_left, and_right, cond-true, cond-false}
use Rattle.std.proofs.lemmas.Str.{IsUtf8-nil, IsCharBoundary-start}
use Rattle.token.specs.Told.{Told, gave, refused_over}
use Rattle.token.specs.declared.fault.Layer.TheVariants as layer
use Rattle.token.specs.declared.place.Token.{Token}
use Rattle.source.specs.Sources.{part, cuts, lexeme_in, text_of}
use Rattle.utf8.specs.Utf8.{well_formed, bound}
use Rattle.source.specs.declared.record.Source.{Source}
use Rattle.utf8.proofs.Bad.{text_well_formed, well_formed_text, bound_boundary, boundary_bound}

-- a source's text is text
pub source_text : (s : Source) → IsUtf8 (text_of s)
source_text s = well_formed_text (text_of s) s.valid

pub empty_well_formed : well_formed [] ≡ true
empty_well_formed = text_well_formed [] IsUtf8-nil

pub start_bound : (bs : List ℕ) → well_formed bs ≡ true → bound bs 0 ≡ true
start_bound bs h = let u = well_formed_text bs h in boundary_bound bs 0 u (IsCharBoundary-start bs u)

no_bound : (bs : List ℕ) (i : ℕ) → IsUtf8 bs → (IsCharBoundary bs i → ⊥) → bound bs i ≡ false
no_bound bs i u h = by (bound bs i) refl
  where
    by : (b : Bool) → bound bs i ≡ b → bound bs i ≡ false
    by true e = absurd (h (bound_boundary bs i u e))
    by false e = e

-- a token that is not in the text is refused at the place that it names
abbrev pub missed : Token → Told (List ℕ)
missed t = refused_over 6 layer.Text t

module _ (text : List ℕ) (u : IsUtf8 text) (t : Token) where
  abbrev from : ℕ
  from = t.position.offset

  pub cut_there : IsCharBoundary text from → IsCharBoundary text (from + t.length) → lexeme_in text t ≡ gave (part text from t.length)
  cut_there b e = cond-true (cuts text from t.length) _ _ (and_from _ _ (boundary_bound text from u b) (boundary_bound text (from + t.length) u e))

  pub start_missed : (IsCharBoundary text from → ⊥) → lexeme_in text t ≡ missed t
  start_missed h = cond-false (cuts text from t.length) _ _ (and_left _ _ (no_bound text from u h))

  pub end_missed : (IsCharBoundary text (from + t.length) → ⊥) → lexeme_in text t ≡ missed t
  end_missed h = cond-false (cuts text from t.length) _ _ (and_right (bound text from) _ (no_bound text (from + t.length) u h))
