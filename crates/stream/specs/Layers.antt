-- The layer without Whitespace, over any source of tokens: what it means, and what a glance and a next leave of it.
use Rattle.lexer.specs.Runs.{Meaning}
use Rattle.stream.specs.Sifted.{Past, Shown, sifted}
use Rattle.stream.specs.declared.layer.Significant.{Significant}

abbrev pub layered : {A : Type 0} → (A → Meaning) → Significant A → Meaning
layered meaning l = sifted meaning l.below

-- its glance may take Whitespace from below: how much is open
abbrev pub LayerStays : {A : Type 0} → (A → Meaning) → (stays moves : A → A → Type 0) → Significant A → Significant A → Type 0
LayerStays meaning stays moves a b = Shown meaning stays moves a.below b.below

abbrev pub LayerMoves : {A : Type 0} → (A → Meaning) → (stays moves : A → A → Type 0) → Significant A → Significant A → Type 0
LayerMoves meaning stays moves a b = Past meaning stays moves a.below b.below
