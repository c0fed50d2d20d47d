-- What stands where a rule of the table is picked.
use Rattle.std.proofs.Common.{◌≡◌, ℕ, true, cond, eqb, ltb, List, [], ◌∷◌, refl, arith}
use Rattle.scan.specs.Prefix.{begins}
use Rattle.rules.specs.declared.parts.Rule.{Rule}
use Rattle.rules.specs.declared.parts.Rule.TheVariants as rule
use Rattle.rules.specs.Picks.{admits}
use Rattle.rules.specs.Table.{Row, ◌picks◌, first_of, letter, lookup, mark, pick, table}
use Rattle.rules.proofs.Cases.{by}

unfoldable pub Held : (Rule → Type 0) → ℕ → List Row → Type 0
Held P c [] = Prim.Unit
Held P c ((d picks r) ∷ rows) = (eqb c d ≡ true → P r) × Held P c rows

-- a fact of every row that can be picked is a fact of the rule picked
pub looked_up : (P : Rule → Type 0) (c : ℕ) (rows : List Row) → Held P c rows → P (cond (letter c) rule.Name rule.Unknown) → P (lookup rows c)
unfolding Held
looked_up P c [] h other = other
looked_up P c ((d picks r) ∷ rows) h other = by P (eqb c d) h.0 (λ _. looked_up P c rows h.1 other)

rows_admit : (c : ℕ) (s : List ℕ) → ltb c 128 ≡ true → Held (λ r. admits r (c ∷ s) ≡ true) c table
unfolding Held
rows_admit c s ascii = grind arith

pub picked : (s : List ℕ) → admits (pick (first_of s)) s ≡ true
picked [] = refl
picked (c ∷ s) =
    by (λ d. admits (pick d) (c ∷ s) ≡ true) (ltb c 128)
    (λ a. looked_up (λ r. admits r (c ∷ s) ≡ true) c table (rows_admit c s a) (by (λ r. admits r (c ∷ s) ≡ true) (letter c) (λ l. l) (λ _. refl)))
    (λ _. by (λ d. admits (pick d) (c ∷ s) ≡ true) (begins mark (c ∷ s)) (λ e. e) (λ _. refl))
