-- What every rule finds.
use Rattle.std.specs.Prelude.{◌≡◌, ℕ, ◌+◌, ◌<◌, ◌≤◌, Bool, true, false, ◌⊎◌, List, length, take, drop, replicate, is_some, Some, None, Option, ◌==◌}
use Rattle.scan.specs.Classes.{gap}
use Rattle.scan.specs.Prefix.{begins}
use Rattle.token.specs.declared.kinds.Delimiter.{Delimiter}
use Rattle.rules.specs.declared.found.Around.{Around}
use Rattle.rules.specs.Found.{Found, Lexed, Fails, Unclosed}
use Rattle.rules.specs.declared.parts.Change.{Change}
use Rattle.rules.specs.declared.parts.Change.TheVariants as change
use Rattle.rules.specs.declared.parts.Effect.{Effect}
use Rattle.rules.specs.declared.parts.Effect.TheVariants.{Indents, Dedents, Texts, Ends, Other}
use Rattle.rules.specs.Effects.{effect_of}
use Rattle.rules.specs.Lines.{indented, innermost, rule}
use Rattle.rules.specs.Scans.{empty, is_line_over}
use Rattle.rules.specs.Table.{format_of, nested, shape}

-- an Indent is a run of one character, longer than the innermost and beginning with it, before something else than a line end
pub record Deepens (o : Around) (levels : List (List ℕ)) (s : List ℕ) (n : ℕ) : Type 0 where
  pub within : n < length s
  pub longer : length (innermost levels) < n
  pub deeper : begins (innermost levels) (take n s) ≡ true
  pub uniform : (c : ℕ) × (gap c ≡ true) × (take n s ≡ replicate n c)
  pub onward : is_line_over (drop n s) ≡ false
  pub outside : o.body ≡ false
  pub bare : nested o ≡ false

-- the newest opener has the shape of a delimiter
abbrev pub Shaped : Delimiter → Option Delimiter → Type 0
Shaped d None = ⊥
Shaped d (Some newest) = (shape newest == shape d) ≡ true

-- what stands open where a token is found that changes it
abbrev pub Allows : Around → Change → Type 0
Allows o change.Nothing = Unit {0}
Allows o change.Marks = (o.body ≡ true) × (o.marked ≡ false)
Allows o change.Unmarks = (o.marked ≡ true) × (is_some o.newest ≡ false)
Allows o change.SeesColon = Unit {0}
Allows o change.Names = Unit {0}
Allows o (change.Opens d) = Unit {0}
Allows o (change.Closes d) = Shaped d o.newest
Allows o change.BeginsFormat = Unit {0}
Allows o change.EndsFormat = is_some (format_of o.newest) ≡ true

abbrev pub Fits : (fresh : Bool) → Around → (levels : List (List ℕ)) → List ℕ → Effect → ℕ → Type 0
Fits fresh o levels s Indents n = (fresh ≡ true) × Deepens o levels s n
Fits fresh o levels s Dedents n = (n ≡ 0) × (indented levels ≡ true) × ((fresh ≡ true) ⊎ (empty s ≡ true))
Fits fresh o levels s Texts n = (0 < n) × (n ≤ length s) × (o.body ≡ true) × (o.marked ≡ false)
Fits fresh o levels s Ends n = (n ≡ 0) × (empty s ≡ true) × (indented levels ≡ false) × (o.marked ≡ false)
Fits fresh o levels s (Other c) n = (0 < n) × (n ≤ length s) × Allows o c

abbrev pub Sound : (fresh : Bool) → Around → (levels : List (List ℕ)) → List ℕ → Found → Type 0
Sound fresh o levels s (Lexed k n) = Fits fresh o levels s (effect_of k) n
Sound fresh o levels s (Fails cause ahead n) = (ahead ≤ length s) × (n ≤ length s + 8)
Sound fresh o levels s Unclosed = (empty s ≡ true) × (o.marked ≡ true)

-- the law of the rules
abbrev pub RulesSound : Type 0
RulesSound = (fresh : Bool) (o : Around) (levels : List (List ℕ)) (s : List ℕ) → Sound fresh o levels s (rule fresh o levels s)
