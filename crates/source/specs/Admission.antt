-- Which texts are admitted.
use Rattle.std.specs.Prelude.{ℕ, cond, List, length, Some, None, Option, nat_lt}
use Rattle.token.specs.Told.{Told, gave, refused}
use Rattle.token.specs.declared.fault.Layer.TheVariants as layer
use Rattle.utf8.specs.Utf8.{first_bad_offset}

-- refused under a number by the admission: line, column and length are 0
abbrev pub turned_away : ℕ → ℕ → Told (Unit {0})
turned_away number offset = refused record {
  number = number;
  layer = layer.Admission;
  offset = offset;
  length = 0;
  line = 0;
  column = 0;
  needed = 0;
}

-- the encoding is looked at where the length will do
abbrev pub encoded : Option ℕ → Told (Unit {0})
encoded None = gave tt
encoded (Some i) = turned_away 2 i

abbrev pub admission : List ℕ → Told (Unit {0})
admission bs = cond (nat_lt 65536 (length bs)) (turned_away 1 0) (encoded (first_bad_offset bs))

-- the text that is held afterwards: the new one, or the old one where the new one is refused
abbrev pub held_after : Told (Unit {0}) → (new old : List ℕ) → List ℕ
held_after (gave _) new old = new
held_after (refused _) new old = old
