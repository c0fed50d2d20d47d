-- What a writer does.
use Rattle.std.specs.Prelude.{◌≡◌, ℕ, ◌+◌, ◌-◌, ◌^◌, List, length, min}
use Rattle.listing.specs.Laying.{laid}
use Rattle.listing.specs.declared.writer.Writer.{Writer}

-- the bytes lie over the buffer from the writer's place on, and the place is behind them, or at the greatest number where that is past it
pub record Writes (bytes : List ℕ) (before after : Writer) : Type 0 where
  pub behind : after.place ≡ min (before.place + length bytes) (2 ^ 64 - 1)
  pub lays : after.out.now ≡ laid before.out.now before.place bytes
  pub same_reference : after.out.ghost_name ≡ before.out.ghost_name
