-- What a call does to a listing.
use Rattle.std.specs.Prelude.{◌≡◌, ℕ, List, ◌++◌}
use Rattle.lister.specs.declared.growing.Listing.{Listing}

-- so many bytes more are there, and the source is the same
pub record Appends (bytes : List ℕ) (before after : Listing) : Type 0 where
  pub items : after.out.now.items ≡ before.out.now.items ++ bytes
  pub source : after.source ≡ before.source
