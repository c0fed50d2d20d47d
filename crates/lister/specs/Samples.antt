-- A listing, read off the format by hand.
use Rattle.std.specs.Prelude.{◌≡◌, codes}
use Rattle.lister.specs.Listings.{listing}

abbrev pub Sample : Type 0
Sample = listing (codes "a\n") ≡ codes "0:0 0 1 Identifier |a|\n0:1 1 1 Eol |\\n|\n0:2 2 0 Eof ||\n"
