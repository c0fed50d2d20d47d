use Rattle.std.proofs.Common.{◌<◌, ◌≤◌, length, IfSome, sym, subst}
use Rattle.utf8.specs.Utf8.{character}
use Rattle.utf8.proofs.Rows.{character_begun, counted_within}
use Rattle.utf8.proofs.grammar.character.Goals as goal

pub returns : goal.returns
unfolding character
returns c =
    let bs = c.args.bytes.now in
    record {
      is = c.row.ensures;
      within = subst (λ r. IfSome r (λ n. (0 < n) × (n ≤ length bs))) (sym c.row.ensures) (counted_within (character bs) (length bs) (character_begun bs).within);
    }
