use Rattle.std.proofs.Common.{ap, ◌∙◌, arith}
use Rattle.utf8.specs.Utf8.{bound}
use Rattle.source.specs.Sources.{text_of}
use Rattle.source.proofs.Cut.{start_bound}
use Rattle.source.proofs.cursor.Cursor.new.Goals as goal

pub invariant_of-result : goal.invariant_of-result
invariant_of-result c = record {
  within = omega (arith, c.default.ensures);
  between = ap (bound (text_of c.args.source)) c.default.ensures.0 ∙ start_bound _ c.args.source.valid;
  near = omega (arith, c.default.ensures);
}
