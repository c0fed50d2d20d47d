use Rattle.std.proofs.Common.{◌≡◌, length}
use Rattle.source.specs.Cursors.{ahead}
use Rattle.source.specs.Places.{walk}
use Rattle.source.specs.Sources.{text_of}
use Rattle.survey.specs.Summaries.{end_of}
use Rattle.survey.proofs.walk.end.Given as goal

-- what is left of the walk ends where the whole does
abbrev pub invariant-loop : goal.invariant-loop
invariant-loop l = walk (length (ahead l.cursor)) (ahead l.cursor) l.cursor.position ≡ end_of (text_of l.source)

abbrev pub decreases-loop : goal.decreases-loop
decreases-loop l = length (ahead l.cursor)
