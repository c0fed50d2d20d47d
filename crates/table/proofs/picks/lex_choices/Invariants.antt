use Rattle.std.proofs.Common.{◌≡◌, drop}
use Rattle.table.specs.Finds.{chosen}
use Rattle.table.proofs.picks.lex_choices.Given as goal

-- what is left gives the answer
abbrev pub invariant-loop-second : goal.invariant-loop-second
invariant-loop-second l = chosen l.first (drop l.second-index l.choices) l.otherwise l.ahead ≡ chosen l.first l.choices l.otherwise l.ahead
