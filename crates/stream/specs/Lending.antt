-- What a lent source stands for.
use Rattle.std.specs.Borrow.{MutBor}
use Rattle.stream.specs.declared.lent.Lent.{Lent}

abbrev pub lent : {A : Type 0} → Lent (MutBor A) → A
lent l = l.source.now
