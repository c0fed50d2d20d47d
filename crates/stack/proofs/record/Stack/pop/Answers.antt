use Rattle.std.proofs.Common.{refl, arith, rules}
use Rattle.stack.proofs.Entries.{pop_less}
use Rattle.stack.proofs.record.Stack.pop.Goals as goal

pub returns : goal.returns
returns g c = record {
  answer = search rules;
  holds = pop_less c.args.self.now.count c.args.self.now.slots.now c.saturating_sub-self.result (omega arith);
  rooms = refl;
}
