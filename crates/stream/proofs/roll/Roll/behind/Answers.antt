use Rattle.std.proofs.Common.{sym, ◌∙◌}
use Rattle.stack.specs.Held.{held}
use Rattle.stream.proofs.Rolling.{entry_first, none_first}
use Rattle.stream.proofs.roll.Roll.behind.Goals as goal

pub returns-then-self-lt-MAX_TOKENS-clause-is : goal.returns-then-self-lt-MAX_TOKENS-clause-is
returns-then-self-lt-MAX_TOKENS-clause-is c =
    let s = c.args.self.now in
    c.get.ensures ∙ entry_first (held s.tokens) s.cursor 98305 c.if-self-lt-MAX_TOKENS.true

pub returns-else-self-lt-MAX_TOKENS-clause-is : goal.returns-else-self-lt-MAX_TOKENS-clause-is
returns-else-self-lt-MAX_TOKENS-clause-is c =
    let s = c.args.self.now in
    sym (none_first (held s.tokens) s.cursor 98305 c.if-self-lt-MAX_TOKENS.false)
