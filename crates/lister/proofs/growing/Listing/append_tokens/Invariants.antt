use Rattle.std.proofs.Common.{◌≡◌, ◌++◌, length}
use Rattle.source.specs.Sources.{text_of}
use Rattle.lexer.specs.Runs.{tokens_of}
use Rattle.session.specs.Sessions.{state_of}
use Rattle.runs.specs.Coming.{meant}
use Rattle.lister.specs.Listings.{listed, tables}
use Rattle.lister.proofs.growing.Listing.append_tokens.Given as goal

-- what is there and what is to come make the whole, and the ending is the same
abbrev pub invariant-loop-token : goal.invariant-loop-token
invariant-loop-token l = record {
  text : (state_of l.session).text ≡ text_of l.initial.self.source;
  ending : (meant (state_of l.session)).ending ≡ (tokens_of (text_of l.initial.self.source) tables).ending;
  whole :
      l.self.out.now.items ++ listed (text_of l.initial.self.source) (meant (state_of l.session))
      ≡ l.initial.self.out.now.items ++ listed (text_of l.initial.self.source) (tokens_of (text_of l.initial.self.source) tables);
  source : l.self.source ≡ l.initial.self.source;
  same_reference : l.self.out.ghost_name ≡ l.initial.self.out.ghost_name;
}

abbrev pub decreases-loop-token : goal.decreases-loop-token
decreases-loop-token l = length (meant (state_of l.session)).tokens
