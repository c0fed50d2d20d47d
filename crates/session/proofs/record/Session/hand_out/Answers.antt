use Rattle.std.proofs.Common.{None, ◌≡◌, sym, subst}
use Rattle.lexer.specs.Answers.{lacks}
use Rattle.lexer.proofs.Came.{came}
use Rattle.session.specs.Sessions.{state_of}
use Rattle.session.proofs.Handed.{deep_behind, ends_between, settled_behind, shallow_behind}
use Rattle.session.proofs.record.Session.hand_out.Goals as goal

pub pass-requires : goal.pass-requires
pass-requires c = ends_between c.args.self.now c.args.t c.requires

pub invariant_of-self : goal.invariant_of-self
invariant_of-self c =
    let s = c.args.self.now in
    let p = c.pass.new.cursor in
    record {
      shallow = shallow_behind s c.args.t c.requires p c.pass.ensures.of c.pass.ensures.at;
      settled = settled_behind s c.args.t c.requires p c.pass.ensures.of c.pass.ensures.at c.behind-self.result c.behind-self.ensures.length c.behind-self.ensures.outdents;
    }

pub shift-requires : goal.shift-requires
shift-requires c =
    let s = c.args.self.now in
    let p = c.pass.new.cursor in
    record {
      able = subst (λ f. lacks (state_of s) f ≡ None) (sym c.effect.ensures) (came (state_of s) c.args.t c.requires).roomy;
      deep = deep_behind s c.args.t c.requires p c.pass.ensures.of c.pass.ensures.at c.effect.result c.effect.ensures;
    }
