use Rattle.std.proofs.Common.{◌≡◌, true, sym, subst}
use Rattle.source.specs.Cursors.{ahead}
use Rattle.lines.specs.Reaches.{settled}
use Rattle.lines.specs.declared.reached.Reach.{Reach}
use Rattle.lines.proofs.Settled.{settled_run}
use Rattle.session.proofs.record.Session.look_ahead.Goals as goal

pub invariant_of-self : goal.invariant_of-self
invariant_of-self c =
    let s = c.args.self.now in
    record {
      shallow = s.shallow;
      settled = subst (λ (r : Reach). settled r.outdents r.length (ahead s.cursor) ≡ true) (sym c.scanned-self.ensures) (settled_run (ahead s.cursor));
    }
