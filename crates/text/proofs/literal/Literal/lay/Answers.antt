use Rattle.std.proofs.Common.{◌≡◌, ℕ, List, [], ◌∷◌, ◌++◌, length, IsUtf8, IfOk, ◌≤◌, Result, sym, refl, ap, ◌∙◌, subst, arith, rules}
use Rattle.std.specs.Str.{chars}
use Rattle.std.proofs.lemmas.Result.{err_from_is_err_and}
use Rattle.std.proofs.lemmas.Str.{chars-nil}
use Rattle.unescape.specs.Escapes.{Fed, close}
use Rattle.unescape.specs.declared.record.Escape.{Escape}
use Rattle.unescape.specs.declared.record.State.{State}
use Rattle.text.specs.Fedby.{from_ok, onto, sized}
use Rattle.text.proofs.Cooks.{characters, answered, laid, pieces_cooked}
use Rattle.text.proofs.Written.{Sofar, over_start, sofar_start, sofar_on, sofar_stop, sofar_end}
use Rattle.text.proofs.literal.Literal.lay.Goals as goal

module _ {from at : ℕ} {s : State} {out start : List ℕ} {whole : Result Fed Escape} (qs : List (List ℕ)) (so : Sofar from at s (chars (laid qs)) out start whole) where
  -- the next piece and those behind it
  ahead : (p : List ℕ) (ps : List (List ℕ)) → qs ≡ p ∷ ps → IsUtf8 p → Sofar from at s (chars p ++ chars (laid ps)) out start whole
  ahead p ps e u = subst (λ cs. Sofar from at s cs out start whole) (characters p ps qs e u) so

  -- nothing is left
  done : qs ≡ [] → Sofar from at s [] out start whole
  done e = subst (λ cs. Sofar from at s cs out start whole) (ap (λ l. chars (laid l)) e ∙ chars-nil) so

-- what the writer holds at the end is the caller's buffer
handed : (r : Result ℕ Escape) {t u : Result (List ℕ) Escape} {start out last new : List ℕ} → t ≡ u → start ≡ out → last ≡ new → IfOk r (λ n. n ≤ length start → last ≡ onto (from_ok t) start) → IfOk r (λ n. n ≤ length out → new ≡ onto (from_ok u) out)
handed r e s l h = rw (sym e, sym s, sym l) h

pub loop-piece-init : goal.loop-piece-init
loop-piece-init c =
    let n = c.new-writer.ensures.end in
    let e = c.into_iter-piece-iterator.ensures.into_iter_gives in (
      omega (arith, n, ap (λ p. length p.rest.now) e, ap length c.pieces-piece-items.ensures.of, c.args.self.short),
      rw e (pieces_cooked c.args.self.kind c.args.self.inner.now c.pieces-piece-items.result _ _ c.processes_escape_sequences.ensures c.new-writer.ensures.state c.pieces-piece-items.ensures.utf8 c.pieces-piece-items.ensures.gives),
      sofar_start 0 c.new-writer.result.end c.new-writer.result.machine.state _ c.new-writer.result.out.now n,
      refl,
    )

pub returns-in_err-write-clause-gives : goal.returns-in_err-write-clause-gives
returns-in_err-write-clause-gives c =
    let p = err_from_is_err_and c.from_residual.result c.from_residual.ensures.1 in
    let so = ahead _ c.loop-piece.invariant.2 c.in-Some.piece.now _ c.in-Some.ensures.steps.gives c.in-Some.ensures.steps.utf8 in
    rw (p.1, p.2) (ap (λ r. sized (close r)) (sym (sofar_stop (chars c.in-Some.piece.now) _ so _ c.in_err-write.ensures.gives)) ∙ ap sized c.loop-piece.invariant.1)

pub loop-piece-preserved : goal.loop-piece-preserved
loop-piece-preserved c =
    let so = ahead _ c.loop-piece.invariant.2 c.in-Some.piece.now _ c.in-Some.ensures.steps.gives c.in-Some.ensures.steps.utf8 in (
      omega (arith, c.in_ok-write.ensures.near, c.loop-piece.invariant.0, c.in-Some.ensures.steps.near),
      c.loop-piece.invariant.1,
      sofar_on (chars c.in-Some.piece.now) _ so _ _ _ c.in_ok-write.ensures.gives c.in_ok-write.ensures.writes c.in_ok-write.ensures.same_length,
      c.in_ok-write.ensures.same_reference ∙ c.loop-piece.invariant.3,
    )

pub returns-clause-gives : goal.returns-clause-gives
returns-clause-gives c =
    let end = sofar_end (done _ c.loop-piece.invariant.2 c.in-None.ensures.steps.gives.0) in
    let a = answered _ _ _ c.new-writer.result.out.now c.loop-piece.writer.out.now c.end.result end.0 (λ h. end.1 h ∙ over_start _ c.new-writer.result.out.now) c.end.ensures in
    a.0 ∙ ap sized c.loop-piece.invariant.1

pub returns-clause-fills : goal.returns-clause-fills
returns-clause-fills c =
    let end = sofar_end (done _ c.loop-piece.invariant.2 c.in-None.ensures.steps.gives.0) in
    let a = answered _ _ _ c.new-writer.result.out.now c.loop-piece.writer.out.now c.end.result end.0 (λ h. end.1 h ∙ over_start _ c.new-writer.result.out.now) c.end.ensures in
    let same = c.loop-piece.invariant.3 ∙ c.new-writer.ensures.same_reference in
    handed c.end.result c.loop-piece.invariant.1 c.new-writer.ensures.over (search rules) a.1
