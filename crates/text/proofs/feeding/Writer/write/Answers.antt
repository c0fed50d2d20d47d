use Rattle.std.proofs.Common.{ℕ, ◌+◌, ◌≤◌, List, [], ◌∷◌, ◌++◌, length, IsUtf8, Result, ◌≡◌, ap, ◌∙◌, subst, arith}
use lib.Utf8.{encode}
use Rattle.std.specs.Str.{chars}
use Rattle.std.proofs.lemmas.List.{length-append, nil_from_length}
use Rattle.std.proofs.lemmas.Result.{err_from_is_err_and}
use Rattle.std.proofs.lemmas.Str.{chars-nil, chars_past_char, length-encode, len_utf8_bounds, IsUtf8-past_char}
use Rattle.unescape.specs.Escapes.{Fed}
use Rattle.unescape.specs.declared.record.Escape.{Escape}
use Rattle.unescape.specs.declared.record.State.{State}
use Rattle.text.specs.Fedby.{summed}
use Rattle.text.proofs.Written.{Sofar, sofar_on, sofar_stop, sofar_end}
use Rattle.text.proofs.feeding.Writer.write.Goals as goal

module _ {from at : ℕ} {s : State} {out start : List ℕ} {whole : Result Fed Escape} (rest : List ℕ) (so : Sofar from at s (chars rest) out start whole) where
  -- the next character and those behind it
  ahead : (c : ℕ) (after : List ℕ) → IsUtf8 rest → rest ≡ encode c ++ after → Sofar from at s ((c ∷ []) ++ chars after) out start whole
  ahead c after u e = subst (λ cs. Sofar from at s cs out start whole) (chars_past_char rest after c u e) so

  -- nothing is left
  done : length rest ≡ 0 → Sofar from at s [] out start whole
  done h = subst (λ cs. Sofar from at s cs out start whole) (ap chars (nil_from_length rest h) ∙ chars-nil) so

shorter : (c : ℕ) (rest after : List ℕ) → rest ≡ encode c ++ after → length after + 1 ≤ length rest
shorter c rest after e = omega (arith, ap length e, length-append (encode c) after, length-encode c, (len_utf8_bounds c).0)

pub returns-in_err-place-clause-gives : goal.returns-in_err-place-clause-gives
returns-in_err-place-clause-gives c =
    let p = err_from_is_err_and c.from_residual.result c.from_residual.ensures.1 in
    let so = ahead _ c.loop-c.invariant.4 c.in-Some.c _ c.loop-c.invariant.2 c.in-Some.ensures.steps.0 in
    rw (p.1, p.2) (ap (summed c.args.self.now.end) (sofar_stop (c.in-Some.c ∷ []) _ so _ c.in_err-place.ensures.gives))

pub loop-c-preserved : goal.loop-c-preserved
loop-c-preserved c =
    let e = c.in-Some.ensures.steps.0 in
    let so = ahead _ c.loop-c.invariant.4 c.in-Some.c _ c.loop-c.invariant.2 e in
    let n = shorter c.in-Some.c _ _ e in (
      tt,
      tt,
      IsUtf8-past_char _ _ _ c.loop-c.invariant.2 e,
      omega (arith, n, c.in_ok-place.ensures.near, c.loop-c.invariant.3),
      sofar_on (c.in-Some.c ∷ []) _ so _ _ _ c.in_ok-place.ensures.gives c.in_ok-place.ensures.writes c.in_ok-place.ensures.same_length,
      c.in_ok-place.ensures.same_reference ∙ c.loop-c.invariant.5,
    )

pub returns-clause-gives : goal.returns-clause-gives
returns-clause-gives c = (sofar_end (done _ c.loop-c.invariant.4 c.in-None.ensures.steps.0.0)).0

pub returns-clause-writes : goal.returns-clause-writes
returns-clause-writes c = (sofar_end (done _ c.loop-c.invariant.4 c.in-None.ensures.steps.0.0)).1
