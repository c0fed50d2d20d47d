use Rattle.std.proofs.Common.{sym, ◌∙◌}
use Rattle.std.proofs.lemmas.Result.{IfOk-weaker}
use Rattle.lister.proofs.Steps.{grown, listing_admitted, listing_refused, sound_admitted, sound_refused}
use Rattle.lister.proofs.list.Goals as goal

pub returns-in-Ok-clause-tells : goal.returns-in-Ok-clause-tells
returns-in-Ok-clause-tells c =
    let h = c.in-Ok.ensures in
    IfOk-weaker c.append_tokens.result _ _ (λ w e. e ∙ sound_admitted c.args.bytes.now _ _ h.tells h.holds) c.append_tokens.ensures.tells

pub returns-in-Ok-clause-appends : goal.returns-in-Ok-clause-appends
returns-in-Ok-clause-appends c =
    let h = c.in-Ok.ensures in
    IfOk-weaker c.append_tokens.result _ _ (λ w a. grown (c.out-1.given.1 (sym c.append_tokens.ensures.same_reference)) a (listing_admitted c.args.bytes.now _ _ h.tells h.holds)) c.append_tokens.ensures.appends

pub returns-clause-tells : goal.returns-clause-tells
returns-clause-tells c = IfOk-weaker c.append_fault.result _ _ (λ w e. e ∙ sound_refused c.args.bytes.now c.in-Err.fault c.in-Err.ensures.tells) c.append_fault.ensures.tells

pub returns-clause-appends : goal.returns-clause-appends
returns-clause-appends c =
    IfOk-weaker c.append_fault.result _ _ (λ w a. grown (c.out-in-Err-1.given.1 (sym c.append_fault.ensures.same_reference)) a (listing_refused c.args.bytes.now c.in-Err.fault c.in-Err.ensures.tells)) c.append_fault.ensures.appends
