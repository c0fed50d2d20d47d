use Rattle.std.proofs.Common.{◌++◌, sym, ap, ◌∙◌, rules}
use Rattle.text.specs.Quotes.{first_of, quotes}
use Rattle.text.proofs.Stripped.{no_quote, not_opened, not_closed, stands_between}
use Rattle.text.proofs.literal.Literal.of.Goals as goal

pub returns-in_err-kind : goal.returns-in_err-kind
returns-in_err-kind c = rw c.from_residual.ensures (no_quote c.args.lexeme.now (sym c.in_err-kind.was ∙ c.quote.ensures ∙ ap (first_of quotes) c.as_bytes.ensures.value))

pub returns-in_err-strip_prefix : goal.returns-in_err-strip_prefix
returns-in_err-strip_prefix c =
    let q = c.in_ok-kind.ensures ∙ ap (first_of quotes) c.as_bytes.ensures.value in
    rw c.from_residual-in_err-strip_prefix.ensures (not_opened c.args.lexeme.now c.delimiter-delimiter.result.now c.in_ok-kind.kind q c.delimiter-delimiter.ensures c.in_err-strip_prefix.ensures.cases)

pub returns-in_err-inner : goal.returns-in_err-inner
returns-in_err-inner c =
    let d = c.delimiter-delimiter.result.now in
    let q = c.in_ok-kind.ensures ∙ ap (first_of quotes) c.as_bytes.ensures.value in
    let s = c.in_ok-strip_prefix.ensures.cases in
    rw c.from_residual-in_err-inner.ensures (not_closed c.args.lexeme.now d c.in_ok-kind.kind q c.delimiter-delimiter.ensures _ (s.1.1 ∙ ap (λ l. d ++ l) (sym s.2)) c.in_err-inner.ensures.cases)

pub returns : goal.returns
returns c =
    let d = c.delimiter-delimiter.result.now in
    let q = c.in_ok-kind.ensures ∙ ap (first_of quotes) c.as_bytes.ensures.value in
    let s = c.in_ok-strip_prefix.ensures.cases in
    let t = c.in_ok-inner.ensures.cases in
    let e = stands_between c.args.lexeme.now d c.in_ok-kind.kind q c.delimiter-delimiter.ensures _ _ (s.1.1 ∙ ap (λ l. d ++ l) (sym s.2)) (t.1.1 ∙ ap (λ l. l ++ d) (sym t.2)) in
    search rules
