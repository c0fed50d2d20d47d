use Rattle.std.proofs.Common.{◌≡◌, ℕ, List, length, sym, ap, ◌∙◌}
use Rattle.token.specs.Told.{gave, origin}
use Rattle.token.specs.declared.kinds.TokenKind.TheVariants as kind
use Rattle.token.specs.declared.place.Position.{Position}
use Rattle.token.specs.declared.place.Token.{Token}
use Rattle.source.specs.Admission.{admission, held_after}
use Rattle.text.specs.Texts.{string_text, text_answer, text_buffer}
use Rattle.unquoted.specs.Whole.{on_admission, whole_text}
use Rattle.unquoted.proofs.unquoted.Goals as goal

abbrev token_at : Position → List ℕ → Token
token_at p bs = record { kind = kind.StringToken; position = p; length = length bs }

-- the token of the whole of a text that was admitted
standing : (bs held before : List ℕ) (p : Position) → p ≡ origin → gave tt ≡ admission bs → held ≡ held_after (admission bs) bs before → string_text held (token_at p bs) ≡ whole_text bs
standing bs held before p q t h = let e : held ≡ bs = h ∙ ap (λ a. held_after a bs before) (sym t) in (λ i. string_text (e i) (token_at (q i) bs)) ∙ ap (λ a. on_admission a bs) t

at_origin : (p : Position) → (p.offset ≡ 0) × ((p.line ≡ 0) × (p.column ≡ 0)) → p ≡ origin
at_origin p d = λ i. record { offset = d.0 i; line = d.1.0 i; column = d.1.1 i }

pub returns-clause-gives : goal.returns-clause-gives
returns-clause-gives c =
    let bs = c.args.literal.now in
    let p = at_origin c.default.result c.default.ensures in
    c.text.ensures.gives ∙ (λ i. text_answer (token_at (p i) bs) (length c.args.buffer.now) (standing bs _ _ _ p c.in_ok-admit.ensures.tells c.in_ok-admit.ensures.holds i))

pub returns-clause-fills : goal.returns-clause-fills
returns-clause-fills c =
    let s = standing c.args.literal.now _ _ _ (at_origin c.default.result c.default.ensures) c.in_ok-admit.ensures.tells c.in_ok-admit.ensures.holds in
    c.text.ensures.fills ∙ ap (λ t. text_buffer t c.args.buffer.now) s
