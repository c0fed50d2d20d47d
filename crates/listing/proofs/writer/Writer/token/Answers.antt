use Rattle.std.proofs.Common.{◌≡◌, ℕ, ◌+◌, ◌≤◌, List, [], ◌∷◌, ◌++◌, length, ap, ◌∙◌, arith}
use Rattle.std.proofs.lemmas.List.{append_assoc, length-append}
use Rattle.listing.specs.Lines.{ended, field, printed}
use Rattle.listing.specs.Names.{name_of}
use Rattle.listing.proofs.Laid.{writes_as, writes_then}
use Rattle.listing.proofs.Lengths.{field_short, printed_short}
use Rattle.listing.proofs.writer.Writer.token.Goals as goal

-- each bar is written at once with the byte beside it
at_once : (l c o n k p : List ℕ) → l ++ (c ++ (o ++ (n ++ (k ++ (32 ∷ 124 ∷ (p ++ (124 ∷ 10 ∷ []))))))) ≡ ended ((l ++ (c ++ (o ++ (n ++ (k ++ (32 ∷ [])))))) ++ (124 ∷ (p ++ (124 ∷ []))))
at_once l c o n k p = simp append_assoc

-- four fields, a name, what is printed, and four bytes
at_most : (l c o n k p : List ℕ) (m : ℕ) → length l ≤ 11 → length c ≤ 11 → length o ≤ 11 → length n ≤ 11 → length k ≤ 20 → length p ≤ m → length (ended ((l ++ (c ++ (o ++ (n ++ (k ++ (32 ∷ [])))))) ++ (124 ∷ (p ++ (124 ∷ []))))) ≤ 68 + m
at_most l c o n k p m hl hc ho hn hk hp = simp length-append (omega arith)

pub returns-clause-writes : goal.returns-clause-writes
returns-clause-writes c =
    let t = c.args.token in
    writes_as (at_once (field t.position.line 58) (field t.position.column 32) (field t.position.offset 32) (field t.length 32) _ (printed c.args.lexeme.now))
    (writes_then c.field.ensures
    (writes_then c.field-2.ensures
    (writes_then c.field-3.ensures
    (writes_then c.field-4.ensures
    (writes_then (writes_as (c.as_bytes.ensures.value ∙ c.name.ensures.is) c.put.ensures)
    (writes_then c.put-2.ensures (writes_then (writes_as (ap printed c.as_bytes-2.ensures.value) c.print.ensures) c.put-3.ensures)))))))

pub returns-clause-short : goal.returns-clause-short
returns-clause-short c =
    let t = c.args.token in
    at_most (field t.position.line 58) (field t.position.column 32) (field t.position.offset 32) (field t.length 32) (name_of t.kind) (printed c.args.lexeme.now) _
    (field_short t.position.line 58 (omega arith)) (field_short t.position.column 32 (omega arith)) (field_short t.position.offset 32 (omega arith)) (field_short t.length 32 (omega arith))
    (omega (arith, ap length c.name.ensures.is, c.name.ensures.short)) (printed_short c.args.lexeme.now)
