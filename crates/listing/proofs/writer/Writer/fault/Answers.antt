use Rattle.std.proofs.Common.{◌≡◌, ℕ, ◌≤◌, List, ◌++◌, length, codes, decimal, ap, arith}
use Rattle.std.proofs.lemmas.List.{append_assoc, length-append}
use Rattle.token.specs.Causes.{number_of}
use Rattle.listing.specs.Lines.{ended, field}
use Rattle.listing.proofs.Laid.{writes_as, writes_then}
use Rattle.listing.proofs.Lengths.{decimal_short, field_short}
use Rattle.listing.proofs.writer.Writer.fault.Goals as goal

-- the last number and the line feed are written at once
at_once : (n l c o : List ℕ) (k : ℕ) → codes "fault " ++ (n ++ (l ++ (c ++ (o ++ field k 10)))) ≡ ended (codes "fault " ++ (n ++ (l ++ (c ++ (o ++ decimal k)))))
at_once n l c o k = simp append_assoc

-- a word, four fields, a number, and a line feed
at_most : (n l c o k : List ℕ) → length n ≤ 11 → length l ≤ 11 → length c ≤ 11 → length o ≤ 11 → length k ≤ 10 → length (ended (codes "fault " ++ (n ++ (l ++ (c ++ (o ++ k)))))) ≤ 61
at_most n l c o k hn hl hc ho hk = simp length-append (omega arith)

pub returns-clause-writes : goal.returns-clause-writes
returns-clause-writes c =
    let f = c.args.fault in
    writes_as (at_once (field (number_of f.cause) 32) (field f.position.line 58) (field f.position.column 32) (field f.position.offset 32) f.length)
    (writes_then c.put.ensures
    (writes_then (writes_as (ap (λ n. field n 32) c.number.ensures.value) c.field.ensures)
    (writes_then c.field-2.ensures (writes_then c.field-3.ensures (writes_then c.field-4.ensures c.field-5.ensures)))))

pub returns-clause-short : goal.returns-clause-short
returns-clause-short c =
    let f = c.args.fault in
    at_most (field (number_of f.cause) 32) (field f.position.line 58) (field f.position.column 32) (field f.position.offset 32) (decimal f.length)
    (field_short (number_of f.cause) 32 (omega (arith, c.number.ensures.value))) (field_short f.position.line 58 (omega arith)) (field_short f.position.column 32 (omega arith))
    (field_short f.position.offset 32 (omega arith)) (decimal_short f.length (omega arith))
