-- What the program tells of a text.
use Rattle.std.specs.Prelude.{ℕ, ◌+◌, cond, List, ◌++◌, length, codes, decimal}
use Rattle.listing.specs.Lines.{line_of_fault}
use Rattle.token.specs.Told.{Told, gave, refused, origin}
use Rattle.token.specs.declared.place.Position.{Position}
use Rattle.source.specs.Admission.{admission}
use Rattle.source.specs.Places.{none, walk}
use Rattle.survey.specs.declared.summary.Summary.{Summary}

-- the place behind the last byte
abbrev pub end_of : List ℕ → Position
end_of bs = walk (length bs) bs origin

-- a text that is not empty has one line more than the last line's number
abbrev pub counted : List ℕ → Summary
counted bs = record { bytes = length bs; lines = cond (none bs) 0 ((end_of bs).line + 1); end = end_of bs }

abbrev pub counted_if : Told (Unit {0}) → List ℕ → Told Summary
counted_if (gave _) bs = gave (counted bs)
counted_if (refused r) bs = refused r

abbrev pub summary_of : List ℕ → Told Summary
summary_of bs = counted_if (admission bs) bs

-- bytes N lines N end line:column
abbrev pub summary_text : Summary → List ℕ
summary_text s =
    codes "bytes " ++ (decimal s.bytes ++ (codes " lines " ++ (decimal s.lines ++ (codes " end " ++ (decimal s.end.line ++ (codes ":" ++ decimal s.end.column))))))

abbrev pub line_of_report : Told Summary → List ℕ
line_of_report (gave s) = summary_text s ++ codes "\n"
line_of_report (refused r) = line_of_fault r
