-- The lines of a listing, as bytes.
use Rattle.std.specs.Prelude.{ℕ, cond, List, [], ◌∷◌, ◌++◌, length, drop, codes, decimal, Ok, Err, Result, ◌==◌, nat_le}
use Rattle.std.specs.List.{flat_map}
use Rattle.token.specs.Told.{Told, Refusal, fault_shown, gave, refused, refusal, refused_over}
use Rattle.token.specs.declared.fault.Fault.{Fault}
use Rattle.token.specs.declared.fault.Layer.TheVariants as layer
use Rattle.token.specs.declared.place.Position.{Position}
use Rattle.token.specs.declared.place.Token.{Token}
use Rattle.source.specs.Sources.{cuts, part}
use Rattle.listing.specs.Names.{name_of}

-- what a byte prints as: \n, \r, \t, or itself
abbrev pub shown : ℕ → List ℕ
shown b = cond (b == 10) (codes "\\n") (cond (b == 13) (codes "\\r") (cond (b == 9) (codes "\\t") (b ∷ [])))

abbrev pub printed : List ℕ → List ℕ
printed bs = flat_map shown bs

-- a number, and the byte behind it
abbrev pub field : ℕ → ℕ → List ℕ
field n b = decimal n ++ (b ∷ [])

-- line:column offset length kind, with a space behind
abbrev pub heading : Token → List ℕ
heading t =
    field t.position.line 58
    ++ (field t.position.column 32 ++ (field t.position.offset 32 ++ (field t.length 32 ++ (name_of t.kind ++ (32 ∷ [])))))

-- what a token stands for
abbrev pub lexeme : List ℕ → Token → List ℕ
lexeme text t = part text t.position.offset t.length

-- the heading, and the lexeme between bars
abbrev pub barred : Token → List ℕ → List ℕ
barred t bs = heading t ++ (124 ∷ (printed bs ++ (124 ∷ [])))

abbrev pub token_line : List ℕ → Token → List ℕ
token_line text t = barred t (lexeme text t)

-- a fault as it is printed, and a line feed
abbrev pub line_of_fault : Refusal → List ℕ
line_of_fault r = fault_shown r ++ codes "\n"

-- fault N line:column offset length
abbrev pub fault_text : Refusal → List ℕ
fault_text r =
    codes "fault " ++ (field r.number 32 ++ (field r.line 58 ++ (field r.column 32 ++ (field r.offset 32 ++ decimal r.length))))

-- a line feed ends it
abbrev pub ended : List ℕ → List ℕ
ended line = line ++ (10 ∷ [])

-- An entry is a token, or the fault that ends a listing.

-- the line of an entry, or the refusal of a token that does not begin and end inside the text between characters
abbrev pub line_in : List ℕ → Result Token Fault → Told (List ℕ)
line_in text (Ok t) = cond (cuts text t.position.offset t.length) (gave (ended (token_line text t))) (refused_over 6 layer.Text t)
line_in text (Err f) = gave (ended (fault_text (refusal f)))

-- 5, with the length needed
abbrev pub short_over : Position → (length needed : ℕ) → Told ℕ
short_over p length needed = refused record {
  number = 5;
  layer = layer.Text;
  offset = p.offset;
  length = length;
  line = p.line;
  column = p.column;
  needed = needed;
}

abbrev pub too_short_answer : Result Token Fault → ℕ → Told ℕ
too_short_answer (Ok t) needed = short_over t.position t.length needed
too_short_answer (Err f) needed = short_over f.position f.length needed

-- what is answered where the line is to fill a buffer of so much room
abbrev pub line_answer : Result Token Fault → ℕ → Told (List ℕ) → Told ℕ
line_answer e room (gave bs) = cond (nat_le (length bs) room) (gave (length bs)) (too_short_answer e (length bs))
line_answer e room (refused r) = refused r

-- what the buffer holds afterwards: the line fills its start and all other bytes stay, or all stay
abbrev pub line_buffer : Told (List ℕ) → List ℕ → List ℕ
line_buffer (gave bs) out = cond (nat_le (length bs) (length out)) (bs ++ drop (length bs) out) out
line_buffer (refused r) out = out

-- a line; nothing where it is refused
abbrev pub laid_out : Told (List ℕ) → List ℕ
laid_out (gave bs) = bs
laid_out (refused r) = []

-- the line of an entry whose lexeme is known; that of a fault has none
abbrev pub line_of : Result Token Fault → List ℕ → List ℕ
line_of (Ok t) lexeme = ended (barred t lexeme)
line_of (Err f) lexeme = ended (fault_text (refusal f))
