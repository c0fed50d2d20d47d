-- The text of a string token, for every token record.
use Rattle.std.specs.Prelude.{ℕ, cond, List, ◌++◌, length, drop, Some, None, Ok, Err, Option, Result, nat_le}
use Rattle.token.specs.Ordinals.{same_kind}
use Rattle.token.specs.Told.{Told, gave, refused, refused_over}
use Rattle.token.specs.declared.fault.Layer.TheVariants as layer
use Rattle.token.specs.declared.kinds.StringKind.{StringKind}
use Rattle.token.specs.declared.kinds.TokenKind.TheVariants as kind
use Rattle.token.specs.declared.place.Token.{Token}
use Rattle.source.specs.Sources.{lexeme_in}
use Rattle.unescape.specs.Numbers.{escape_number}
use Rattle.unescape.specs.declared.record.Escape.{Escape}
use Rattle.text.specs.Cooked.{cooked}
use Rattle.text.specs.Quotes.{literal}

abbrev pub on_cooked : Token → Result (List ℕ) Escape → Told (List ℕ)
on_cooked t (Ok bs) = gave bs
on_cooked t (Err e) = refused_over (escape_number e) layer.Text t

abbrev pub on_literal : Token → Option (StringKind × List ℕ) → Told (List ℕ)
on_literal t None = refused_over 7 layer.Text t
on_literal t (Some p) = on_cooked t (cooked p.0 p.1)

abbrev pub on_lexeme : Token → Told (List ℕ) → Told (List ℕ)
on_lexeme t (gave lexeme) = cond (same_kind t.kind kind.StringToken) (on_literal t (literal lexeme)) (refused_over 7 layer.Text t)
on_lexeme t (refused r) = refused r

-- the bytes that a token of a text stands for, or the refusal: 6, 7, or the escape's
abbrev pub string_text : List ℕ → Token → Told (List ℕ)
string_text text t = on_lexeme t (lexeme_in text t)

-- 5, with the length needed
abbrev pub too_short_answer : Token → ℕ → Told ℕ
too_short_answer t n = refused record {
  number = 5;
  layer = layer.Text;
  offset = t.position.offset;
  length = t.length;
  line = t.position.line;
  column = t.position.column;
  needed = n;
}

-- what is answered where the bytes are to fill a buffer of so much room
abbrev pub text_answer : Token → ℕ → Told (List ℕ) → Told ℕ
text_answer t room (gave bs) = cond (nat_le (length bs) room) (gave (length bs)) (too_short_answer t (length bs))
text_answer t room (refused r) = refused r

-- what the buffer holds afterwards: the bytes fill its start and all others stay, or all stay
abbrev pub text_buffer : Told (List ℕ) → List ℕ → List ℕ
text_buffer (gave bs) out = cond (nat_le (length bs) (length out)) (bs ++ drop (length bs) out) out
text_buffer (refused r) out = out
