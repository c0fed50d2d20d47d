-- The text that a source holds, and its parts.
use Rattle.std.specs.Prelude.{ℕ, ◌+◌, Bool, cond, ◌&&◌, List, take, drop}
use Rattle.token.specs.Told.{Told, gave, refused_over}
use Rattle.token.specs.declared.fault.Layer.TheVariants as layer
use Rattle.token.specs.declared.place.Token.{Token}
use Rattle.utf8.specs.Utf8.{bound}
use Rattle.source.specs.declared.record.Source.{Source}

abbrev pub text_of : Source → List ℕ
text_of s = s.text.now

-- the bytes from an offset on, so many
abbrev pub part : List ℕ → (offset length : ℕ) → List ℕ
part text offset length = take length (drop offset text)

-- a part begins and ends inside the text, and cuts no character
abbrev pub cuts : List ℕ → (offset length : ℕ) → Bool
cuts text offset length = bound text offset && bound text (offset + length)

-- what a token stands for in a text
abbrev pub lexeme_in : List ℕ → Token → Told (List ℕ)
lexeme_in text t =
    cond (cuts text t.position.offset t.length) (gave (part text t.position.offset t.length)) (refused_over 6 layer.Text t)
