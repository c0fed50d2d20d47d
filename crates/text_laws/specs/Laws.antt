-- What unindenting and unescaping mean, in words of their own.
use Rattle.std.specs.Prelude.{◌≡◌, ℕ, ◌≤◌, Bool, true, false, not, ◌&&◌, ◌⊎◌, List, [], ◌∷◌, ◌++◌, length, Ok, ◌==◌}
use Rattle.token.specs.Told.{gave}
use Rattle.token.specs.declared.place.Token.{Token}
use Rattle.utf8.specs.Utf8.{well_formed}
use Rattle.scan.specs.Classes.{gap}
use Rattle.unescape.specs.Escapes.{unescaped}
use Rattle.unindent.specs.Lines.{blank, indentation}
use Rattle.text.specs.Texts.{string_text}

-- w is the beginning of l
abbrev pub Begins : List ℕ → List ℕ → Type 0
Begins w l = (rest : List ℕ) × (l ≡ w ++ rest)

-- what holds of every line that is not blank
abbrev pub EachWritten : (List ℕ → Type 0) → List (List ℕ) → Type 0
EachWritten P [] = Unit {0}
EachWritten P (l ∷ ls) = (blank l ≡ false → P l) × EachWritten P ls

-- some line is not blank
abbrev pub SomeWritten : List (List ℕ) → Type 0
SomeWritten [] = ⊥
SomeWritten (l ∷ ls) = (blank l ≡ false) ⊎ SomeWritten ls

abbrev pub all : (ℕ → Bool) → List ℕ → Bool
all p [] = true
all p (b ∷ bs) = p b && all p bs

-- the indentation of lines is a run of spaces and tabs with which every line begins that is not blank, and no longer such run exists
pub record IndentationIsLongest (ls : List (List ℕ)) : Type 0 where
  pub spaces_and_tabs : all gap (indentation ls) ≡ true
  pub shared : EachWritten (Begins (indentation ls)) ls
  pub longest : (w : List ℕ) → all gap w ≡ true → EachWritten (Begins w) ls → SomeWritten ls → length w ≤ length (indentation ls)

-- no backslash among the bytes
abbrev pub plain : List ℕ → Bool
plain bs = all (λ b. not (b == 92)) bs

pub record StringTextsLawful : Type 0 where
  -- from every line that is not blank the same run is removed, the longest that they share
  pub indentation_is_longest : (ls : List (List ℕ)) → IndentationIsLongest ls
  -- a text without backslashes is its own unescaping
  pub plain_is_itself : (bs : List ℕ) → well_formed bs ≡ true → plain bs ≡ true → unescaped bs ≡ Ok bs
  -- the text of a string token of an admitted text is UTF-8
  pub text_is_utf8 : (text : List ℕ) (t : Token) (bs : List ℕ) → well_formed text ≡ true → string_text text t ≡ gave bs → well_formed bs ≡ true
