-- A text without backslashes is its own unescaping.
use Rattle.std.proofs.Common.{◌≡◌, ℕ, Bool, true, false, not, eqb, List, [], ◌∷◌, ◌++◌, Ok, sym, refl, ap, ◌∙◌, subst, arith}
use lib.Utf8.{encode, encodes}
use Rattle.std.specs.Str.{chars}
use Rattle.std.proofs.lemmas.Bool.{and_parts, cond-false, eqb-true, false≢true}
use Rattle.std.proofs.lemmas.Str.{encode_ascii, encodes-chars}
use Rattle.utf8.specs.Utf8.{well_formed}
use Rattle.utf8.proofs.Bad.{well_formed_text}
use Rattle.unescape.specs.Escapes.{before, close, feed, gives, goes, onward, unescaped}
use Rattle.unescape.specs.declared.record.State.TheVariants.{Initial, Backslash}
use Rattle.text_laws.specs.Laws.{plain}

-- the bytes behind others
rest_plain : (xs ys : List ℕ) → plain (xs ++ ys) ≡ true → plain ys ≡ true
rest_plain [] ys h = h
rest_plain (x ∷ xs) ys h = rest_plain xs ys (and_parts (not (eqb x 92)) (plain (xs ++ ys)) h).1

-- a character of such a text is no backslash
first_plain : (c : ℕ) (ys : List ℕ) → plain (encode c ++ ys) ≡ true → eqb c 92 ≡ false
first_plain c ys h = by (eqb c 92) refl
  where
    by : (t : Bool) → eqb c 92 ≡ t → eqb c 92 ≡ false
    by true e =
        let q : c ≡ 92 = eqb-true c 92 e in
        let s : encode c ≡ 92 ∷ [] = ap encode q ∙ encode_ascii 92 (omega arith) in
        absurd (false≢true (subst (λ l. plain (l ++ ys) ≡ true) s h))
    by false e = e

fed_plain : (cs : List ℕ) → plain (encodes cs) ≡ true → feed Initial cs ≡ Ok record { state = Initial; bytes = encodes cs }
fed_plain [] h = refl
fed_plain (c ∷ cs) h =
    ap (λ m. onward m (λ t. feed t cs)) (cond-false (eqb c 92) (goes Backslash) (gives c) (first_plain c (encodes cs) h))
    ∙ ap (before (encode c)) (fed_plain cs (rest_plain (encode c) (encodes cs) h))

pub plain_itself : (bs : List ℕ) → well_formed bs ≡ true → plain bs ≡ true → unescaped bs ≡ Ok bs
plain_itself bs w h =
    let e : encodes (chars bs) ≡ bs = encodes-chars bs (well_formed_text bs w) in
    ap close (fed_plain (chars bs) (subst (λ l. plain l ≡ true) (sym e) h)) ∙ ap Ok e
