-- Every string text is UTF-8.
use Rattle.std.proofs.Common.{◌≡◌, ℕ, ◌+◌, ◌-◌, Bool, true, cond, eqb, leb, List, [], ◌∷◌, length, take, drop, Some, None, Ok, Err, IsUtf8, Option, Result, refl, subst, arith}
use lib.Utf8.{scalar, scalars}
use Rattle.std.specs.Str.{chars}
use Rattle.std.proofs.lemmas.Bool.{and_parts, cond_both}
use Rattle.std.proofs.lemmas.Str.{scalars-chars, IsUtf8-append, IsUtf8-between, IsUtf8-encode, IsUtf8-nil}
use Rattle.token.specs.Ordinals.{same_kind}
use Rattle.token.specs.Told.{Told, gave, refused}
use Rattle.token.specs.declared.kinds.StringKind.{StringKind}
use Rattle.token.specs.declared.kinds.TokenKind.TheVariants as kind
use Rattle.token.specs.declared.place.Token.{Token}
use Rattle.token.specs.Strings.{delimiter_of, escapes_in}
use Rattle.utf8.specs.Utf8.{bound, well_formed}
use Rattle.utf8.proofs.Bad.{bound_boundary, text_well_formed, well_formed_text}
use Rattle.scan.specs.Prefix.{begins}
use Rattle.source.specs.Sources.{cuts, lexeme_in}
use Rattle.unescape.specs.Escapes.{Fed, Move, before, close, digit, emit, ended, feed, move, onward, sealed, unescaped}
use Rattle.unescape.specs.declared.record.Escape.{Escape}
use Rattle.unescape.specs.declared.record.State.{State}
use Rattle.unescape.specs.declared.record.State.TheVariants.{Raw, Initial, Backslash, BackslashCarriageReturn, Unicode, UnicodeValue}
use Rattle.unindent.specs.Lines.{unindented}
use Rattle.unindent.proofs.Turns.{unindented_text}
use Rattle.text.specs.Cooked.{cooked, flat}
use Rattle.text.specs.Quotes.{closed, closed_by, first_of, literal, quotes, stripped}
use Rattle.text.specs.Texts.{on_cooked, on_lexeme, on_literal, string_text}
use Rattle.text_laws.proofs.Seams.{twice, start_seam, end_seam}

-- what a step gives is a scalar value
abbrev Out : Option ℕ → Type 0
Out None = Unit {0}
Out (Some c) = scalar c ≡ true

abbrev Given : Result Move Escape → Type 0
Given (Ok m) = Out m.out
Given (Err e) = Unit {0}

either : (b : Bool) (x y : Result Move Escape) → Given x → Given y → Given (cond b x y)
either b x y p q = cond_both b x y Given (λ _. p) (λ _. q)

given : (s : State) (c : ℕ) → scalar c ≡ true → Given (move s c)
given Raw c h = h
given Initial c h = either (eqb c 92) _ _ tt h
given Backslash c h =
    either (eqb c 110) _ _ refl (either (eqb c 114) _ _ refl (either (eqb c 116) _ _ refl (either (eqb c 92) _ _ refl
    (either (eqb c 34) _ _ refl (either (eqb c 10) _ _ tt (either (eqb c 13) _ _ tt (either (eqb c 117) _ _ tt tt)))))))
given BackslashCarriageReturn c h = either (eqb c 10) _ _ tt tt
given Unicode c h = either (eqb c 123) _ _ tt tt
given (UnicodeValue v n) c h =
    either (eqb c 125) _ _
    (either (eqb n 0) _ _ tt (cond_both (scalar v) _ _ Given (λ e. e) (λ _. tt)))
    (either (digit c) _ _ (either (leb 6 n) _ _ tt tt) tt)

emit_text : (o : Option ℕ) → Out o → IsUtf8 (emit o)
emit_text None h = IsUtf8-nil
emit_text (Some c) h = IsUtf8-encode c h

-- what characters give is text
abbrev FedText : Result Fed Escape → Type 0
FedText (Ok f) = IsUtf8 f.bytes
FedText (Err e) = Unit {0}

before_text : (bs : List ℕ) (r : Result Fed Escape) → IsUtf8 bs → FedText r → FedText (before bs r)
before_text bs (Ok f) u h = IsUtf8-append bs f.bytes u h
before_text bs (Err e) u h = tt

fed_text : (cs : List ℕ) (s : State) → scalars cs ≡ true → FedText (feed s cs)
fed_text [] s h = IsUtf8-nil
fed_text (c ∷ cs) s h = let p = and_parts (scalar c) (scalars cs) h in by (move s c) (given s c p.0) (λ t. fed_text cs t p.1)
  where
    by : (m : Result Move Escape) → Given m → ((t : State) → FedText (feed t cs)) → FedText (onward m (λ t. feed t cs))
    by (Ok m) g k = before_text (emit m.out) (feed m.state cs) (emit_text m.out g) (k m.state)
    by (Err e) g k = tt

abbrev Text : Result (List ℕ) Escape → Type 0
Text (Ok bs) = IsUtf8 bs
Text (Err e) = Unit {0}

closed_text : (r : Result Fed Escape) → FedText r → Text (close r)
closed_text (Ok f) h = by (ended f.state)
  where
    by : (e : Result (Unit {0}) Escape) → Text (sealed e f.bytes)
    by (Ok u) = h
    by (Err x) = tt
closed_text (Err e) h = tt

flat_text : (k : StringKind) (bs : List ℕ) → IsUtf8 bs → IsUtf8 (flat k bs)
flat_text k bs u = cond_both k.indented (unindented bs) bs IsUtf8 (λ _. unindented_text bs u) (λ _. u)

cooked_text : (k : StringKind) (bs : List ℕ) → IsUtf8 bs → Text (cooked k bs)
cooked_text k bs u =
    let f = flat_text k bs u in
    cond_both (escapes_in k) (unescaped (flat k bs)) (Ok (flat k bs)) Text (λ _. closed_text (feed Initial (chars (flat k bs))) (fed_text (chars (flat k bs)) Initial (scalars-chars (flat k bs) f))) (λ _. f)

-- what stands between a literal's delimiters is text
abbrev Inner : Option (StringKind × List ℕ) → Type 0
Inner None = Unit {0}
Inner (Some p) = IsUtf8 p.1

abbrev Opened : List ℕ → Option StringKind → Type 0
Opened bs None = Unit {0}
Opened bs (Some k) = begins (delimiter_of k) bs ≡ true

opened : (ks : List StringKind) (bs : List ℕ) → Opened bs (first_of ks bs)
opened [] bs = tt
opened (k ∷ ks) bs = cond_both (begins (delimiter_of k) bs) (Some k) (first_of ks bs) (Opened bs) (λ h. h) (λ _. opened ks bs)

inner_text : (bs : List ℕ) → IsUtf8 bs → Inner (literal bs)
unfolding literal
inner_text bs u = by (first_of quotes bs) (opened quotes bs)
  where
    by : (o : Option StringKind) → Opened bs o → Inner (closed bs o)
    by None h = tt
    by (Some k) h = cond_both (closed_by (delimiter_of k) bs) (Some (k, stripped (length (delimiter_of k)) bs)) None Inner (λ c. cut k h c) (λ _. tt)
      where
        cut : (k : StringKind) → begins (delimiter_of k) bs ≡ true → closed_by (delimiter_of k) bs ≡ true → IsUtf8 (stripped (length (delimiter_of k)) bs)
        cut k h c =
            let n : ℕ = length (delimiter_of k) in
            IsUtf8-between bs n (length bs - n) u (omega (arith, twice k bs u h c)) (start_seam k bs u h c) (end_seam k bs u h c)

-- what is told of a token is text
abbrev ToldText : Told (List ℕ) → Type 0
ToldText (gave bs) = IsUtf8 bs
ToldText (refused r) = Unit {0}

lexeme_text : (text : List ℕ) (t : Token) → IsUtf8 text → ToldText (lexeme_in text t)
lexeme_text text t u =
    let o : ℕ = t.position.offset in
    cond_both (cuts text o t.length) _ _ ToldText
    (λ h.
    let p = and_parts (bound text o) (bound text (o + t.length)) h in
    let z : (o + t.length) - o ≡ t.length = omega arith in
    subst (λ n. IsUtf8 (take n (drop o text))) z (IsUtf8-between text o (o + t.length) u (omega arith) (bound_boundary text o u p.0) (bound_boundary text (o + t.length) u p.1)))
    (λ _. tt)

told_text : (t : Token) (l : Told (List ℕ)) → ToldText l → ToldText (on_lexeme t l)
told_text t (gave bs) u = cond_both (same_kind t.kind kind.StringToken) (on_literal t (literal bs)) _ ToldText (λ _. by (literal bs) (inner_text bs u)) (λ _. tt)
  where
    laid : (r : Result (List ℕ) Escape) → Text r → ToldText (on_cooked t r)
    laid (Ok x) h = h
    laid (Err e) h = tt

    by : (o : Option (StringKind × List ℕ)) → Inner o → ToldText (on_literal t o)
    by None h = tt
    by (Some p) h = laid (cooked p.0 p.1) (cooked_text p.0 p.1 h)
told_text t (refused r) u = tt

pub text_sound : (text : List ℕ) (t : Token) (bs : List ℕ) → well_formed text ≡ true → string_text text t ≡ gave bs → well_formed bs ≡ true
text_sound text t bs w e =
    let u : IsUtf8 text = well_formed_text text w in
    text_well_formed bs (subst ToldText e (told_text t (lexeme_in text t) (lexeme_text text t u)))
