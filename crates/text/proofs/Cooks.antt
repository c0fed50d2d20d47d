-- Piece by piece, to the end of the text.
use Rattle.std.proofs.Common.{◌≡◌, ℕ, ◌+◌, Bool, true, false, cond, List, ◌∷◌, ◌++◌, length, Ok, Err, IsUtf8, Result, sym, refl, ap, ◌∙◌, arith, ◌≤◌, MatchResult, IfOk}
use Rattle.std.specs.List.{flat_map}
use Rattle.std.specs.Str.{chars}
use Rattle.std.proofs.lemmas.Str.{chars-append, encodes-chars}
use Rattle.unescape.specs.Escapes.{Fed, close, ended, feed, sealed}
use Rattle.unescape.specs.declared.record.Escape.{Escape}
use Rattle.unescape.specs.declared.record.State.{State}
use Rattle.unescape.specs.declared.record.State.TheVariants.{Raw, Initial}
use Rattle.unescape.proofs.Feeds.{feed_raw}
use Rattle.token.specs.Strings.{escapes_in}
use Rattle.token.specs.declared.kinds.StringKind.{StringKind}
use Rattle.unindent.specs.Left.{left}
use Rattle.unindent.specs.declared.record.Pieces.{Pieces}
use Rattle.unindent.proofs.Turns.{pieces_text}
use Rattle.text.specs.Cooked.{cooked, cooked_by, flat}
use Rattle.text.specs.Fedby.{bytes_of, from_ok, onto, sized, summed}

abbrev pub laid : List (List ℕ) → List ℕ
laid ps = flat_map (λ p. p) ps

abbrev pub start : Bool → State
start escapes = cond escapes Initial Raw

-- a text is unescaped from its start to its end
pub cooked_feed : (escapes : Bool) (bs : List ℕ) → IsUtf8 bs → close (feed (start escapes) (chars bs)) ≡ cooked_by escapes bs
cooked_feed true bs u = refl
cooked_feed false bs u = ap close (feed_raw (chars bs)) ∙ ap Ok (encodes-chars bs u)

pub characters : (p : List ℕ) (ps qs : List (List ℕ)) → qs ≡ p ∷ ps → IsUtf8 p → chars (laid qs) ≡ chars p ++ chars (laid ps)
characters p ps qs e u = ap (λ l. chars (laid l)) e ∙ chars-append p (laid ps) u

-- so are the pieces of a literal
pub pieces_cooked : (k : StringKind) (bs : List ℕ) (p : Pieces) (escapes : Bool) (s : State) → escapes ≡ escapes_in k → s ≡ start escapes → IsUtf8 p.rest.now → laid (left p) ≡ flat k bs
    → close (feed s (chars (laid (left p)))) ≡ cooked k bs
pieces_cooked k bs p escapes s e t u g =
    ap (λ v. close (feed v (chars (laid (left p))))) t ∙ cooked_feed escapes (laid (left p)) (pieces_text p u) ∙ (λ i. cooked_by (e i) (g i))

-- at the end of the text
pub closed_well : (r : Result Fed Escape) (s : State) (n : ℕ) → summed 0 r ≡ Ok (s, n) → Ok tt ≡ ended s → (close r ≡ Ok (bytes_of r)) × (length (bytes_of r) ≡ n)
closed_well (Ok f) s n e h =
    let p : (f.state, 0 + length f.bytes) ≡ (s, n) = cc in
    let q : f.state ≡ s = ap (λ (z : State × ℕ). z.0) p in
    let k : 0 + length f.bytes ≡ n = ap (λ (z : State × ℕ). z.1) p in
    (ap (λ x. sealed x f.bytes) (ap ended q ∙ sym h), let z : length f.bytes ≡ n = omega arith in z)
closed_well (Err x) s n e h = absurd (let z : ◌≡◌ {A = ℕ} 0 1 = cc in omega arith)

pub not_ended : (r : Result Fed Escape) (s : State) (n : ℕ) (x : Escape) → summed 0 r ≡ Ok (s, n) → Err x ≡ ended s → close r ≡ Err x
not_ended (Ok f) s n x e h =
    let p : (f.state, 0 + length f.bytes) ≡ (s, n) = cc in
    let q : f.state ≡ s = ap (λ (z : State × ℕ). z.0) p in
    ap (λ y. sealed y f.bytes) (ap ended q ∙ sym h)
not_ended (Err y) s n x e h = absurd (let z : ◌≡◌ {A = ℕ} 0 1 = cc in omega arith)

-- what is answered at the end of a text, and what is written then
pub answered : (r : Result Fed Escape) (s : State) (n : ℕ) (out after : List ℕ) (e : Result ℕ Escape) → summed 0 r ≡ Ok (s, n) → (n ≤ length out → after ≡ onto (bytes_of r) out) → MatchResult e (λ m. (Ok tt ≡ ended s) × (m ≡ n)) (λ x. Err x ≡ ended s)
    → (e ≡ sized (close r)) × IfOk e (λ m. m ≤ length out → after ≡ onto (from_ok (close r)) out)
answered r s n out after (Ok m) g w h =
    let c = closed_well r s n g h.0 in
    (ap Ok (h.1 ∙ sym c.1) ∙ sym (ap sized c.0), λ l. w (omega (arith, h.1)) ∙ ap (λ t. onto (from_ok t) out) (sym c.0))
answered r s n out after (Err x) g w h = (sym (ap sized (not_ended r s n x g h)), tt)
