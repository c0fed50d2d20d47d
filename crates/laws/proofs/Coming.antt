-- Every call comes to what is next.
use Rattle.std.proofs.Common.{◌≡◌, ℕ, leb, List, [], ◌∷◌, length, Some, None, Ok, Err, Option, Result, sym, refl, subst}
use Rattle.token.specs.Ordinals.{same_kind}
use Rattle.token.specs.Told.{Told, gave, refusal, refused, told}
use Rattle.token.specs.declared.fault.Fault.{Fault}
use Rattle.token.specs.declared.fault.Layer.TheVariants as layer
use Rattle.token.specs.declared.kinds.StringKind.{StringKind}
use Rattle.token.specs.declared.kinds.TokenKind.TheVariants as kind
use Rattle.token.specs.declared.place.Position.{Position}
use Rattle.token.specs.declared.place.Token.{Token}
use Rattle.source.specs.Sources.{cuts, lexeme_in}
use Rattle.unescape.specs.declared.record.Escape.{Escape}
use Rattle.text.specs.Cooked.{cooked}
use Rattle.text.specs.Quotes.{literal}
use Rattle.text.specs.Texts.{on_cooked, on_lexeme, on_literal, string_text, text_answer}
use Rattle.lexer.specs.Runs.{Meaning}
use Rattle.runs.specs.Coming.{tell, tell_by}
use Rattle.stream.specs.Literals.{literal_of, with_token}
use Rattle.rules.proofs.Cases.{either}
use Rattle.laws.specs.Laws.{Below, Comes, Fails, Leads}
use Rattle.laws.specs.Outcomes.{by_glance, by_literal, by_next}

-- what a meaning tells, taken apart
abbrev Shows : Result (Option Token) Fault → Meaning → Type 0
Shows (Ok (Some t)) left = Leads t left
Shows (Ok None) left = (left.tokens ≡ []) × (left.ending ≡ None)
Shows (Err f) left = Fails (refusal f) left

shown_by : (ts : List Token) (o : Option Fault) → Shows (tell_by ts o) (record { tokens = ts; ending = o })
shown_by [] None = (refl, refl)
shown_by [] (Some f) = (refl, (f, refl, refl))
shown_by (t ∷ ts) o = (ts, refl)

shown : (left : Meaning) (r : Result (Option Token) Fault) → r ≡ tell left → Shows r left
shown left r e = subst (λ q. Shows q left) (sym e) (shown_by left.tokens left.ending)

pub next_comes : (p : Position) (left : Meaning) (r : Result (Option Token) Fault) → r ≡ tell left → Comes p left (by_next r)
next_comes p left (Ok (Some t)) e = shown left (Ok (Some t)) e
next_comes p left r e = shown left r e

pub glance_comes : (p : Position) (left : Meaning) (r : Result (Option Token) Fault) → r ≡ tell left → Comes p left (by_glance r)
glance_comes p left (Ok (Some t)) e = shown left (Ok (Some t)) e
glance_comes p left r e = shown left r e

-- a call on texts refuses by the layer text
abbrev Own : {A : Type 0} → Told A → Type 0
Own (gave a) = Unit {0}
Own (refused f) = f.layer ≡ layer.Text

own_cooked : (t : Token) (r : Result (List ℕ) Escape) → Own (on_cooked t r)
own_cooked t (Ok bs) = tt
own_cooked t (Err e) = refl

own_literal : (t : Token) (o : Option (StringKind × List ℕ)) → Own (on_literal t o)
own_literal t None = refl
own_literal t (Some p) = own_cooked t (cooked p.0 p.1)

own_lexeme : (t : Token) (d : Told (List ℕ)) → Own d → Own (on_lexeme t d)
own_lexeme t (gave l) h = either Own (same_kind t.kind kind.StringToken) (own_literal t (literal l)) refl
own_lexeme t (refused f) h = h

own_text : (text : List ℕ) (t : Token) → Own (string_text text t)
own_text text t = own_lexeme t (lexeme_in text t) (either Own (cuts text t.position.offset t.length) tt refl)

own_answer : (t : Token) (room : ℕ) (d : Told (List ℕ)) → Own d → Own (text_answer t room d)
own_answer t room (gave bs) h = either Own (leb (length bs) room) tt refl
own_answer t room (refused f) h = h

-- what literal answers where this comes first
abbrev Literal : Result (Option Token) Fault → Told (Token × ℕ) → Type 0
Literal q (gave p) = q ≡ Ok (Some p.0)
Literal q (refused f) = Below f.layer → (g : Fault) × (q ≡ Err g) × (refusal g ≡ f)

tokens_with : (t : Token) (d : Told ℕ) → Own d → Literal (Ok (Some t)) (with_token t d)
tokens_with t (gave n) h = refl
tokens_with t (refused f) h = λ b. absurd (subst Below h b)

literal_by : (text : List ℕ) (room : ℕ) (q : Result (Option Token) Fault) → Literal q (literal_of text room q)
literal_by text room (Err f) = λ b. (f, refl, refl)
literal_by text room (Ok None) = λ b. absurd b
literal_by text room (Ok (Some t)) =
    either (Literal (Ok (Some t))) (same_kind t.kind kind.StringToken)
    (tokens_with t (text_answer t room (string_text text t)) (own_answer t room (string_text text t) (own_text text t)))
    (λ b. absurd b)

-- an answered literal is of the first token
pub literal_first : (left : Meaning) (text : List ℕ) (room : ℕ) (p : Token × ℕ) → told (Ok p) ≡ literal_of text room (tell left) → tell left ≡ Ok (Some p.0)
literal_first left text room p e = subst (Literal (tell left)) (sym e) (literal_by text room (tell left))

pub literal_comes : (p : Position) (left : Meaning) (text : List ℕ) (room : ℕ) (r : Result (Token × ℕ) Fault) → told r ≡ literal_of text room (tell left) → Comes p left (by_literal r)
literal_comes p left text room (Ok q) e = shown left (Ok (Some q.0)) (sym (literal_first left text room q e))
literal_comes p left text room (Err f) e = λ b. fails (subst (Literal (tell left)) (sym e) (literal_by text room (tell left)) b)
  where
    fails : (g : Fault) × (tell left ≡ Err g) × (refusal g ≡ refusal f) → Fails (refusal f) left
    fails h = subst (λ x. Fails x left) h.2 (shown left (Err h.0) (sym h.1))
