-- What a state holds open is what the tokens tell, and each token may stand where it does.
use Rattle.std.proofs.Common.{◌≡◌, ℕ, ◌+◌, ◌≤◌, Bool, true, false, eqb, List, [], ◌∷◌, map, length, take, drop, replicate, is_some, Some, Ok, sym, refl, ap, ◌∙◌, subst, arith}
use Rattle.std.proofs.lemmas.List.{length-drop, length-take-le}
use Rattle.token.specs.Told.{origin}
use Rattle.token.specs.declared.kinds.Delimiter.{Delimiter}
use Rattle.token.specs.declared.kinds.Delimiter.TheVariants.{Brace, Bracket, FormatString, Paren}
use Rattle.token.specs.declared.place.Position.{Position}
use Rattle.token.specs.declared.place.Token.{Token}
use Rattle.source.specs.Places.{walk}
use Rattle.source.proofs.Walks.{walk_add, walk_offset}
use Rattle.rules.specs.Effects.{effect_of}
use Rattle.rules.specs.Laws.{Allows, Deepens, Fits, Shaped}
use Rattle.rules.specs.Lines.{indented}
use Rattle.rules.specs.Scans.{empty}
use Rattle.rules.specs.Table.{format_of}
use Rattle.rules.specs.declared.found.Around.{Around}
use Rattle.rules.specs.declared.parts.Change.{Change}
use Rattle.rules.specs.declared.parts.Change.TheVariants as change
use Rattle.rules.specs.declared.parts.Effect.{Effect}
use Rattle.rules.specs.declared.parts.Effect.TheVariants.{Indents, Dedents, Texts, Ends, Other}
use Rattle.lexer.specs.Answers.{after, answer, behind, changed, seen, stood}
use Rattle.lexer.specs.States.{Inner, Rooms, State, ahead, around, level_texts, newest, opening, spanned}
use Rattle.lexer.specs.declared.seen.Seen.{Seen}
use Rattle.lexer.proofs.Came.{came, fitting, token_within}
use Rattle.runs.specs.Opens.{Open, Pair, changes, closed, effects, format, lexeme, opened, pair_of}
use Rattle.runs.specs.Orders.{Deeper, Filled, Matches, Nest, Orderly, Proper}
use Rattle.runs.proofs.Enough.{ahead_after}

-- what the tokens leave open is what the state holds open, and the state is sound
pub record Mirrors (σ : State) (o : Open) : Type 0 where
  pub indents : level_texts σ ≡ o.indents
  pub marked : is_some σ.standing.inner.mark ≡ o.marked
  pub openers : map pair_of σ.standing.inner.openers ≡ o.openers
  pub ended : σ.standing.ended ≡ o.ended
  pub within : σ.place.offset ≤ length σ.text
  pub place : σ.place ≡ walk σ.place.offset σ.text origin
  pub bodied : σ.standing.body ≡ true → indented (level_texts σ) ≡ true
  pub nest : Nest o.indents
  pub over : σ.standing.ended ≡ true → empty (ahead σ) ≡ true

pub opening_mirrors : (text : List ℕ) (rooms : Rooms) → Mirrors (opening text rooms) closed
opening_mirrors text rooms = record {
  indents = refl;
  marked = refl;
  openers = refl;
  ended = refl;
  within = omega arith;
  place = refl;
  bodied = λ e. cc;
  nest = tt;
  over = λ e. cc;
}

-- the text of a token that is answered is what lies ahead
pub lexeme_ahead : (σ : State) (t : Token) → answer σ ≡ Ok (Some t) → lexeme σ.text t ≡ take t.length (ahead σ)
lexeme_ahead σ t e = ap (λ (p : Position). take t.length (drop p.offset σ.text)) (came σ t e).placed

fits_filled : (fresh : Bool) (o : Around) (levels : List (List ℕ)) (s : List ℕ) (e : Effect) (n : ℕ) → Fits fresh o levels s e n → Filled e n
fits_filled fresh o levels s Indents n f = omega (arith, f.1.longer)
fits_filled fresh o levels s Dedents n f = f.0
fits_filled fresh o levels s Texts n f = f.0
fits_filled fresh o levels s Ends n f = f.0
fits_filled fresh o levels s (Other c) n f = f.0

-- what deepens the open Indents is deeper than they
deeper : (o : Around) (levels : List (List ℕ)) (s : List ℕ) (n : ℕ) → Deepens o levels s n → Deeper levels (take n s)
deeper o levels s n d =
    let l : length (take n s) ≡ n = length-take-le n s (omega (arith, d.within)) in
    record {
      uniform = (d.uniform.0, d.uniform.1, d.uniform.2 ∙ ap (λ k. replicate k d.uniform.0) (sym l));
      longer = omega (arith, d.longer);
      beginning = d.deeper;
    }

-- delimiters of one shape are one pair
paired : (d e : Delimiter) → Shaped d (Some e) → pair_of e ≡ pair_of d
paired Brace Brace h = refl
paired Bracket Bracket h = refl
paired (FormatString j) (FormatString k) h = refl
paired Paren Paren h = refl
paired _ _ h = cc

closes_newest : (d : Delimiter) (ds : List Delimiter) → Shaped d (newest ds) → newest (map pair_of ds) ≡ Some (pair_of d)
closes_newest d [] h = absurd h
closes_newest d (e ∷ ds) h = ap (λ (p : Pair). Some p) (paired d e h)

ends_newest : (ds : List Delimiter) → is_some (format_of (newest ds)) ≡ true → newest (map pair_of ds) ≡ Some format
ends_newest [] h = cc
ends_newest (FormatString k ∷ ds) h = refl
ends_newest (_ ∷ ds) h = cc

matches : (c : Change) (σ : State) (o : Open) → Mirrors σ o → Allows (around σ) c → Matches c o
matches change.Marks σ o m a = sym m.marked ∙ a.1
matches change.Unmarks σ o m a = sym m.marked ∙ a.0
matches (change.Closes d) σ o m a = ap newest (sym m.openers) ∙ closes_newest d σ.standing.inner.openers a
matches change.EndsFormat σ o m a = ap newest (sym m.openers) ∙ ends_newest σ.standing.inner.openers a
matches _ σ o m a = tt

empty_length : (s : List ℕ) → empty s ≡ true → length s ≡ 0
empty_length [] e = refl
empty_length (c ∷ s) e = cc

-- what a token finds open, by its effect; w is its text
proper : (e : Effect) (n : ℕ) (w : List ℕ) (σ : State) (o : Open) → w ≡ take n (ahead σ) → Mirrors σ o →
    Fits (eqb σ.place.column 0) (around σ) (level_texts σ) (ahead σ) e n → Proper (length σ.text) σ.place.offset e w o
proper Indents n w σ o q m f =
    subst (λ (ws : List (List ℕ)). Deeper ws w) m.indents (subst (Deeper (level_texts σ)) (sym q) (deeper (around σ) (level_texts σ) (ahead σ) n f.1))
proper Dedents n w σ o q m f = ap indented (sym m.indents) ∙ f.1
proper Texts n w σ o q m f = ap indented (sym m.indents) ∙ m.bodied f.2
proper Ends n w σ o q m f = (
  omega (arith, length-drop σ.place.offset σ.text, empty_length (ahead σ) f.1, m.within),
  ap indented (sym m.indents) ∙ f.2,
  sym m.marked ∙ f.3,
)
proper (Other c) n w σ o q m f = matches c σ o m f.2

-- small changes touch neither the open Indents nor the end
changes_indents : (c : Change) (o : Open) → (changes c o).indents ≡ o.indents
changes_indents change.Nothing o = refl
changes_indents _ o = refl

changes_ended : (c : Change) (o : Open) → (changes c o).ended ≡ o.ended
changes_ended change.Nothing o = refl
changes_ended _ o = refl

changes_marked : (c : Change) (t : Token) (s : Seen) (i : Inner) (o : Open) → is_some i.mark ≡ o.marked → is_some (changed c t s i).mark ≡ (changes c o).marked
changes_marked change.Marks t s i o e = refl
changes_marked change.Unmarks t s i o e = refl
changes_marked _ t s i o e = e

map_behind : {A B : Type 0} (f : A → B) (xs : List A) → map f (behind xs) ≡ behind (map f xs)
map_behind f [] = refl
map_behind f (x ∷ xs) = refl

changes_openers : (c : Change) (t : Token) (s : Seen) (i : Inner) (o : Open) → map pair_of i.openers ≡ o.openers → map pair_of (changed c t s i).openers ≡ (changes c o).openers
changes_openers (change.Opens d) t s i o e = ap (λ (ps : List Pair). pair_of d ∷ ps) e
changes_openers (change.Closes d) t s i o e = map_behind pair_of i.openers ∙ ap behind e
changes_openers change.BeginsFormat t s i o e = ap (λ (ps : List Pair). format ∷ ps) e
changes_openers change.EndsFormat t s i o e = map_behind pair_of i.openers ∙ ap behind e
changes_openers _ t s i o e = e

nest_behind : (ws : List (List ℕ)) → Nest ws → Nest (behind ws)
nest_behind [] h = tt
nest_behind (w ∷ ws) h = h.1

-- what a token leaves open, by its effect
abbrev behind_of : Effect → State → Token → State
behind_of e σ t = record {
  text = σ.text;
  rooms = σ.rooms;
  place = walk t.length (ahead σ) σ.place;
  standing = stood e t (seen t (ahead σ)) σ.standing;
}

abbrev open_of : Effect → State → Token → Open → Open
open_of e σ t o = effects e (lexeme σ.text t) o

indents_on : (e : Effect) (σ : State) (t : Token) (o : Open) → Mirrors σ o → level_texts (behind_of e σ t) ≡ (open_of e σ t o).indents
indents_on Indents σ t o m = ap (λ (ws : List (List ℕ)). lexeme σ.text t ∷ ws) m.indents
indents_on Dedents σ t o m = map_behind (spanned σ.text) σ.standing.levels ∙ ap behind m.indents
indents_on (Other c) σ t o m = m.indents ∙ sym (changes_indents c o)
indents_on _ σ t o m = m.indents

marked_on : (e : Effect) (σ : State) (t : Token) (o : Open) → Mirrors σ o → is_some (behind_of e σ t).standing.inner.mark ≡ (open_of e σ t o).marked
marked_on (Other c) σ t o m = changes_marked c t (seen t (ahead σ)) σ.standing.inner o m.marked
marked_on _ σ t o m = m.marked

openers_on : (e : Effect) (σ : State) (t : Token) (o : Open) → Mirrors σ o → map pair_of (behind_of e σ t).standing.inner.openers ≡ (open_of e σ t o).openers
openers_on (Other c) σ t o m = changes_openers c t (seen t (ahead σ)) σ.standing.inner o m.openers
openers_on _ σ t o m = m.openers

ended_on : (e : Effect) (σ : State) (t : Token) (o : Open) → Mirrors σ o → (behind_of e σ t).standing.ended ≡ (open_of e σ t o).ended
ended_on Ends σ t o m = refl
ended_on (Other c) σ t o m = m.ended ∙ sym (changes_ended c o)
ended_on _ σ t o m = m.ended

bodied_on : (e : Effect) (σ : State) (t : Token) (o : Open) → Mirrors σ o → (behind_of e σ t).standing.body ≡ true → indented (level_texts (behind_of e σ t)) ≡ true
bodied_on Indents σ t o m b = refl
bodied_on Dedents σ t o m b = cc
bodied_on _ σ t o m b = m.bodied b

nest_on : (e : Effect) (n offset : ℕ) (w : List ℕ) (o : Open) → Proper n offset e w o → Nest o.indents → Nest (effects e w o).indents
nest_on Indents n offset w o p h = (p, h)
nest_on Dedents n offset w o p h = nest_behind o.indents h
nest_on Texts n offset w o p h = h
nest_on Ends n offset w o p h = h
nest_on (Other c) n offset w o p h = subst Nest (sym (changes_indents c o)) h

-- a token that ends a session stands at the end
over_on : (e : Effect) (σ : State) (t : Token) → σ.standing.ended ≡ false →
    Fits (eqb σ.place.column 0) (around σ) (level_texts σ) (ahead σ) e t.length → (behind_of e σ t).standing.ended ≡ true → empty (drop t.length (ahead σ)) ≡ true
over_on Ends σ t a f h = ap (λ (n : ℕ). empty (drop n (ahead σ))) f.0 ∙ f.1
over_on _ σ t a f h = cc

-- each token may stand where it does, by what the tokens before it left open
pub stands : (σ : State) (t : Token) (o : Open) → answer σ ≡ Ok (Some t) → Mirrors σ o → Orderly σ.text o t
stands σ t o e m = record {
  onward = sym m.ended ∙ (came σ t e).awake;
  filled = fits_filled (eqb σ.place.column 0) (around σ) (level_texts σ) (ahead σ) (effect_of t.kind) t.length (fitting σ t e);
  proper =
      subst (λ (p : Position). Proper (length σ.text) p.offset (effect_of t.kind) (lexeme σ.text t) o) (sym (came σ t e).placed)
      (proper (effect_of t.kind) t.length (lexeme σ.text t) σ o (lexeme_ahead σ t e) m (fitting σ t e));
}

-- and what it leaves open is again what the state holds open
pub mirrors_on : (σ : State) (t : Token) (o : Open) → answer σ ≡ Ok (Some t) → Mirrors σ o → Mirrors (after σ t) (opened σ.text o t)
mirrors_on σ t o e m =
    let f : Effect = effect_of t.kind in
    let h : t.length ≤ length (ahead σ) = token_within σ t e in
    let k : (walk t.length (ahead σ) σ.place).offset ≡ σ.place.offset + t.length = walk_offset t.length (ahead σ) σ.place h in
    let l = length-drop σ.place.offset σ.text in
    record {
      indents = indents_on f σ t o m;
      marked = marked_on f σ t o m;
      openers = openers_on f σ t o m;
      ended = ended_on f σ t o m;
      within = omega (arith, m.within);
      place =
          ap (walk t.length (ahead σ)) m.place
          ∙ sym (walk_add σ.place.offset t.length σ.text origin m.within)
          ∙ ap (λ n. walk n σ.text origin) (sym k);
      bodied = bodied_on f σ t o m;
      nest = nest_on f (length σ.text) t.position.offset (lexeme σ.text t) o (stands σ t o e m).proper m.nest;
      over = λ z. ap empty (ahead_after σ t h) ∙ over_on f σ t (came σ t e).awake (fitting σ t e) z;
    }
