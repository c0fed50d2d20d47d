-- A listing, line by line.
use Rattle.std.proofs.Common.{◌≡◌, ℕ, ◌+◌, ◌<◌, true, false, List, [], ◌∷◌, ◌++◌, length, Vec, vec_items, Some, None, Ok, Err, Option, Result, sym, ap, ◌∙◌, subst, arith}
use Rattle.std.specs.List.{flat_map}
use Rattle.std.specs.declared.alloc.Global.{Global}
use Rattle.std.proofs.lemmas.List.{append_assoc}
use Rattle.std.proofs.lemmas.Bool.{and_from, cond-true}
use Rattle.token.specs.Told.{Told, gave, refused, refusal}
use Rattle.token.specs.declared.fault.Fault.{Fault}
use Rattle.token.specs.declared.place.Position.{Position}
use Rattle.token.specs.declared.place.Token.{Token}
use Rattle.utf8.specs.Utf8.{bound}
use Rattle.source.specs.Admission.{admission, held_after}
use Rattle.source.proofs.Walks.{walk_offset}
use Rattle.lexer.specs.Answers.{after, answer}
use Rattle.lexer.specs.Runs.{Meaning, onward, tokens_of}
use Rattle.lexer.specs.States.{Rooms, State, ahead, opening}
use Rattle.lexer.proofs.Came.{came, token_within}
use Rattle.session.specs.Sessions.{state_of}
use Rattle.session.specs.declared.record.Session.{Session}
use Rattle.runs.specs.Coming.{meant}
use Rattle.runs.proofs.Enough.{meant_goes, meant_leads, unfolded, whole_meant}
use Rattle.listing.specs.Lines.{ended, fault_text, laid_out, line_in, token_line}
use Rattle.lister.specs.Growing.{Appends}
use Rattle.lister.specs.declared.growing.Listing.{Listing}
use Rattle.lister.specs.Listings.{clean, ending, listed, listing, listing_on, sound, sound_on, tables}

-- a first line and the rest
listed_more : (text : List ℕ) (m rest : Meaning) (t : Token) → m.tokens ≡ t ∷ rest.tokens → m.ending ≡ rest.ending → listed text m ≡ ended (token_line text t) ++ listed text rest
listed_more text m rest t p q =
    (λ i. flat_map (λ u. ended (token_line text u)) (p i) ++ ending (q i))
    ∙ append_assoc (ended (token_line text t)) (flat_map (λ u. ended (token_line text u)) rest.tokens) (ending rest.ending)

-- a token is handed out
module _ (s n : Session) (t : Token) (a : Ok (Some t) ≡ answer (state_of s)) (l : state_of n ≡ after (state_of s) t) where
  abbrev text : List ℕ
  text = (state_of s).text

  starts : bound text t.position.offset ≡ true
  starts = ap (λ (p : Position). bound text p.offset) (came (state_of s) t (sym a)).placed ∙ s.cursor.between

  behind : n.cursor.position.offset ≡ t.position.offset + t.length
  behind =
      ap (λ (σ : State). σ.place.offset) l
      ∙ walk_offset t.length (ahead (state_of s)) (state_of s).place (token_within (state_of s) t (sym a))
      ∙ ap (λ (p : Position). p.offset + t.length) (sym (came (state_of s) t (sym a)).placed)

  stops : bound text (t.position.offset + t.length) ≡ true
  stops = ap (λ k. bound text k) (sym behind) ∙ ap (λ (σ : State). bound σ.text n.cursor.position.offset) (sym l) ∙ n.cursor.between

  -- its line is not refused
  line_of_token : line_in text (Ok t) ≡ gave (ended (token_line text t))
  line_of_token = cond-true _ _ _ (and_from _ _ starts stops)

  pub fewer : length (meant (state_of n)).tokens < length (meant (state_of s)).tokens
  fewer = omega (arith, ap length (meant_leads (state_of s) t (sym a)), ap (λ (σ : State). length (meant σ).tokens) l)

  pub ending_on : (meant (state_of s)).ending ≡ (meant (state_of n)).ending
  ending_on = sym (ap (λ (m : Meaning). m.ending) (meant_goes (state_of s) t (sym a))) ∙ ap (λ (σ : State). (meant σ).ending) (sym l)

  listed_on : listed text (meant (state_of s)) ≡ ended (token_line text t) ++ listed text (meant (state_of n))
  listed_on =
      listed_more text (meant (state_of s)) (meant (state_of n)) t
      (meant_leads (state_of s) t (sym a) ∙ ap (λ (σ : State). t ∷ (meant σ).tokens) (sym l)) ending_on

  -- what is there once its line is appended, and what is to come then
  pub turn : (bytes : List ℕ) → text ≡ bytes → (items more : List ℕ) → more ≡ items ++ laid_out (line_in bytes (Ok t)) → more ++ listed bytes (meant (state_of n)) ≡ items ++ listed bytes (meant (state_of s))
  turn bytes e = subst (λ (bs : List ℕ). (items more : List ℕ) → more ≡ items ++ laid_out (line_in bs (Ok t)) → more ++ listed bs (meant (state_of n)) ≡ items ++ listed bs (meant (state_of s))) e by
    where
      by : (items more : List ℕ) → more ≡ items ++ laid_out (line_in text (Ok t)) → more ++ listed text (meant (state_of n)) ≡ items ++ listed text (meant (state_of s))
      by items more q =
          ap (λ l. l ++ listed text (meant (state_of n))) (q ∙ ap (λ l. items ++ laid_out l) line_of_token)
          ∙ append_assoc items (ended (token_line text t)) (listed text (meant (state_of n)))
          ∙ ap (λ l. items ++ l) (sym listed_on)

-- nothing more comes
module _ (σ : State) (a : Ok None ≡ answer σ) where
  nothing : meant σ ≡ record { tokens = []; ending = None }
  nothing = unfolded σ ∙ ap (λ (r : Result (Option Token) Fault). onward r (λ t. meant (after σ t))) (sym a)

  pub listed_end : (text : List ℕ) → listed text (meant σ) ≡ []
  listed_end text = ap (listed text) nothing

  pub clean_end : clean (meant σ).ending ≡ true
  clean_end = ap (λ (m : Meaning). clean m.ending) nothing

-- a fault comes
module _ (σ : State) (f : Fault) (a : Err f ≡ answer σ) where
  fault_only : meant σ ≡ record { tokens = []; ending = Some f }
  fault_only = unfolded σ ∙ ap (λ (r : Result (Option Token) Fault). onward r (λ t. meant (after σ t))) (sym a)

  pub listed_fault : (text : List ℕ) → listed text (meant σ) ≡ ended (fault_text (refusal f))
  listed_fault text = ap (listed text) fault_only

  pub clean_fault : clean (meant σ).ending ≡ false
  clean_fault = ap (λ (m : Meaning). clean m.ending) fault_only

-- all that a session hands out that stands at the opening
module _ (text : List ℕ) (rooms : Rooms) (σ : State) (o : σ ≡ opening text rooms) where
  pub as_defined : meant σ ≡ tokens_of text rooms
  as_defined = ap meant o ∙ sym (whole_meant text rooms)

-- what ends a listing makes it the whole
pub appends_all : {bytes all : List ℕ} {first last now : Listing} → last.source ≡ first.source → last.out.now.items ++ bytes ≡ first.out.now.items ++ all → Appends bytes last now → Appends all first now
appends_all of whole a = record { items = a.items ∙ whole; source = a.source ∙ of }

-- what the caller's list holds once the borrow ends
pub grown : {bytes all : List ℕ} {first last : Listing} {out : Vec ℕ Global} → out ≡ last.out.now → Appends bytes first last → bytes ≡ all → out.items ≡ first.out.now.items ++ all
grown {first = first} q a e = ap vec_items q ∙ a.items ∙ ap (λ l. first.out.now.items ++ l) e

-- a text is admitted and held
module _ (bs text old : List ℕ) (g : gave tt ≡ admission bs) (h : text ≡ held_after (admission bs) bs old) where
  held : text ≡ bs
  held = h ∙ ap (λ (a : Told (Unit {0})). held_after a bs old) (sym g)

  pub sound_admitted : clean (tokens_of text tables).ending ≡ sound bs
  sound_admitted = ap (λ (t : List ℕ). clean (tokens_of t tables).ending) held ∙ ap (λ (a : Told (Unit {0})). sound_on a bs) g

  pub listing_admitted : listed text (tokens_of text tables) ≡ listing bs
  listing_admitted = ap (λ (t : List ℕ). listed t (tokens_of t tables)) held ∙ ap (λ (a : Told (Unit {0})). listing_on a bs) g

-- a text is refused
module _ (bs : List ℕ) (f : Fault) (g : refused (refusal f) ≡ admission bs) where
  pub sound_refused : false ≡ sound bs
  sound_refused = ap (λ (a : Told (Unit {0})). sound_on a bs) g

  pub listing_refused : ended (fault_text (refusal f)) ≡ listing bs
  listing_refused = ap (λ (a : Told (Unit {0})). listing_on a bs) g
