-- Whitespace that comes first is passed over.
use Rattle.std.proofs.Common.{◌≡◌, ◌≤◌, Bool, true, false, cond, List, [], ◌∷◌, length, Some, None, Ok, Err, Option, Result, sym, refl, ap, ◌∙◌, subst, arith}
use Rattle.std.proofs.lemmas.Bool.{cond-true, cond-false}
use Rattle.token.specs.declared.fault.Fault.{Fault}
use Rattle.token.specs.declared.place.Token.{Token}
use Rattle.lexer.specs.Answers.{behind}
use Rattle.lexer.specs.Runs.{Meaning}
use Rattle.runs.specs.Coming.{ended, rest, tell, tell_by}
use Rattle.stream.specs.Sifted.{Past, Shown, Skips, blank, here, looks, passes, sift, sifted, significant, skip, skipped}
use Rattle.stream.specs.Sources.{Glances, Nexts}

-- no more tokens than before
pub sift_few : (ts : List Token) → length (significant ts) ≤ length ts
sift_few [] = omega arith
sift_few (t ∷ ts) = go (blank t) (sift_few ts)
  where
    go : (b : Bool) → length (significant ts) ≤ length ts → length (cond b (significant ts) (t ∷ significant ts)) ≤ length (t ∷ ts)
    go true h = omega arith
    go false h = omega arith

never : (t : Token) (o : Option Fault) → ended o ≡ Ok (Some t) → ⊥
never t None h = cc
never t (Some f) h = cc

-- the first of a meaning, taken apart
leads_by : (ts : List Token) (o : Option Fault) (t : Token) → tell_by ts o ≡ Ok (Some t) → ts ≡ t ∷ behind ts
leads_by [] o t h = absurd (never t o h)
leads_by (u ∷ ts) o t h = let q : u ≡ t = cc in ap (λ v. v ∷ ts) q

module _ (m : Meaning) (t : Token) (e : tell m ≡ Ok (Some t)) where
  pub leads : m.tokens ≡ t ∷ behind m.tokens
  leads = leads_by m.tokens m.ending t e

  -- Whitespace first: it changes nothing of what is left without it
  sift_on : blank t ≡ true → sift (rest m) ≡ sift m
  sift_on w = λ i. record { tokens = (sym (ap significant leads ∙ cond-true _ _ _ w)) i; ending = m.ending }

  skip_on : blank t ≡ true → skipped (rest m) ≡ skipped m
  skip_on w = λ i. record { tokens = (sym (ap skip leads ∙ cond-true _ _ _ w)) i; ending = m.ending }

-- an answer that is no Whitespace
abbrev pub Solid : Result (Option Token) Fault → Type 0
Solid (Ok (Some t)) = blank t ≡ false
Solid (Ok None) = Unit {0}
Solid (Err f) = Unit {0}

-- it is the answer without Whitespace too
pub record Same (m : Meaning) : Type 0 where
  pub told : tell (sift m) ≡ tell m
  pub skips : skipped m ≡ m
  pub rests : sift (rest m) ≡ rest (sift m)

same_by : (ts : List Token) (o : Option Fault) → Solid (tell_by ts o) → Same (record { tokens = ts; ending = o })
same_by [] o h = record { told = refl; skips = refl; rests = refl }
same_by (t ∷ ts) o h =
    let s = cond-false (blank t) (significant ts) (t ∷ significant ts) h in
    record {
      told = ap (λ us. tell_by us o) s;
      skips = λ i. record { tokens = cond-false (blank t) (skip ts) (t ∷ ts) h i; ending = o };
      rests = λ i. record { tokens = sym (ap behind s) i; ending = o };
    }

-- on the way past Whitespace, from one source to another
module _ {A : Type 0} (meaning : A → Meaning) (stays moves : A → A → Type 0) (a : A) where
  pub record Going (b : A) : Type 0 where
    pub sifts : sifted meaning b ≡ sifted meaning a
    pub skips : skipped (meaning b) ≡ skipped (meaning a)
    pub trail : Skips meaning stays moves a b

  pub going_here : Going a
  going_here = record { sifts = refl; skips = refl; trail = here }

  -- a glance leads on
  pub going_looks : (b c : A) → Going b → meaning c ≡ meaning b → stays b c → Going c
  going_looks b c o e s = record { sifts = ap sift e ∙ o.sifts; skips = ap skipped e ∙ o.skips; trail = looks o.trail s }

  -- so does a next that takes Whitespace
  pub going_passes : (b c : A) (t : Token) → Going b → tell (meaning b) ≡ Ok (Some t) → blank t ≡ true → meaning c ≡ rest (meaning b) → moves b c → Going c
  going_passes b c t o e w r s = record {
    sifts = ap sift r ∙ sift_on (meaning b) t e w ∙ o.sifts;
    skips = ap skipped r ∙ skip_on (meaning b) t e w ∙ o.skips;
    trail = passes t o.trail e w s;
  }

  few_here : (b : A) → Going b → length (meaning b).tokens ≤ 98305 → length (sifted meaning a).tokens ≤ 98305
  few_here b o l = omega (arith, sift_few (meaning b).tokens, ap (λ (m : Meaning). length m.tokens) o.sifts)

  -- the way ends at an answer that is no Whitespace
  module _ (b c : A) (r : Result (Option Token) Fault) (o : Going b) (h : Solid r) where
    same : r ≡ tell (meaning b) → Same (meaning b)
    same e = same_by (meaning b).tokens (meaning b).ending (subst Solid e h)

    gives : r ≡ tell (meaning b) → r ≡ tell (sifted meaning a)
    gives e = e ∙ sym (same e).told ∙ ap tell o.sifts

    pub shown : Glances meaning stays b r c → Glances (sifted meaning) (Shown meaning stays moves) a r c
    shown g =
        let w : Going c = going_looks b c o g.leaves g.keeps in
        record { gives = gives g.gives; leaves = w.sifts; few = few_here b o g.few; keeps = record { exactly = w.skips; calls = w.trail } }

    pub past : Nexts meaning moves b r c → Nexts (sifted meaning) (Past meaning stays moves) a r c
    past n = record {
      gives = gives n.gives;
      leaves = ap sift n.leaves ∙ (same n.gives).rests ∙ ap rest o.sifts;
      few = few_here b o n.few;
      steps = record { exactly = n.leaves ∙ ap rest (sym (same n.gives).skips ∙ o.skips); calls = (b, o.trail, n.steps) };
    }
