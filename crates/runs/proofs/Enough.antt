-- What is to come does not turn on how many calls are made, once they are enough.
use Rattle.std.proofs.Common.{◌≡◌, ℕ, zero, suc, ◌+◌, ◌*◌, ◌/◌, ◌<◌, ◌≤◌, Bool, true, false, cond, eqb, List, [], ◌∷◌, map, length, take, drop, replicate, Some, None, Ok, Err, Option, Result, sym, refl, ap, ◌∙◌, subst, ⊎_elim, arith}
use Rattle.std.proofs.lemmas.List.{drop-drop, length-drop}
use Rattle.std.proofs.lemmas.Bool.{cond-true, cond-false, eqb-true, ne_eqb, or_cases}
use Rattle.token.specs.declared.fault.Fault.{Fault}
use Rattle.token.specs.declared.place.Position.{Position}
use Rattle.token.specs.declared.place.Token.{Token}
use Rattle.scan.specs.Classes.{gap}
use Rattle.source.specs.Places.{breaks, past, walk}
use Rattle.source.proofs.Walks.{walk_offset}
use Rattle.rules.specs.Effects.{effect_of}
use Rattle.rules.specs.Laws.{Fits}
use Rattle.rules.specs.Lines.{indented}
use Rattle.rules.specs.Scans.{empty}
use Rattle.rules.specs.declared.parts.Effect.{Effect}
use Rattle.rules.specs.declared.parts.Effect.TheVariants.{Indents, Dedents, Texts, Ends, Other}
use Rattle.lexer.specs.Answers.{after, answer, behind, seen, stood}
use Rattle.lexer.specs.Runs.{Meaning, onward, run, tokens_of}
use Rattle.lexer.specs.States.{Rooms, State, ahead, around, level_texts, opening, spanned}
use Rattle.lexer.specs.declared.seen.Seen.{Seen}
use Rattle.lexer.proofs.Came.{came, fitting, token_within}
use Rattle.runs.specs.Coming.{budget, meant, rest, tell}

-- within a line, before a byte, one half of a token is due
abbrev pub owed : ℕ → List ℕ → ℕ
owed column s = cond (eqb column 0) 0 (cond (empty s) 0 1)

abbrev pub due : State → ℕ
due σ = owed σ.place.column (ahead σ)

-- what lies ahead behind a token
pub ahead_after : (σ : State) (t : Token) → t.length ≤ length (ahead σ) → ahead (after σ t) ≡ drop t.length (ahead σ)
ahead_after σ t h =
    ap (λ n. drop n σ.text) (walk_offset t.length (ahead σ) σ.place h) ∙ sym (drop-drop t.length σ.place.offset σ.text)

gap_in_line : (c : ℕ) → gap c ≡ true → eqb c 10 ≡ false
gap_in_line c g = ne_eqb c 10 (λ z. ⊎_elim (λ (e : eqb c 32 ≡ true). omega (arith, eqb-true c 32 e)) (λ (e : eqb c 9 ≡ true). omega (arith, eqb-true c 9 e)) (or_cases _ _ g))

past_in_line : (b : Bool) (p : Position) → b ≡ false → (past b p).column ≡ p.column + 1
past_in_line true p e = cc
past_in_line false p e = refl

gap_stays : (c : ℕ) (s : List ℕ) → gap c ≡ true → breaks (c ∷ s) ≡ false
gap_stays c s g = rw (gap_in_line c g) refl

-- a run of one blank stays in its line
column_over : (n : ℕ) (s : List ℕ) (c : ℕ) (p : Position) → gap c ≡ true → take n s ≡ replicate n c → (walk n s p).column ≡ p.column + n
column_over zero s c p g e = omega arith
column_over (suc n) [] c p g e = cc
column_over (suc n) (b ∷ bs) c p g e =
    let q : b ≡ c = cc in
    let r : take n bs ≡ replicate n c = cc in
    let k : breaks (b ∷ bs) ≡ false = gap_stays b bs (ap gap q ∙ g) in
    omega (arith, column_over n bs c (past (breaks (b ∷ bs)) p) g r, past_in_line (breaks (b ∷ bs)) p k)

owed_low : (column : ℕ) (s : List ℕ) → (owed column s ≤ 1) × (owed column s ≤ length s)
owed_low column [] = go (eqb column 0)
  where
    go : (b : Bool) → (cond b 0 0 ≤ 1) × (cond b 0 0 ≤ 0)
    go true = (omega arith, omega arith)
    go false = (omega arith, omega arith)
owed_low column (c ∷ s) = go (eqb column 0)
  where
    go : (b : Bool) → (cond b 0 1 ≤ 1) × (cond b 0 1 ≤ suc (length s))
    go true = (omega arith, omega arith)
    go false = (omega arith, omega arith)

-- nothing is due where a line begins, nor at the end
owed_fresh : (column : ℕ) (s : List ℕ) → eqb column 0 ≡ true → owed column s ≡ 0
owed_fresh column s e = cond-true _ _ _ e

owed_end : (column : ℕ) (s : List ℕ) → empty s ≡ true → owed column s ≡ 0
owed_end column [] e = go (eqb column 0)
  where
    go : (b : Bool) → ◌≡◌ {A = ℕ} (cond b 0 0) 0
    go true = refl
    go false = refl
owed_end column (c ∷ s) e = cc

owed_inside : (column : ℕ) (s : List ℕ) → 0 < column → 0 < length s → owed column s ≡ 1
owed_inside column [] h l = absurd (omega arith)
owed_inside column (c ∷ s) h l = cond-false _ _ _ (ne_eqb column 0 (λ z. omega arith))

indented_some : {A : Type 0} (f : A → List ℕ) (xs : List A) → indented (map f xs) ≡ true → 0 < length xs
indented_some f [] e = cc
indented_some f (x ∷ xs) e = omega arith

length_behind : {A : Type 0} (xs : List A) → 0 < length xs → length (behind xs) + 1 ≡ length xs
length_behind [] h = absurd (omega arith)
length_behind (x ∷ xs) h = omega arith

-- what a token leaves of the budget, by its effect
spent_by : (e : Effect) (t : Token) (w : Seen) (σ : State) → σ.standing.ended ≡ false → Fits (eqb σ.place.column 0) (around σ) (level_texts σ) (ahead σ) e t.length →
    2 + (3 * length (drop t.length (ahead σ)) + 2 * length (stood e t w σ.standing).levels + cond (stood e t w σ.standing).ended 0 2) + due σ
    ≤ budget σ + owed (walk t.length (ahead σ) σ.place).column (drop t.length (ahead σ))
spent_by Indents t w σ a f =
    let s = ahead σ in
    let n = t.length in
    let d = f.1 in
    let l = length-drop n s in
    let k : owed σ.place.column s ≡ 0 = owed_fresh σ.place.column s f.0 in
    let q = column_over n s d.uniform.0 σ.place d.uniform.1 d.uniform.2 in
    let m : owed (walk n s σ.place).column (drop n s) ≡ 1 = owed_inside (walk n s σ.place).column (drop n s) (omega arith) (omega arith) in
    omega arith
spent_by Dedents t w σ a f =
    let l = length-drop t.length (ahead σ) in
    let k : owed σ.place.column (ahead σ) ≡ 0 = ⊎_elim (owed_fresh σ.place.column (ahead σ)) (owed_end σ.place.column (ahead σ)) f.2 in
    let b : length (behind σ.standing.levels) + 1 ≡ length σ.standing.levels = length_behind σ.standing.levels (indented_some (spanned σ.text) σ.standing.levels f.1) in
    omega arith
spent_by Texts t w σ a f =
    let l = length-drop t.length (ahead σ) in
    let k = owed_low σ.place.column (ahead σ) in
    omega arith
spent_by Ends t w σ a f =
    let l = length-drop t.length (ahead σ) in
    let k : owed σ.place.column (ahead σ) ≡ 0 = owed_end σ.place.column (ahead σ) f.1 in
    let x : ◌≡◌ {A = ℕ} (cond σ.standing.ended 0 2) 2 = cond-false _ _ _ a in
    omega arith
spent_by (Other c) t w σ a f =
    let l = length-drop t.length (ahead σ) in
    let k = owed_low σ.place.column (ahead σ) in
    omega arith

-- each token takes two halves of the budget, but for what is due before it and behind it
pub spent : (σ : State) (t : Token) → answer σ ≡ Ok (Some t) → 2 + budget (after σ t) + due σ ≤ budget σ + due (after σ t)
spent σ t e =
    subst (λ (s : List ℕ).
    2 + (3 * length s + 2 * length (after σ t).standing.levels + cond (after σ t).standing.ended 0 2) + due σ
    ≤ budget σ + owed (after σ t).place.column s)
    (sym (ahead_after σ t (token_within σ t e)))
    (spent_by (effect_of t.kind) t (seen t (ahead σ)) σ (came σ t e).awake (fitting σ t e))

due_low : (σ : State) → (due σ ≤ 1) × (due σ ≤ length (ahead σ))
due_low σ = owed_low σ.place.column (ahead σ)

-- behind Eof nothing comes
pub answer_ended : (σ : State) → σ.standing.ended ≡ true → answer σ ≡ Ok None
answer_ended σ e = cond-true _ _ _ e

run_ended : (k : ℕ) (σ : State) → σ.standing.ended ≡ true → run k σ ≡ run zero σ
run_ended zero σ e = refl
run_ended (suc k) σ e = ap (λ (r : Result (Option Token) Fault). onward r (λ t. run k (after σ t))) (answer_ended σ e)

-- with no call left that is needed, Eof has come
over : (σ : State) → budget σ ≤ 1 + due σ → σ.standing.ended ≡ true
over σ h = go σ.standing.ended refl
  where
    go : (b : Bool) → σ.standing.ended ≡ b → b ≡ true
    go true q = refl
    go false q =
        let x : ◌≡◌ {A = ℕ} (cond σ.standing.ended 0 2) 2 = cond-false _ _ _ q in
        let d = due_low σ in
        absurd (omega arith)

onward_same : (r : Result (Option Token) Fault) (f g : Token → Meaning) → ((t : Token) → r ≡ Ok (Some t) → f t ≡ g t) → onward r f ≡ onward r g
onward_same (Ok (Some t)) f g h = ap (λ (m : Meaning). record { tokens = t ∷ m.tokens; ending = m.ending }) (h t refl)
onward_same (Ok None) f g h = refl
onward_same (Err f) _ _ h = refl

-- any two numbers of calls that are enough hand out the same
pub enough : (k j : ℕ) (σ : State) → budget σ ≤ 2 * k + 1 + due σ → budget σ ≤ 2 * j + 1 + due σ → run k σ ≡ run j σ
enough zero zero σ h i = refl
enough zero (suc j) σ h i = sym (run_ended (suc j) σ (over σ (omega arith)))
enough (suc k) zero σ h i = run_ended (suc k) σ (over σ (omega arith))
enough (suc k) (suc j) σ h i =
    onward_same (answer σ) (λ t. run k (after σ t)) (λ t. run j (after σ t))
    (λ t e. enough k j (after σ t) (omega (arith, spent σ t e)) (omega (arith, spent σ t e)))

-- what is to come: the answer, and then what is to come behind it
pub unfolded : (σ : State) → meant σ ≡ onward (answer σ) (λ t. meant (after σ t))
unfolded σ =
    enough (budget σ) (suc (budget σ)) σ (omega arith) (omega arith)
    ∙ onward_same (answer σ) (λ t. run (budget σ) (after σ t)) (λ t. meant (after σ t))
    (λ t e. enough (budget σ) (budget (after σ t)) (after σ t) (omega (arith, spent σ t e, due_low (after σ t))) (omega arith))

tell_onward : (r : Result (Option Token) Fault) (f : Token → Meaning) → tell (onward r f) ≡ r
tell_onward (Ok (Some t)) f = refl
tell_onward (Ok None) f = refl
tell_onward (Err f) _ = refl

-- the answer is the first of what is to come
pub meant_tells : (σ : State) → answer σ ≡ tell (meant σ)
meant_tells σ = sym (ap tell (unfolded σ) ∙ tell_onward (answer σ) (λ t. meant (after σ t)))

-- behind a token the rest is to come
pub meant_goes : (σ : State) (t : Token) → answer σ ≡ Ok (Some t) → meant (after σ t) ≡ rest (meant σ)
meant_goes σ t e =
    let r : rest (meant σ) ≡ rest (onward (Ok (Some t)) (λ u. meant (after σ u))) =
    ap rest (unfolded σ) ∙ ap (λ (r : Result (Option Token) Fault). rest (onward r (λ u. meant (after σ u)))) e in
    sym r

pub meant_leads : (σ : State) (t : Token) → answer σ ≡ Ok (Some t) → (meant σ).tokens ≡ t ∷ (meant (after σ t)).tokens
meant_leads σ t e =
    ap (λ (m : Meaning). m.tokens) (unfolded σ ∙ ap (λ (r : Result (Option Token) Fault). onward r (λ u. meant (after σ u))) e)

-- the tokens of so many calls, each two halves, and what is due are within the budget
count : (k : ℕ) (σ : State) → 2 * length (run k σ).tokens + due σ ≤ budget σ
count zero σ = let d = due_low σ in omega arith
count (suc k) σ = go (answer σ) refl (count k)
  where
    go : (r : Result (Option Token) Fault) → answer σ ≡ r → ((τ : State) → 2 * length (run k τ).tokens + due τ ≤ budget τ) → 2 * length (onward r (λ t. run k (after σ t))).tokens + due σ ≤ budget σ
    go (Ok (Some t)) e i = omega (arith, i (after σ t), spent σ t e)
    go (Ok None) e i = let d = due_low σ in omega arith
    go (Err f) e i = let d = due_low σ in omega arith

-- the tokens to come are within the budget
pub counted : (σ : State) → 2 * length (meant σ).tokens ≤ budget σ
counted σ = omega (arith, count (budget σ) σ)

-- all tokens of a text are what is to come at the opening
pub whole_meant : (text : List ℕ) (rooms : Rooms) → tokens_of text rooms ≡ meant (opening text rooms)
whole_meant text rooms =
    let n : ℕ = length text in
    enough (n + n / 2 + 1) (budget (opening text rooms)) (opening text rooms) (omega arith) (omega arith)
