-- A text may be unescaped piece by piece.
use Rattle.std.proofs.Common.{◌≡◌, ℕ, List, [], ◌∷◌, ◌++◌, Ok, Err, Result, sym, refl, ap, ◌∙◌}
use Rattle.std.proofs.lemmas.List.{append_assoc}
use Rattle.unescape.specs.Escapes.{Move, Fed, move, emit, before, onward, feed}
use Rattle.unescape.specs.declared.record.Escape.{Escape}
use Rattle.unescape.specs.declared.record.State.{State}
use Rattle.unescape.specs.declared.record.State.TheVariants.{Raw}
use lib.Utf8.{encode, encodes}

-- what comes behind a piece
abbrev pub behind : Result Fed Escape → (State → Result Fed Escape) → Result Fed Escape
behind (Ok f) rest = before f.bytes (rest f.state)
behind (Err e) rest = Err e

pub before_before : (xs ys : List ℕ) (r : Result Fed Escape) → before xs (before ys r) ≡ before (xs ++ ys) r
before_before xs ys (Ok f) = ap (λ bs. Ok record { state = f.state; bytes = bs }) (sym (append_assoc xs ys f.bytes))
before_before xs ys (Err e) = refl

before_behind : (xs : List ℕ) (r : Result Fed Escape) (k : State → Result Fed Escape) → before xs (behind r k) ≡ behind (before xs r) k
before_behind xs (Ok f) k = before_before xs f.bytes (k f.state)
before_behind xs (Err e) k = refl

before_none : (r : Result Fed Escape) → before [] r ≡ r
before_none (Ok f) = refl
before_none (Err e) = refl

pub feed_append : (s : State) (xs ys : List ℕ) → feed s (xs ++ ys) ≡ behind (feed s xs) (λ t. feed t ys)
feed_append s [] ys = sym (before_none (feed s ys))
feed_append s (x ∷ xs) ys = by (move s x) (λ t. feed_append t xs ys)
  where
    by : (m : Result Move Escape) → ((t : State) → feed t (xs ++ ys) ≡ behind (feed t xs) (λ u. feed u ys)) → onward m (λ t. feed t (xs ++ ys)) ≡ behind (onward m (λ t. feed t xs)) (λ t. feed t ys)
    by (Ok m) ih = ap (before (emit m.out)) (ih m.state) ∙ before_behind (emit m.out) (feed m.state xs) (λ t. feed t ys)
    by (Err e) ih = refl

-- without escape sequences every character stands for itself
pub feed_raw : (cs : List ℕ) → feed Raw cs ≡ Ok record { state = Raw; bytes = encodes cs }
feed_raw [] = refl
feed_raw (c ∷ cs) = ap (before (encode c)) (feed_raw cs)
