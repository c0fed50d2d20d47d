-- What every rule finds fits.
use Rattle.std.proofs.Common.{◌≡◌, ℕ, ◌≤◌, Bool, true, false, not, ◌&&◌, ◌||◌, eqb, List, length, is_some, refl, inl, arith}
use Rattle.std.proofs.lemmas.Bool.{and_parts, eqb-false, eqb-true, not-true}
use Rattle.scan.specs.Prefix.{begins}
use Rattle.scan.proofs.Prefixes.{begins_fits}
use Rattle.rules.specs.declared.found.Around.{Around}
use Rattle.rules.specs.Found.{Found}
use Rattle.rules.specs.declared.parts.Start.{Start}
use Rattle.rules.specs.declared.parts.Start.TheVariants.{Still, Aligned, Outward, Inward, Wrong}
use Rattle.rules.specs.Laws.{RulesSound, Sound}
use Rattle.rules.specs.Lines.{body, finish, onward, or_else, rule, space, start, stop, told}
use Rattle.rules.specs.Scans.{closing, crlf, empty, lf, line_end, opening, over_text, scan}
use Rattle.rules.proofs.Cases.{by}
use Rattle.rules.proofs.Fitting.{general_good}
use Rattle.rules.proofs.Passes.{scan_le, text_none}
use Rattle.rules.proofs.Starting.{Starts, start_good}

module _ (fresh : Bool) (o : Around) (levels : List (List ℕ)) (s : List ℕ) where
  abbrev Good : Found → Type 0
  Good f = Sound fresh o levels s f

  finish_good : empty s ≡ true → Good (finish o levels)
  finish_good e = grind arith

  stop_good : (o.body ≡ true) → (o.marked ≡ false) → (line_end s || begins opening s) ≡ true → Good (stop s)
  stop_good b m h =
      by Good (begins lf s)
      (λ e. (omega arith, begins_fits lf s e, tt))
      (λ n. by Good (begins crlf s)
      (λ e. (omega arith, begins_fits crlf s e, tt))
      (λ n'. (omega arith, begins_fits opening s (braces n n'), (b, m))))
    where
      braces : begins lf s ≡ false → begins crlf s ≡ false → begins opening s ≡ true
      braces n n' = grind arith

  body_good : empty s ≡ false → (o.body ≡ true) → (o.marked ≡ false) → Good (body s)
  body_good e b m =
      let n = scan over_text 0 false s in
      by Good (eqb n 0)
      (λ z. stop_good b m (text_none s e (eqb-true n 0 z)))
      (λ z. let no = eqb-false n 0 z in (omega (arith, no), scan_le over_text 0 false s, b, m))

  onward_good : Good (onward o levels s)
  onward_good =
      by Good (empty s)
      (λ e. finish_good e)
      (λ e. by Good ((o.marked && not (is_some o.newest)) && begins closing s)
      (λ h.
      let p = and_parts (o.marked && not (is_some o.newest)) (begins closing s) h in
      let q = and_parts o.marked (not (is_some o.newest)) p.0 in
      (omega arith, begins_fits closing s p.1, (q.0, not-true (is_some o.newest) q.1)))
      (λ _. by Good (o.body && not o.marked)
      (λ h. let p = and_parts o.body (not o.marked) h in body_good e p.0 (not-true o.marked p.1))
      (λ _. general_good fresh o levels s e)))

  space_good : (n : ℕ) → n ≤ length s → (f : Found) → Good f → Good (or_else (space n) f)
  space_good n l f g = grind arith

  told_good : fresh ≡ true → (v : Start) → Starts o levels s v → (f : Found) → Good f → Good (or_else (told v) f)
  told_good h (Still n) l f g = space_good n l f g
  told_good h (Aligned n) l f g = space_good n l f g
  told_good h Outward i f g = (refl, i, inl h)
  told_good h (Inward n) d f g = (h, d)
  told_good h (Wrong cause n) l f g = (omega arith, omega arith)

  rule_good : Good (rule fresh o levels s)
  rule_good =
      by (λ v. Good (or_else v (onward o levels s))) fresh (λ h. told_good h (start o levels s) (start_good o levels s) (onward o levels s) onward_good) (λ _. onward_good)

pub rules_sound : RulesSound
rules_sound fresh o levels s = rule_good fresh o levels s
