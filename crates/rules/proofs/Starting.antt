-- What the start of a line finds fits.
use Rattle.std.proofs.lemmas.Grind.{common_steps}
use Rattle.std.proofs.Common.{◌≡◌, ℕ, ◌<◌, ◌≤◌, true, false, not, ◌&&◌, ◌||◌, List, [], ◌∷◌, length, take, drop, sym, refl, ◌∙◌, inl, inr, arith}
use Rattle.std.proofs.lemmas.List.{length-take, length-take-le}
use Rattle.std.proofs.lemmas.List.Sums.{prefix_len-le-length}
use Rattle.std.proofs.lemmas.Bool.{and_cases, and_parts, false≢true, not_from_false, or_parts, true≢false}
use Rattle.std.specs.List.{prefix_len}
use Rattle.scan.specs.Classes.{gap}
use Rattle.scan.specs.Prefix.{begins}
use Rattle.scan.proofs.Prefixes.{begins_fits}
use Rattle.rules.specs.declared.found.Around.{Around}
use Rattle.rules.specs.declared.parts.Start.{Start}
use Rattle.rules.specs.declared.parts.Start.TheVariants.{Still, Aligned, Outward, Inward, Wrong}
use Rattle.rules.specs.Laws.{Deepens}
use Rattle.rules.specs.Lines.{among, line_of_blanks, deeper, indentation, indented, innermost, mixed, outdents, same, start}
use Rattle.rules.specs.Scans.{empty, line_end, is_line_over}
use Rattle.rules.specs.Table.{nested}
use Rattle.rules.proofs.Cases.{by}
use Rattle.rules.proofs.Passes.{begins_shorter, unmixed}

-- what a line starts with stands in the text
abbrev pub Starts : Around → (levels : List (List ℕ)) → List ℕ → Start → Type 0
Starts o levels s (Still n) = n ≤ length s
Starts o levels s (Aligned n) = n ≤ length s
Starts o levels s Outward = indented levels ≡ true
Starts o levels s (Inward n) = Deepens o levels s n
Starts o levels s (Wrong cause n) = n ≤ length s

-- where the run is not the innermost Indent, and is empty or another, one is open
outward_open : (w : List ℕ) (levels : List (List ℕ)) → same w (innermost levels) ≡ false → (empty w || among w levels) ≡ true → indented levels ≡ true
outward_open [] [] n h = absurd (true≢false n)
outward_open (c ∷ w) [] n h = absurd (false≢true h)
outward_open w (l ∷ levels) n h = refl

nothing_left : (n : ℕ) (s : List ℕ) → empty (drop n s) ≡ false → n < length s
nothing_left n s h = grind (arith, common_steps)

module _ (o : Around) (levels : List (List ℕ)) (s : List ℕ) where
  abbrev Good : Start → Type 0
  Good v = Starts o levels s v

  abbrev count : ℕ
  count = prefix_len gap s

  abbrev run : List ℕ
  run = take count s

  count_le : count ≤ length s
  count_le = prefix_len-le-length gap s

  run_length : length run ≡ count
  run_length = length-take-le count s count_le

  blank_good : Good (line_of_blanks levels count s)
  blank_good = by Good (indented levels && outdents false s) (λ h. (and_parts (indented levels) (outdents false s) h).0) (λ _. count_le)

  inward_good : nested o ≡ false → is_line_over (drop count s) ≡ false → same run (innermost levels) ≡ false → begins (innermost levels) run ≡ true → (o.body && begins (innermost levels) run) ≡ false → (not o.body && mixed run) ≡ false → Deepens o levels s count
  inward_good bare over apart b first second =
      let l = innermost levels in
      let outside : o.body ≡ false = elim (and_cases o.body (begins l run) first) [ inl e ↦ e | inr e ↦ absurd (false≢true (sym e ∙ b)) ] in
      let pure : mixed run ≡ false = elim (and_cases (not o.body) (mixed run) second) [ inl e ↦ absurd (false≢true (sym e ∙ not_from_false o.body outside)) | inr e ↦ e ] in
      let back : begins run l ≡ false = elim (and_cases (begins run l) (begins l run) apart) [ inl e ↦ e | inr e ↦ absurd (false≢true (sym e ∙ b)) ] in
      record {
        within = nothing_left count s (or_parts (line_end (drop count s)) (empty (drop count s)) over).1;
        longer = omega (arith, begins_shorter l run b back, run_length);
        deeper = b;
        uniform = unmixed s pure;
        onward = over;
        outside = outside;
        bare = bare;
      }

  deeper_good : nested o ≡ false → is_line_over (drop count s) ≡ false → same run (innermost levels) ≡ false → Good (deeper o.body (innermost levels) count run)
  deeper_good bare over apart =
      let l = innermost levels in
      by Good (o.body && begins l run)
      (λ h. omega (arith, begins_fits l run (and_parts o.body (begins l run) h).1, run_length, count_le))
      (λ first. by Good (o.body && mixed (take (length l) run))
      (λ _. omega (arith, length-take (length l) run, run_length, count_le))
      (λ _. by Good (not o.body && mixed run)
      (λ _. count_le)
      (λ second. by Good (begins l run) (λ b. inward_good bare over apart b first second) (λ _. count_le))))

  indentation_good : nested o ≡ false → is_line_over (drop count s) ≡ false → Good (indentation o.body levels count run)
  indentation_good bare over =
      by Good (same run (innermost levels))
      (λ _. count_le)
      (λ apart. by Good (empty run || among run levels) (λ h. outward_open run levels apart h) (λ _. deeper_good bare over apart))

  pub start_good : Good (start o levels s)
  start_good = by Good (nested o) (λ _. count_le) (λ bare. by Good (is_line_over (drop count s)) (λ _. blank_good) (λ over. indentation_good bare over))
