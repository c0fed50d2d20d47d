-- A value of at most six hexadecimal digits.
use Rattle.std.proofs.Common.{◌≡◌, ℕ, ◌+◌, ◌*◌, ◌^◌, ◌<◌, ◌≤◌, true, add-one, pow-suc, arith}
use native.Mathlib.Nat.{pow-le-pow_right}
use Rattle.std.proofs.lemmas.Bool.Decides.{nat_tests}
use Rattle.unescape.specs.Sane.{sane}
use Rattle.unescape.specs.declared.record.State.TheVariants.{UnicodeValue}

pub few : (v n : ℕ) → sane (UnicodeValue v n) ≡ true → n < 6 → v < 1048576
few v n h l = let p : 16 ^ n ≤ 16 ^ 5 = pow-le-pow_right {n = 16} (omega arith) {i = n} {j = 5} (omega arith) in grind (arith, nat_tests)

pub one_more : (v n d : ℕ) → sane (UnicodeValue v n) ≡ true → n < 6 → d < 16 → sane (UnicodeValue (v * 16 + d) (n + 1)) ≡ true
one_more v n d h l s = let e : 16 ^ (n + 1) ≡ 16 ^ n * 16 = rw add-one (pow-suc 16 n) in grind (arith, nat_tests)
