-- The periods of generated tasks.
use Rattle.std.proofs.Common.{◌≡◌, ℕ, zero, suc, ◌%◌, ◌<◌, ◌≤◌, ◌==◌, ◌&&◌, Bool, true, nat_le, List, [], ◌∷◌, length, slice_index, refl, arith}
use Prim.Native.Nat.{◌∣◌}
use Rattle.std.specs.List.{list_all}
use Rattle.std.proofs.lemmas.Bool.{and_parts}
use Rattle.std.proofs.lemmas.Bool.Decides.{nat_tests}
use Rattle.std.proofs.lemmas.Nat.Gcd.{dvd_of_mod-eq-zero}
use Rattle.set_gen.specs.GeneratedSet.{periods, period}

-- a period is 200 to 10000 ticks, and divides 20000
pub record IsPeriod (p : ℕ) : Type 0 where
  pub least : 200 ≤ p
  pub most : p ≤ 10000
  pub divides : p ∣ 20000

-- whether a number is 200 to 10000 and divides 20000
abbrev test : ℕ → Bool
test p = (nat_le 200 p && nat_le p 10000) && (20000 % p == 0)

is_period : (p : ℕ) → test p ≡ true → IsPeriod p
is_period p e = record { least = grind (arith, nat_tests); most = grind (arith, nat_tests); divides = dvd_of_mod-eq-zero p (grind (arith, nat_tests)) }

at : (ps : List ℕ) (i : ℕ) → list_all test ps ≡ true → i < length ps → IsPeriod (slice_index ps i)
at [] i h lt = absurd (omega arith)
at (p ∷ ps) zero h lt = is_period p (and_parts (test p) (list_all test ps) h).0
at (p ∷ ps) (suc i) h lt = at ps i (and_parts (test p) (list_all test ps) h).1 (omega arith)

-- each word picks a period of 200 to 10000 ticks that divides 20000
pub period-IsPeriod : (w : ℕ) → IsPeriod (period w)
unfolding period
period-IsPeriod w = at periods (w % 12) (unfold periods in refl) (let twelve : length periods ≡ 12 = unfold periods in refl in omega arith)
