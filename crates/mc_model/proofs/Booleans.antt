-- The parts of an `and` or an `or`, from its value; a number equals itself.
use Rattle.std.proofs.Common.{◌≡◌, ℕ, Bool, true, false, ◌&&◌, ◌||◌, ◌==◌, refl, arith}
use Rattle.std.proofs.lemmas.Bool.Decides.{nat_tests}
use Rattle.std.proofs.lemmas.Bool.{or_parts}

-- if an `or` is false, its first part is false
pub or_left : (a b : Bool) → (a || b) ≡ false → a ≡ false
or_left a b h = (or_parts a b h).0

-- if an `or` is false, its second part is false
pub or_right : (a b : Bool) → (a || b) ≡ false → b ≡ false
or_right a b h = (or_parts a b h).1

-- an `or` is true if its second part is
pub or_true : (a b : Bool) → b ≡ true → (a || b) ≡ true
or_true true b h = refl
or_true false b h = h

-- an `and` is false if not both parts are true
pub not_both : (a b : Bool) → (a ≡ true → b ≡ true → ⊥) → (a && b) ≡ false
not_both true true h = absurd (h refl refl)
not_both true false h = refl
not_both false b h = refl

-- the test of equality is true of a number and itself
pub eqb-refl : (n : ℕ) → (n == n) ≡ true
eqb-refl n = grind (arith, nat_tests)
