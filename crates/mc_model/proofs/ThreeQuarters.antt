-- Tasks whose utilisations are at most 3/4 are admitted.
use Rattle.std.proofs.Common.{◌≡◌, ℕ, ◌+◌, ◌-◌, ◌*◌, ◌<◌, ◌≤◌, inl, inr, arith, IsSome}
use Rattle.std.proofs.lemmas.Bool.Decides.{leb_tells}
use Rattle.std.proofs.Math.Nat.{mul-le-mul_left, mul-le-mul_right}
use Rattle.mc_model.specs.Loads.{product, load_ll, load_hl, load_hh}
use Rattle.mc_model.specs.Test.{rule_of, published}
use Rattle.mc_model.specs.Holds.{IsThreeQuartersOver, ThreeQuartersLaw}
use Rattle.mc_model.proofs.Hyperperiod.{product-pos}
use Rattle.mc_model.proofs.HoldsAdmitted.{plain-admitted, virtual-admitted}

-- x and x + e differ by a square: their squares are twice their product and e^2 more
square_apart : (x e : ℕ) → 2 * (x * (x + e)) ≤ x * x + (x + e) * (x + e)
square_apart x e = omega arith

-- twice the product of two numbers is at most the sum of their squares
two_products : (x y : ℕ) → 2 * (x * y) ≤ x * x + y * y
two_products x y =
    elim (leb_tells x y) [
      | inl t ↦ (let whole : x + (y - x) ≡ y = omega arith in rw whole at (square_apart x (y - x)))
      | inr t ↦
          let whole : y + (x - y) ≡ x = omega arith in
          let apart : 2 * (y * x) ≤ y * y + x * x = rw whole at (square_apart y (x - y)) in
          omega arith
    ]

-- where the utilisations are at most 3/4, EDF-VD fits: what is left to show is that (a - d)^2 is at least 0
quarters-fit : (a b c d : ℕ) → 4 * (a + b) ≤ 3 * (a + d) → 4 * c ≤ 3 * (a + d) → a * b + c * d ≤ (a + d) * d
quarters-fit a b c d low high =
    let lows : a * (4 * (a + b)) ≤ a * (3 * (a + d)) = mul-le-mul_left a low in
    let highs : 4 * c * d ≤ 3 * (a + d) * d = mul-le-mul_right d high in
    let square : 2 * (a * d) ≤ a * a + d * d = two_products a d in
    let all : 4 * (a * b + c * d) ≤ 4 * ((a + d) * d) = omega arith in
    omega arith

-- the 3/4 law over numbers
pub three_quarters-IsSome : (n a b c : ℕ) → 0 < n → IsThreeQuartersOver n a b c → IsSome (rule_of n a b c)
three_quarters-IsSome n a b c some h =
    elim (leb_tells (a + c) n) [
      | inl plain ↦ plain-admitted n a b c (plain.1)
      | inr over ↦
          let below : a < n = omega arith in
          let whole : a + (n - a) ≡ n = omega arith in
          let scaled : a * b + c * (n - a) ≤ (a + (n - a)) * (n - a) = quarters-fit a b c (n - a) (rw whole (h.0)) (rw whole (h.1)) in
          virtual-admitted n a b c (record { over = over.1; low = below; scaled = rw whole at scaled })
    ]

-- law: tasks whose utilisations are at most 3/4 are admitted
pub three_quarters-admitted : ThreeQuartersLaw
unfolding published
three_quarters-admitted tasks are h = three_quarters-IsSome (product tasks) (load_ll tasks) (load_hl tasks) (load_hh tasks) (product-pos tasks are.each) h
