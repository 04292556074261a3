-- When the test admits loads, by comparisons that need no division: U_LL is a/n, U_HL is b/n and U_HH is c/n.
use Rattle.std.proofs.Common.{◌≡◌, ℕ, ◌+◌, ◌-◌, ◌*◌, ◌<◌, ◌≤◌, ◌⊎◌, inl, inr, refl, arith, Bool, true, false, Option, Some, None}
use Rattle.std.specs.Prelude.{is_some}
use Rattle.std.proofs.Math.Nat.{mul-le-mul_left, mul-le-mul_right, le_of_mul-le-mul_left}
use Rattle.std.proofs.lemmas.Bool.Decides.{leb_tells}
use Rattle.mc_model.specs.Test.{rule_of}
use Rattle.mc_model.proofs.RuleCases.{rule_of-cases}
use Rattle.mc_model.proofs.HoldsAdmitted.{plain-admitted, virtual-admitted}

-- the loads that the test admits: EDF fits, or EDF-VD does
pub record Passes (n a b c : ℕ) : Type 0 where
  pub low : a ≤ n
  pub high : c ≤ n
  pub fits : (a + c ≤ n) ⊎ ((a < n) × (a * b ≤ (n - a) * (n - c)))

-- with d = n - a and n = c + e, the scaled inequality says that a * b is at most d * e
scaled-from : (a b c d e : ℕ) → a * b + c * d ≤ (c + e) * d → a * b ≤ d * e
scaled-from a b c d e h = omega arith

scaled-to : (a b c d e : ℕ) → a * b ≤ d * e → a * b + c * d ≤ (c + e) * d
scaled-to a b c d e h = omega arith

pub value_of : {X : Type 0} (o : Option X) → is_some o ≡ true → (x : X) × (o ≡ Some x)
value_of None h = absurd (cc h)
value_of (Some x) h = (x, refl)

pub Passes-from_admitted : (n a b c : ℕ) → is_some (rule_of n a b c) ≡ true → Passes n a b c
Passes-from_admitted n a b c h =
    let (rule, gives) = value_of (rule_of n a b c) h in
    elim (rule_of-cases n a b c rule gives) [
      | inl plain ↦ (let fits = plain.1 in record { low = omega (arith, fits); high = omega (arith, fits); fits = inl fits })
      | inr virtual ↦
          let fits = virtual.1 in
          let below : a < n = fits.low in
          let part : c * (n - a) ≤ n * (n - a) = omega (arith, fits.scaled) in
          let turned : (n - a) * c ≤ (n - a) * n = omega (arith, part) in
          let high : c ≤ n = le_of_mul-le-mul_left turned (omega (arith, below)) in
          let whole : c + (n - c) ≡ n = omega (arith, high) in
          let scaled : a * b + c * (n - a) ≤ (c + (n - c)) * (n - a) = rw whole fits.scaled in
          record { low = omega (arith, below); high = high; fits = inr (below, scaled-from a b c (n - a) (n - c) scaled) }
    ]

pub admitted-from_Passes : (n a b c : ℕ) → Passes n a b c → is_some (rule_of n a b c) ≡ true
admitted-from_Passes n a b c p =
    elim (leb_tells (a + c) n) [
      | inl plain ↦ plain-admitted n a b c plain.1
      | inr over ↦
          elim p.fits [
            | inl fits ↦ absurd (omega (arith, fits, over.1))
            | inr fits ↦
                let whole : c + (n - c) ≡ n = (let high = p.high in omega (arith, high)) in
                let scaled : a * b + c * (n - a) ≤ (c + (n - c)) * (n - a) = scaled-to a b c (n - a) (n - c) fits.1 in
                virtual-admitted n a b c (record { over = over.1; low = fits.0; scaled = rw whole at scaled })
          ]
    ]

-- what is not true is false
pub false-unless : (x : Bool) → ¬ (x ≡ true) → x ≡ false
false-unless true h = absurd (h refl)
false-unless false h = refl

-- two tests are equal if each is true where the other one is
pub same-test : (x y : Bool) → (x ≡ true → y ≡ true) → (y ≡ true → x ≡ true) → x ≡ y
same-test true true one other = refl
same-test true false one other = absurd (cc (one refl))
same-test false true one other = absurd (cc (other refl))
same-test false false one other = refl

pub refused-unless : (n a b c : ℕ) → ¬ Passes n a b c → is_some (rule_of n a b c) ≡ false
refused-unless n a b c h = false-unless (is_some (rule_of n a b c)) (λ admitted. h (Passes-from_admitted n a b c admitted))

-- products are no smaller with greater factors
product-grows : (d e f g : ℕ) → d ≤ e → f ≤ g → d * f ≤ e * g
product-grows d e f g one other =
    let first : d * f ≤ e * f = mul-le-mul_right f one in
    let second : e * f ≤ e * g = mul-le-mul_left e other in
    omega (arith, first, second)

-- loads that are no greater, over a number that is no smaller, are admitted too
pub looser-admitted : (n m a b c x y z : ℕ) → n ≤ m → x ≤ a → y ≤ b → z ≤ c → is_some (rule_of n a b c) ≡ true → is_some (rule_of m x y z) ≡ true
looser-admitted n m a b c x y z wider low high_low high h =
    let p = Passes-from_admitted n a b c h in
    let lows = p.low in
    let highs = p.high in
    admitted-from_Passes m x y z
    (record {
      low = omega (arith, lows);
      high = omega (arith, highs);
      fits = elim p.fits [
        | inl plain ↦ inl (omega (arith, plain))
        | inr scaled ↦
            let asked : x * y ≤ a * b = product-grows x a y b low high_low in
            let left : (n - a) * (n - c) ≤ (m - x) * (m - z) = product-grows (n - a) (m - x) (n - c) (m - z) (omega arith) (omega arith) in
            let below = scaled.0 in
            let fits = scaled.1 in
            inr (omega (arith, below), omega (arith, asked, fits, left))
      ];
    })
