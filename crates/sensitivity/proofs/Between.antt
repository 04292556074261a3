-- The scales that hold where U_LL is a/n, U_HL is b/n and U_HH is c/n, with n = a + d = c + e.
use Rattle.std.proofs.Common.{◌≡◌, ℕ, zero, suc, ◌+◌, ◌-◌, ◌*◌, ◌<◌, ◌≤◌, ◌↔◌, inl, inr, ap, ◌∙◌, arith, max, Option, None, Some, IfSome, IsSome, List, subst, refl}
use Rattle.std.specs.Prelude.{IfNone}
use Rattle.std.proofs.Math.Nat.{mul-le-mul_left, mul-le-mul_right, le_of_mul-le-mul_left, lt_of_mul-lt-mul_left, mul-pos}
use Rattle.mc_task.specs.declared.task.Task.{Task}
use Rattle.mc_task.specs.declared.task.Rule.{Rule}
use Rattle.mc_task.specs.declared.task.Rule.TheVariants.{Plain, Virtual}
use Rattle.mc_task.specs.TaskSet.{AreTasks}
use Rattle.mc_model.specs.Loads.{product, load_hl, load_hh}
use Rattle.mc_model.proofs.Loads.{high-order}
use Rattle.tick_frac.specs.Numbers.{gcd}
use Rattle.tick_frac.specs.Fraction.{Fraction, lowest}
use Rattle.tick_frac.proofs.Numbers.{gcd_pos_second}
use Rattle.tick_frac.proofs.Fractions.{whole_den}
use Rattle.mc_model.specs.Test.{rule_of}
use Rattle.mc_model.specs.Holds.{Holds, HoldsOver}
use Rattle.mc_model.proofs.RuleCases.{rule_of-cases}

-- p/q is at least x/y, which equals b/d, exactly if q * b is at most p * d
cross-least : (x y b d p q : ℕ) → x * d ≡ b * y → 0 < y → 0 < d → (x * q ≤ p * y) ↔ (q * b ≤ p * d)
cross-least x y b d p q same den some =
    let equal : q * (x * d) ≡ q * (b * y) = ap (λ z. q * z) same in (
      λ h.
          let more : x * q * d ≤ p * y * d = mul-le-mul_right d h in
          let all : y * (q * b) ≤ y * (p * d) = omega (arith, equal, more) in
          le_of_mul-le-mul_left all den,
      λ h.
          let more : y * (q * b) ≤ y * (p * d) = mul-le-mul_left y h in
          let all : d * (x * q) ≤ d * (p * y) = omega (arith, equal, more) in
          le_of_mul-le-mul_left all some,
    )

-- p/q is at most x/y, which equals e/a, exactly if p * a is at most q * e
cross-greatest : (x y e a p q : ℕ) → x * a ≡ e * y → 0 < y → 0 < a → (p * y ≤ x * q) ↔ (p * a ≤ q * e)
cross-greatest x y e a p q same den some =
    let equal : q * (x * a) ≡ q * (e * y) = ap (λ z. q * z) same in (
      λ h.
          let more : p * y * a ≤ x * q * a = mul-le-mul_right a h in
          let all : y * (p * a) ≤ y * (q * e) = omega (arith, equal, more) in
          le_of_mul-le-mul_left all den,
      λ h.
          let more : y * (p * a) ≤ y * (q * e) = mul-le-mul_left y h in
          let all : a * (p * y) ≤ a * (x * q) = omega (arith, equal, more) in
          le_of_mul-le-mul_left all some,
    )

-- a bound over the greater of d and 1 is a bound over d, since b is at most d
or-one : (b d p q : ℕ) → b ≤ d → q * b ≤ p * max d 1 → q * b ≤ p * d
or-one b zero p q small h =
    let none : q * b ≤ q * 0 = mul-le-mul_left q small in
    omega (arith, none)
or-one b (suc d) p q small h =
    let same : p * max (suc d) 1 ≡ p * suc d = ap (λ z. p * z) (omega arith) in
    omega (arith, same, h)

-- the inequality of low mode says that p/q is at least the least scale x/y
pub low-side : (n a b d x y p q : ℕ) → a + d ≡ n → b ≤ d → x * max d 1 ≡ b * y → 0 < y → (p * a + q * b ≤ p * n) ↔ (x * q ≤ p * y)
low-side n a b d x y p q whole small same den =
    let split : p * (a + d) ≡ p * n = ap (λ z. p * z) whole in
    let cross = cross-least x y b (max d 1) p q same den (omega arith) in (
      λ h.
          let low : q * b ≤ p * d = omega (arith, split, h) in
          let more : p * d ≤ p * max d 1 = mul-le-mul_left p (omega arith) in
          cross.1 (omega (arith, low, more)),
      λ h.
          let low : q * b ≤ p * d = or-one b d p q small (cross.0 h) in
          omega (arith, split, low),
    )

-- if EDF fits, the inequality of high mode holds for each scale, and so does the bound x/y, which is 1
pub high-side-plain : (n a c e x y p q : ℕ) → c + e ≡ n → a ≤ e → x ≡ y → p ≤ q → (p * a + q * c ≤ q * n) ↔ (p * y ≤ x * q)
high-side-plain n a c e x y p q whole fits same order =
    let split : q * (c + e) ≡ q * n = ap (λ z. q * z) whole in
    let one : x * q ≡ y * q = ap (λ z. z * q) same in
    let parts : p * y ≤ q * y = mul-le-mul_right y order in
    let lows : p * a ≤ q * a = mul-le-mul_right a order in
    let highs : q * a ≤ q * e = mul-le-mul_left q fits in
    (λ h. omega (arith, one, parts), λ h. omega (arith, split, lows, highs))

-- the inequality of high mode says that p/q is at most the greatest scale x/y
pub high-side : (n a c e x y p q : ℕ) → c + e ≡ n → 0 < a → x * a ≡ e * y → 0 < y → (p * a + q * c ≤ q * n) ↔ (p * y ≤ x * q)
high-side n a c e x y p q whole some same den =
    let split : q * (c + e) ≡ q * n = ap (λ z. q * z) whole in
    let cross = cross-greatest x y e a p q same den some in
    (λ h. cross.1 (omega (arith, split, h)), λ h. let high = cross.0 h in omega (arith, split, high))

-- no scale holds if the least is above the greatest
pub none-crossed : (n a b c d e p q : ℕ) → a + d ≡ n → c + e ≡ n → d * e < a * b → ¬ HoldsOver n a b c (Virtual p q)
none-crossed n a b c d e p q low high crossed h =
    let low_split : p * (a + d) ≡ p * n = ap (λ z. p * z) low in
    let high_split : q * (c + e) ≡ q * n = ap (λ z. q * z) high in
    let lows : q * b ≤ p * d = omega (arith, low_split, h.2) in
    let highs : p * a ≤ q * e = omega (arith, high_split, h.3) in
    let one : q * b * a ≤ p * d * a = mul-le-mul_right a lows in
    let other : p * a * d ≤ q * e * d = mul-le-mul_right d highs in
    let all : q * (a * b) ≤ q * (d * e) = omega (arith, one, other) in
    let most : a * b ≤ d * e = le_of_mul-le-mul_left all (omega (arith, h.0, h.1)) in
    omega (arith, most, crossed)

-- no scale holds if U_LL + U_HL is above 1
pub none-over : (n a b c d p q : ℕ) → a + d ≡ n → d < b → ¬ HoldsOver n a b c (Virtual p q)
none-over n a b c d p q low over h =
    let split : p * (a + d) ≡ p * n = ap (λ z. p * z) low in
    let lows : q * b ≤ p * d = omega (arith, split, h.2) in
    let order : p * d ≤ q * d = mul-le-mul_right d h.1 in
    let all : q * b ≤ q * d = omega (arith, lows, order) in
    let most : b ≤ d = le_of_mul-le-mul_left all (omega (arith, h.0, h.1)) in
    omega (arith, most, over)

-- the greatest scale x/y, where EDF does not fit, is at most 1 and at least the least scale
pub record IsGreatestScale (a b d e x y : ℕ) : Type 0 where
  pub some : 1 ≤ x
  pub order : x ≤ y
  pub low : y * b ≤ x * d

pub greatest-scale : (n a b c d e x y : ℕ) → c + e ≡ n → 0 < n → (0 < c → 0 < b) → 0 < a → e < a → a * b ≤ d * e → x * a ≡ e * y → 0 < y
    → IsGreatestScale a b d e x y
greatest-scale n a b c d zero x y whole above high some past crossed same den =
    let asks : 0 < b = high (omega arith) in
    let more : 0 < a * b = mul-pos some asks in
    absurd (omega (arith, crossed, more))
greatest-scale n a b c d (suc e) x y whole above high some past crossed same den =
    let parts : 0 < suc e * y = mul-pos (omega arith) den in
    let start : a * 0 < a * x = omega (arith, parts, same) in
    let small : suc e * y ≤ a * y = mul-le-mul_right y (omega arith) in
    let lower : a * x ≤ a * y = omega (arith, small, same) in
    let lows : y * (a * b) ≤ y * (d * suc e) = mul-le-mul_left y crossed in
    let turned : d * (x * a) ≡ d * (suc e * y) = ap (λ z. d * z) same in
    let all : a * (y * b) ≤ a * (x * d) = omega (arith, lows, turned) in
    record {
      some = lt_of_mul-lt-mul_left a start;
      order = le_of_mul-le-mul_left lower some;
      low = le_of_mul-le-mul_left all some;
    }

-- a fraction that equals b/m is at most 1 if b is at most m
pub at-most-one : (x y b m : ℕ) → x * m ≡ b * y → 0 < m → b ≤ m → x ≤ y
at-most-one x y b m same some most =
    let more : b * y ≤ m * y = mul-le-mul_right y most in
    let all : m * x ≤ m * y = omega (arith, same, more) in
    le_of_mul-le-mul_left all some

-- if some rule holds for tasks, some scale does: the scale 1 if EDF fits
pub some-scale : (tasks : List Task) (rule : Rule) → AreTasks tasks → Holds tasks rule → (p : ℕ) × (q : ℕ) × Holds tasks (Virtual p q)
some-scale tasks Plain are holds =
    let order : load_hl tasks ≤ load_hh tasks = high-order (product tasks) tasks are.each in
    (1, 1, (omega arith, omega arith, omega (arith, order, holds), omega (arith, holds)))
some-scale tasks (Virtual p q) are holds = (p, q, holds)

-- in lowest terms a denominator is no greater
pub den-most : (num den : ℕ) → 0 < den → (lowest num den).den ≤ den
den-most num den some =
    let whole : gcd num den * (lowest num den).den ≡ den = whole_den num den in
    let more : 1 * (lowest num den).den ≤ gcd num den * (lowest num den).den = mul-le-mul_right (lowest num den).den (gcd_pos_second num den some) in
    omega (arith, whole, more)

-- the scale of the published test is the least
pub published-least : (n a b c m p q : ℕ) (x : Fraction) → rule_of n a b c ≡ Some (Virtual p q) → m ≡ max (n - a) 1 → x ≡ lowest b m → (x.num ≡ p) × (x.den ≡ q)
published-least n a b c m p q x gives is value =
    elim (rule_of-cases n a b c (Virtual p q) gives) [
      | inl plain ↦ absurd (cc (plain.0))
      | inr virtual ↦
          let fits = virtual.1 in
          let same : m ≡ n - a = omega (arith, is, fits.low) in
          let least : x ≡ lowest b (n - a) = value ∙ ap (λ z. lowest b z) same in
          (cc (least, virtual.0), cc (least, virtual.0))
    ]

-- what follows from a fact on the value of an option
pub IfSome-then : {X : Type 0} (o : Option X) (P Q : X → Type 0) → ((x : X) → P x → Q x) → IfSome o P → IfSome o Q
IfSome-then None P Q f h = tt
IfSome-then (Some x) P Q f h = f x h

-- a fact on the value of an option, at that value
pub IfSome-at : {X : Type 0} (o : Option X) (P : X → Type 0) (x : X) → o ≡ Some x → IfSome o P → P x
IfSome-at None P x is h = absurd (cc is)
IfSome-at (Some y) P x is h = let same : y ≡ x = cc is in subst P same h

-- what follows from what holds if an option has no value
pub IfNone-then : {X : Type 0} (o : Option X) (P Q : Type 0) → (P → Q) → IfNone o P → IfNone o Q
IfNone-then None P Q f h = f h
IfNone-then (Some x) P Q f h = tt

-- an option has a value if what holds without one is false
pub IsSome-unless : {X : Type 0} (o : Option X) (P : Type 0) → IfNone o P → ¬ P → IsSome o
IsSome-unless None P h never = absurd (never h)
IsSome-unless (Some x) P h never = refl
