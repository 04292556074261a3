use Rattle.std.proofs.Common.{◌≡◌, ℕ, ◌+◌, ◌-◌, ◌*◌, ◌≤◌, ◌↔◌, max, ap, subst, ◌∙◌, arith}
use Rattle.std.proofs.Math.Nat.{mul-le-mul_left}
use Rattle.tick_frac.specs.Fraction.{Fraction, lowest}
use Rattle.admission.proofs.Numbers.{AtMostOne-from_holds}
use Rattle.sensitivity.proofs.Between.{at-most-one, low-side, high-side-plain, high-side, none-crossed, none-over, greatest-scale, den-most, published-least}
use Rattle.sensitivity.proofs.scale_range.scales_over.Goals as goal
use Rattle.sensitivity.proofs.scale_range.scales_over.Goals.{then-n-a-via-then-n-a, then-n-a-via-else-n-a+then-n-c, then-n-a-via-else-n-a+else-n-c+then-n-a-2, then-n-a-via-else-n-a+else-n-c+else-n-a-2+then-n-a-3, then-a-n, else-a-n}

pub returns-then-n-a-clause-none : goal.returns-then-n-a-clause-none
returns-then-n-a-clause-none c = λ p q holds.
    let n : ℕ = c.args.n in
    let most = AtMostOne-from_holds n c.args.a c.args.b c.args.c p q holds in
    elim c.then-n-a.branch [
      | then-n-a-via-then-n-a w ↦ absurd (omega (arith, most.low_low, w.if-n-a))
      | then-n-a-via-else-n-a+then-n-c w ↦ absurd (omega (arith, most.high_high, w.if-n-c))
      | then-n-a-via-else-n-a+else-n-c+then-n-a-2 w ↦ none-over n c.args.a c.args.b c.args.c (n - c.args.a) p q (omega (arith, most.low_low)) (omega (arith, w.if-n-a-2)) holds
      | then-n-a-via-else-n-a+else-n-c+else-n-a-2+then-n-a-3 w ↦
          none-crossed n c.args.a c.args.b c.args.c (n - c.args.a) (n - c.args.c) p q (omega (arith, most.low_low)) (omega (arith, most.high_high)) (omega (arith, w.if-n-a-3)) holds
    ]

pub returns-clause-between : goal.returns-clause-between
returns-clause-between c = λ p q some order.
    let n : ℕ = c.args.n in
    let a : ℕ = c.args.a in
    let d : ℕ = n - a in
    let e : ℕ = n - c.args.c in
    let least : c.new-least.result.num * max d 1 ≡ c.args.b * c.new-least.result.den =
    subst (λ m. c.new-least.result.num * m ≡ c.args.b * c.new-least.result.den) (omega (arith, c.max.ensures)) c.new-least.ensures.equal in
    let low = low-side n a c.args.b d c.new-least.result.num c.new-least.result.den p q (omega (arith, c.if-n-a.false)) (omega (arith, c.if-n-a-2.false)) least c.new-least.ensures.lowest.den in
    let whole : c.args.c + e ≡ n = omega (arith, c.if-n-c.false) in
    let high : (p * a + q * c.args.c ≤ q * n) ↔ (p * c.if-a-n.greatest.den ≤ c.if-a-n.greatest.num * q) =
    elim c.if-a-n.branch [
      | then-a-n w ↦
          rw w.greatest-is
          (high-side-plain n a c.args.c e w.new-greatest.result.num w.new-greatest.result.den p q whole (omega (arith, w.if-a-n)) (let same = w.new-greatest.ensures.equal in omega (arith, same)) order)
      | else-a-n w ↦
          rw w.greatest-is
          (high-side n a c.args.c e w.new-greatest-else-a-n.result.num w.new-greatest-else-a-n.result.den p q whole (omega (arith, w.if-a-n)) w.new-greatest-else-a-n.ensures.equal w.new-greatest-else-a-n.ensures.lowest.den)
    ] in
    (λ h. (low.0 h.2, high.0 h.3), λ s. (some, order, low.1 s.0, high.1 s.1))

pub returns-clause-greatest : goal.returns-clause-greatest
returns-clause-greatest c =
    let n : ℕ = c.args.n in
    let a : ℕ = c.args.a in
    let d : ℕ = n - a in
    let e : ℕ = n - c.args.c in
    let x : ℕ = c.if-a-n.greatest.num in
    let y : ℕ = c.if-a-n.greatest.den in
    let split : a + d ≡ n = omega (arith, c.if-n-a.false) in
    let parts : x * (a + d) ≡ x * n = ap (λ z. x * z) split in
    let whole : c.args.c + e ≡ n = omega (arith, c.if-n-c.false) in
    let (some, order, low) : (1 ≤ x) × (x ≤ y) × (y * c.args.b ≤ x * d) =
    elim c.if-a-n.branch [
      | then-a-n w ↦
          let same : w.new-greatest.result.num ≡ w.new-greatest.result.den = (let is = w.new-greatest.ensures.equal in omega (arith, is)) in
          let above = w.new-greatest.ensures.lowest.den in
          rw (w.greatest-is, same) (omega (arith, above), omega arith, mul-le-mul_left w.new-greatest.result.den (omega (arith, c.if-n-a-2.false)))
      | else-a-n w ↦
          let is = greatest-scale n a c.args.b c.args.c d e w.new-greatest-else-a-n.result.num w.new-greatest-else-a-n.result.den whole c.requires.some c.requires.high (omega (arith, w.if-a-n)) (omega (arith, w.if-a-n))
          (omega (arith, c.if-n-a-3.false)) w.new-greatest-else-a-n.ensures.equal w.new-greatest-else-a-n.ensures.lowest.den in
          rw w.greatest-is (is.some, is.order, is.low)
    ] in
    let least : c.new-least.result.num * max d 1 ≡ c.args.b * c.new-least.result.den =
    subst (λ m. c.new-least.result.num * m ≡ c.args.b * c.new-least.result.den) (omega (arith, c.max.ensures)) c.new-least.ensures.equal in
    let lows : x * a + y * c.args.b ≤ x * n = omega (arith, parts, low) in
    let from_least = (low-side n a c.args.b d c.new-least.result.num c.new-least.result.den x y split (omega (arith, c.if-n-a-2.false)) least c.new-least.ensures.lowest.den).0 lows in
    (returns-clause-between c x y some order).1 (from_least, omega arith)

pub returns-clause-published : goal.returns-clause-published
returns-clause-published c = λ p q gives. published-least c.args.n c.args.a c.args.b c.args.c c.max.result p q c.new-least.result gives (omega (arith, c.max.ensures)) c.new-least.ensures.value

pub returns-clause-small : goal.returns-clause-small
returns-clause-small c =
    let least = den-most c.args.b c.max.result (omega (arith, c.max.ensures)) in
    let den : c.new-least.result.den ≡ (lowest c.args.b c.max.result).den = ap (λ (f : Fraction). f.den) c.new-least.ensures.value in (
      omega (arith, den, least, c.max.ensures, c.requires.small),
      elim c.if-a-n.branch [
        | then-a-n w ↦
            let most = den-most 1 1 (omega arith) in
            let is : c.if-a-n.greatest.den ≡ (lowest 1 1).den = ap (λ (f : Fraction). f.den) (w.greatest-is ∙ w.new-greatest.ensures.value) in
            omega (arith, is, most)
        | else-a-n w ↦
            let most = den-most (c.args.n - c.args.c) c.args.a (omega (arith, w.if-a-n)) in
            let is : c.if-a-n.greatest.den ≡ (lowest (c.args.n - c.args.c) c.args.a).den = ap (λ (f : Fraction). f.den) (w.greatest-is ∙ w.new-greatest-else-a-n.ensures.value) in
            omega (arith, is, most, c.requires.small, c.if-n-a.false)
      ],
    )

pub returns-clause-order : goal.returns-clause-order
returns-clause-order c =
    let least = at-most-one c.new-least.result.num c.new-least.result.den c.args.b c.max.result c.new-least.ensures.equal (omega (arith, c.max.ensures)) (omega (arith, c.max.ensures, c.if-n-a-2.false)) in
    (least, (returns-clause-greatest c).1)
