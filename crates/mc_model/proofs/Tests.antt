-- The test gives the same rule for loads and for their multiples.
use Rattle.std.proofs.Common.{◌≡◌, ℕ, ◌+◌, ◌-◌, ◌*◌, ◌<◌, sym, ◌∙◌, ap, arith, nat_le, nat_lt, List}
use Rattle.std.proofs.Math.Nat.{mul-add, mul-sub}
use Rattle.tick_frac.specs.Fraction.{lowest, fraction_text}
use Rattle.tick_frac.proofs.Numbers.{le_scaled, lt_scaled}
use Rattle.tick_frac.proofs.Fractions.{lowest-scaled}
use Rattle.mc_model.specs.Test.{rule_of}
use Rattle.mc_model.specs.CheckText.{load_texts}

squares : (k n a b c m : ℕ) → 0 < k → nat_le (k * a * (k * b) + k * c * (k * m)) (k * n * (k * m)) ≡ nat_le (a * b + c * m) (n * m)
squares k n a b c m h =
    let left : k * a * (k * b) + k * c * (k * m) ≡ k * (k * (a * b + c * m)) = omega arith in
    let right : k * n * (k * m) ≡ k * (k * (n * m)) = omega arith in
    ap (λ z. nat_le z (k * n * (k * m))) left ∙ ap (λ z. nat_le (k * (k * (a * b + c * m))) z) right
    ∙ le_scaled k (k * (a * b + c * m)) (k * (n * m)) h ∙ le_scaled k (a * b + c * m) (n * m) h

pub rule-scaled : (k n a b c : ℕ) → 0 < k → rule_of (k * n) (k * a) (k * b) (k * c) ≡ rule_of n a b c
unfolding rule_of
rule-scaled k n a b c h =
    let d : k * n - k * a ≡ k * (n - a) = sym (mul-sub k n a) in
    let e1 : nat_le (k * a + k * c) (k * n) ≡ nat_le (a + c) n = ap (λ z. nat_le z (k * n)) (sym (mul-add k a c)) ∙ le_scaled k (a + c) n h in
    let e2 : nat_lt (k * a) (k * n) ≡ nat_lt a n = lt_scaled k a n h in
    let e3 : nat_le (k * a * (k * b) + k * c * (k * n - k * a)) (k * n * (k * n - k * a)) ≡ nat_le (a * b + c * (n - a)) (n * (n - a)) =
    ap (λ z. nat_le (k * a * (k * b) + k * c * z) (k * n * z)) d ∙ squares k n a b c (n - a) h in
    let e4 : lowest (k * b) (k * n - k * a) ≡ lowest b (n - a) = ap (λ z. lowest (k * b) z) d ∙ lowest-scaled k b (n - a) h in
    cc (e1, e2, e3, e4)

pub load_texts-scaled : (gap : List ℕ) (k n a b c : ℕ) → 0 < k → load_texts gap (k * n) (k * a) (k * b) (k * c) ≡ load_texts gap n a b c
unfolding load_texts
load_texts-scaled gap k n a b c h =
    let e1 : fraction_text (lowest (k * a) (k * n)) ≡ fraction_text (lowest a n) = ap fraction_text (lowest-scaled k a n h) in
    let e2 : fraction_text (lowest (k * b) (k * n)) ≡ fraction_text (lowest b n) = ap fraction_text (lowest-scaled k b n h) in
    let e3 : fraction_text (lowest (k * c) (k * n)) ≡ fraction_text (lowest c n) = ap fraction_text (lowest-scaled k c n h) in
    cc (e1, e2, e3)
