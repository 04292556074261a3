-- Whether a rule holds, and the premise of the 3/4 law, are the same for loads and for their multiples.
use Rattle.std.proofs.Common.{ℕ, ◌+◌, ◌*◌, ◌<◌, ◌≤◌, arith}
use Rattle.std.proofs.Math.Nat.{mul-le-mul_left, le_of_mul-le-mul_left}
use Rattle.mc_task.specs.declared.task.Rule.{Rule}
use Rattle.mc_task.specs.declared.task.Rule.TheVariants.{Plain, Virtual}
use Rattle.mc_model.specs.Holds.{HoldsOver, IsThreeQuartersOver}

-- k times x is at most k times y only where x is at most y
le_of_multiple : (k x y : ℕ) → 0 < k → k * x ≤ k * y → x ≤ y
le_of_multiple k x y above h = le_of_mul-le-mul_left h above

-- a rule that holds for loads holds for their multiples
pub HoldsOver-multiple : (k n a b c : ℕ) (rule : Rule) → HoldsOver n a b c rule → HoldsOver (k * n) (k * a) (k * b) (k * c) rule
HoldsOver-multiple k n a b c Plain h = (let more : k * (a + c) ≤ k * n = mul-le-mul_left k h in omega arith)
HoldsOver-multiple k n a b c (Virtual p q) h =
    let low : k * (p * a + q * b) ≤ k * (p * n) = mul-le-mul_left k (h.2) in
    let high : k * (p * a + q * c) ≤ k * (q * n) = mul-le-mul_left k (h.3) in
    (h.0, h.1, omega arith, omega arith)

-- a rule that holds for multiples holds for the loads
pub HoldsOver-from_multiple : (k n a b c : ℕ) (rule : Rule) → 0 < k → HoldsOver (k * n) (k * a) (k * b) (k * c) rule → HoldsOver n a b c rule
HoldsOver-from_multiple k n a b c Plain above h = le_of_multiple k (a + c) n above (omega arith)
HoldsOver-from_multiple k n a b c (Virtual p q) above h =
    (h.0, h.1, le_of_multiple k (p * a + q * b) (p * n) above (omega arith), le_of_multiple k (p * a + q * c) (q * n) above (omega arith))

-- utilisations of at most 3/4 are at most 3/4 in multiples
pub three_quarters-multiple : (k n a b c : ℕ) → IsThreeQuartersOver n a b c → IsThreeQuartersOver (k * n) (k * a) (k * b) (k * c)
three_quarters-multiple k n a b c h =
    let low : k * (4 * (a + b)) ≤ k * (3 * n) = mul-le-mul_left k (h.0) in
    let high : k * (4 * c) ≤ k * (3 * n) = mul-le-mul_left k (h.1) in
    (omega arith, omega arith)

-- utilisations are at most 3/4 if those of multiples are
pub three_quarters-from_multiple : (k n a b c : ℕ) → 0 < k → IsThreeQuartersOver (k * n) (k * a) (k * b) (k * c) → IsThreeQuartersOver n a b c
three_quarters-from_multiple k n a b c above h = (le_of_multiple k (4 * (a + b)) (3 * n) above (omega arith), le_of_multiple k (4 * c) (3 * n) above (omega arith))
