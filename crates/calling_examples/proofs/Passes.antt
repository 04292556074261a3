-- The passes of two tasks.
use Rattle.std.proofs.Common.{◌≡◌, ◌≢◌, ℕ, ◌≤◌, ◌==◌, ◌||◌, Bool, true, false, List, [], ◌∷◌, ◌++◌, refl, sym, ◌∙◌, arith}
use Rattle.std.proofs.lemmas.Bool.{eqb-false}
use mathlib.Core.Logic.{dite}
use native.Mathlib.Decide.{ℕ_discrete}
use Rattle.mc_model.proofs.Booleans.{or_left, or_right}
use Rattle.executive.specs.declared.pass.TaskPass.{TaskPass}
use Rattle.executive.specs.Passes.{of_pass}
use Rattle.executive.specs.Closing.{has_pass}

neither : (a b : Bool) → a ≡ false → b ≡ false → (a || b) ≡ false
neither true b p q = p
neither false b p q = q

-- a list without a pass of the task has none in either of its two parts
before : (xs ys : List TaskPass) (k : ℕ) → has_pass (xs ++ ys) k ≡ false → has_pass xs k ≡ false
before [] ys k h = refl
before (x ∷ xs) ys k h =
    let here = or_left ((of_pass x).task == k) (has_pass (xs ++ ys) k) h in
    let there = or_right ((of_pass x).task == k) (has_pass (xs ++ ys) k) h in
    neither ((of_pass x).task == k) (has_pass xs k) here (before xs ys k there)

after : (xs ys : List TaskPass) (k : ℕ) → has_pass (xs ++ ys) k ≡ false → has_pass ys k ≡ false
after [] ys k h = h
after (x ∷ xs) ys k h = after xs ys k (or_right ((of_pass x).task == k) (has_pass (xs ++ ys) k) h)

second : (k : ℕ) → 1 ≤ k → k ≤ 2 → k ≢ 1 → k ≡ 2
second k low high other = omega (arith, low, high, other)

-- a list to which a pass of the first task and one of the second were added lacks neither
pub none_missing : (list : List TaskPass) (p q : TaskPass) (k : ℕ) → (of_pass p).task ≡ 1 → (of_pass q).task ≡ 2 → 1 ≤ k → k ≤ 2 → has_pass ((list ++ p ∷ []) ++ q ∷ []) k ≡ false → ⊥
none_missing list p q k one two low high none =
    let front = before (list ++ p ∷ []) (q ∷ []) k none in
    let not_one = eqb-false (of_pass p).task k (or_left ((of_pass p).task == k) false (after list (p ∷ []) k front)) in
    let not_two = eqb-false (of_pass q).task k (or_left ((of_pass q).task == k) false (after (list ++ p ∷ []) (q ∷ []) k none)) in
    dite (ℕ_discrete k 1) (λ (same : k ≡ 1). not_one (one ∙ sym same)) (λ (other : k ≢ 1). not_two (two ∙ sym (second k low high other)))
