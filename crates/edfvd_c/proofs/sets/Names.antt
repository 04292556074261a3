-- The names of tasks.
use Rattle.std.proofs.Common.{ℕ, ◌≤◌, [], ◌∷◌, arith}
use Rattle.std.specs.Prelude.{IsTrue}
use Rattle.std.proofs.lemmas.Bool.Decides.{nat_tests}
use Rattle.mc_task.specs.NameForm.{is_name}

-- `t` and three digits are a name
pub is_named : (a b c : ℕ) → (48 ≤ a) × (a ≤ 57) → (48 ≤ b) × (b ≤ 57) → (48 ≤ c) × (c ≤ 57) → IsTrue (is_name (116 ∷ a ∷ b ∷ c ∷ []))
is_named a b c da db dc = let a0 = da.0 in let a1 = da.1 in let b0 = db.0 in let b1 = db.1 in let c0 = dc.0 in let c1 = dc.1 in Prim.grind (arith, nat_tests, a0, a1, b0, b1, c0, c1)
