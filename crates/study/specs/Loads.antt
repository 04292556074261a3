-- The loads of a set with a percentage of its high budgets.
use Rattle.std.specs.Prelude.{◌≡◌, ℕ, ◌≤◌, false, nat_le, Option, None, Some, is_some}
use Rattle.mc_task.specs.declared.task.Task.{Task}
use Rattle.mc_model.specs.Loads.{high_high}
use Rattle.mc_model.specs.Test.{rule_of}
use Rattle.load_sum.specs.declared.loads.Loads.{Loads}
use Rattle.study.specs.Stretch.{with_percent}

-- the loads with another numerator of U_HH
abbrev pub with_high : Loads → ℕ → Loads
with_high loads c = record loads { high_high = c }

-- the high budget of a high task at s percent; a low task counts 0
abbrev pub budget_at : ℕ → Task → ℕ
budget_at s t = high_high (with_percent s t)

-- with U_LL = a/n and U_HL = b/n, the test admits exactly the numerators of U_HH from b up to this one
abbrev pub AdmitsUpTo : ℕ → ℕ → ℕ → Option ℕ → Type 0
AdmitsUpTo n a b None = (c : ℕ) → b ≤ c → is_some (rule_of n a b c) ≡ false
AdmitsUpTo n a b (Some most) = (c : ℕ) → b ≤ c → is_some (rule_of n a b c) ≡ nat_le c most
