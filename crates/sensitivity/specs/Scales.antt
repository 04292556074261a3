-- The scales that hold for a set: all from a least to a greatest one.
use Rattle.std.specs.Prelude.{ℕ, ◌*◌, ◌≤◌, ◌↔◌, List}
use Rattle.mc_task.specs.declared.task.Task.{Task}
use Rattle.mc_task.specs.declared.task.Rule.TheVariants.{Virtual}
use Rattle.mc_model.specs.Holds.{Holds}
use Rattle.tick_frac.specs.Fraction.{Fraction}

-- the fraction p/q is between two fractions, ends included
abbrev pub IsBetween : Fraction → Fraction → ℕ → ℕ → Type 0
IsBetween least greatest p q = (least.num * q ≤ p * least.den) × (p * greatest.den ≤ greatest.num * q)

-- for the tasks, exactly the scales between the two fractions hold
abbrev pub HoldBetween : Fraction → Fraction → List Task → Type 0
HoldBetween least greatest tasks =
    (p q : ℕ) → 1 ≤ p → p ≤ q → Holds tasks (Virtual p q) ↔ IsBetween least greatest p q

-- no scale holds for the tasks
abbrev pub NoScaleHolds : List Task → Type 0
NoScaleHolds tasks = (p q : ℕ) → ¬ Holds tasks (Virtual p q)
