-- The stretch of a set: the greatest percentage of its high budgets at which the published test admits it.
use Rattle.std.specs.Prelude.{◌≡◌, ℕ, zero, suc, ◌*◌, ◌/◌, ◌<◌, ◌≤◌, min, max, Bool, true, false, if◌then◌else◌, List, map, Option, None, Some, is_some}
use Rattle.mc_task.specs.declared.task.Task.{Task}
use Rattle.mc_task.specs.TaskSet.{AreTasks}
use Rattle.mc_model.specs.Loads.{by_level}
use Rattle.mc_model.specs.Test.{published}

-- s percent of a high budget, rounded down, but at least the low budget and at most 4,294,967,295
abbrev pub percent : ℕ → ℕ → ℕ → ℕ
percent low high s = max low (min (high * s / 100) 4294967295)

-- the task with s percent of its high budget; a low task stays as it is
abbrev pub with_percent : ℕ → Task → Task
with_percent s t = record t { high = by_level t.level t.high (percent t.low t.high s) }

-- the set with s percent of its high budgets
abbrev pub at_percent : List Task → ℕ → List Task
at_percent set s = map (with_percent s) set

-- whether the published test admits the set at s percent
abbrev pub is_admitted_at : List Task → ℕ → Bool
is_admitted_at set s = is_some (published (at_percent set s))

-- the greatest number below n that passes, if any
unfoldable pub greatest_below : (ℕ → Bool) → ℕ → Option ℕ
greatest_below passes zero = None
greatest_below passes (suc n) = if passes n then Some n else greatest_below passes n

-- the greatest percentage up to 1000 at which the set is admitted, if any
abbrev pub stretch : List Task → Option ℕ
stretch set = greatest_below (is_admitted_at set) 1001

-- the set is admitted at this percentage and at none above it up to 1000; or, if none is given, at none up to
-- 1000
abbrev pub IsStretch : List Task → Option ℕ → Type 0
IsStretch set None = (s : ℕ) → s ≤ 1000 → is_admitted_at set s ≡ false
IsStretch set (Some s) =
    (s ≤ 1000) × (is_admitted_at set s ≡ true) × ((r : ℕ) → s < r → r ≤ 1000 → is_admitted_at set r ≡ false)

-- law: a set that is admitted at s percent is admitted at each lower percentage
abbrev pub LessIsAdmitted : Type 0
LessIsAdmitted = (set : List Task) (r s : ℕ) → AreTasks set → r ≤ s → is_admitted_at set s ≡ true
    → is_admitted_at set r ≡ true
