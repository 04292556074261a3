-- The ticks of each task's current job, and the budgets that they are counted against (Baruah et al., ECRTS
-- 2012; this profile adds that a job stops at its own budget).
use Rattle.std.specs.Prelude.{ℕ, ◌-◌, ◌≤◌, ◌==◌, if◌then◌else◌, List, length, slice_index, slice_index_or, slice_set}
use Rattle.mc_task.specs.declared.task.Task.{Task}
use Rattle.budget_ledger.specs.declared.used.Budget.{Budget}
use Rattle.budget_ledger.specs.declared.used.Spent.{Spent}
use Rattle.budget_ledger.specs.declared.used.Spent.TheVariants.{Below, AtLow, AtOwn}

-- the budgets of each task, and the ticks that its current job has had, task by task
pub record Ledger : Type 0 where
  pub budgets : List Budget
  pub ticks : List ℕ

-- the budgets of a task; its own budget is its high one
abbrev pub budget : Task → Budget
budget t = record { low = t.low; own = t.high }

-- the ledger has task number k
abbrev pub HasTask : Ledger → ℕ → Type 0
HasTask ledger k = (1 ≤ k) × (k ≤ length ledger.ticks)

-- the budgets of task number k
abbrev pub budget_of : Ledger → ℕ → Budget
budget_of ledger k = slice_index_or ledger.budgets (k - 1) (record { low = 0; own = 0 })

-- the ticks that the current job of task number k has used
abbrev pub ticks_of : Ledger → ℕ → ℕ
ticks_of ledger k = slice_index ledger.ticks (k - 1)

-- the ledger after the current job of task number k has used this many ticks
abbrev pub with_ticks : Ledger → ℕ → ℕ → Ledger
with_ticks ledger k ticks = record ledger { ticks = slice_set ledger.ticks (k - 1) ticks }

-- how far this many ticks have come: to the own budget, to the low one, or to neither
abbrev pub spent : Budget → ℕ → Spent
spent b ticks = if ticks == b.own then AtOwn else if ticks == b.low then AtLow else Below
