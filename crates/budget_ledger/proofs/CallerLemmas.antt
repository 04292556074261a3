-- For callers: the ticks of each task after the ticks of one are set.
use Rattle.std.proofs.Common.{◌≡◌, ◌≢◌, ℕ, ◌-◌, ◌≤◌, length, arith}
use Rattle.std.proofs.lemmas.List.{get_or-set_same, get_or-set_other, length-set}
use Rattle.budget_ledger.specs.Ledger.{Ledger, ticks_of, with_ticks, HasTask}

-- the task whose ticks are set has them
pub ticks_of-this : (ledger : Ledger) (k n : ℕ) → HasTask ledger k → ticks_of (with_ticks ledger k n) k ≡ n
ticks_of-this ledger k n there =
    let first : 1 ≤ k = there.0 in
    let last : k ≤ length ledger.ticks = there.1 in
    get_or-set_same ledger.ticks (k - 1) n 0 (omega arith)

-- setting the ticks of a task leaves the ticks of all other tasks as they are
pub ticks_of-other : (ledger : Ledger) (k n j : ℕ) → 1 ≤ k → 1 ≤ j → j ≢ k → ticks_of (with_ticks ledger k n) j ≡ ticks_of ledger j
ticks_of-other ledger k n j first some other = get_or-set_other ledger.ticks (k - 1) (j - 1) n 0 (omega (arith, other))

-- setting the ticks of a task leaves the tasks of the ledger as they are
pub HasTask-with_ticks : (ledger : Ledger) (k n j : ℕ) → HasTask ledger j → HasTask (with_ticks ledger k n) j
HasTask-with_ticks ledger k n j there = (there.0, let last : j ≤ length ledger.ticks = there.1 in omega (arith, length-set ledger.ticks (k - 1) n))
