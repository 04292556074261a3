-- The utilisations of a set (Baruah et al., ECRTS 2012), as whole numbers over the product of the periods:
-- U_LL = load_ll / product, U_HL = load_hl / product and U_HH = load_hh / product.
use Rattle.std.specs.Prelude.{ℕ, ◌+◌, ◌*◌, ◌/◌, ◌≤◌, ◌^◌, nat_lt, if◌then◌else◌, List, [], ◌∷◌, Option, Some, None}
use Prim.Native.Nat.{◌∣◌}
use Rattle.std.specs.List.{AllByRecursion}
use Rattle.mc_task.specs.declared.task.Task.{Task}
use Rattle.mc_task.specs.declared.task.Level.{Level}
use Rattle.mc_task.specs.declared.task.Level.TheVariants.{Low, High}
use Rattle.tick_frac.specs.Numbers.{lcm}

-- the first number at the low level, the second at the high one
abbrev pub by_level : Level → ℕ → ℕ → ℕ
by_level Low low high = low
by_level High low high = high

-- a low task's budget, and 0 for a high task
abbrev pub low_low : Task → ℕ
low_low t = by_level t.level t.low 0

-- a high task's low budget, and 0 for a low task
abbrev pub high_low : Task → ℕ
high_low t = by_level t.level 0 t.low

-- a high task's high budget, and 0 for a low task
abbrev pub high_high : Task → ℕ
high_high t = by_level t.level 0 t.high

-- the product of all periods
abbrev pub product : List Task → ℕ
product [] = 1
product (t ∷ ts) = t.period * product ts

-- how many of n ticks the tasks ask for, n a multiple of each period: the sum of `budget * (n / period)`
abbrev pub load : (Task → ℕ) → ℕ → List Task → ℕ
load budget n [] = 0
load budget n (t ∷ ts) = budget t * (n / t.period) + load budget n ts

-- the load of the low tasks
abbrev pub load_ll : List Task → ℕ
load_ll set = load low_low (product set) set

-- the load of the high tasks by their low budgets
abbrev pub load_hl : List Task → ℕ
load_hl set = load high_low (product set) set

-- the load of the high tasks by their high budgets
abbrev pub load_hh : List Task → ℕ
load_hh set = load high_high (product set) set

-- the least common multiple of a number and the periods
unfoldable pub lcm_from : ℕ → List Task → ℕ
lcm_from m [] = m
lcm_from m (t ∷ ts) = lcm_from (lcm m t.period) ts

-- the hyperperiod: the least common multiple of the periods
abbrev pub hyperperiod : List Task → ℕ
hyperperiod = lcm_from 1

-- m is the least common multiple of the periods: their common multiple that divides each common multiple
pub record IsLeastCommon (set : List Task) (m : ℕ) : Type 0 where
  pub common : AllByRecursion (λ t. t.period ∣ m) set
  pub least : (k : ℕ) → AllByRecursion (λ t. t.period ∣ k) set → m ∣ k

-- the greatest hyperperiod that is within range
abbrev pub most_lcm : ℕ
most_lcm = 2 ^ 60

-- the tasks are within range: their hyperperiod is at most 2^60
abbrev pub IsWithinRange : List Task → Type 0
IsWithinRange set = hyperperiod set ≤ most_lcm

-- the number of the first task whose period takes m, the least common multiple so far, past the limit, if the
-- list's first task has number k
unfoldable pub range_fault_from : ℕ → ℕ → List Task → Option ℕ
range_fault_from k m [] = None
range_fault_from k m (t ∷ ts) =
    if nat_lt most_lcm (lcm m t.period) then Some k else range_fault_from (k + 1) (lcm m t.period) ts

-- the number of the first task whose period takes the hyperperiod past the limit, if any
abbrev pub range_fault : List Task → Option ℕ
range_fault = range_fault_from 1 1
