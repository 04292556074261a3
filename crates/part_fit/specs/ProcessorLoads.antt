-- The loads of each processor's tasks (Baruah et al., ECRTS 2012) while tasks are placed.
use Rattle.std.specs.Prelude.{◌≡◌, ℕ, suc, ◌+◌, ◌*◌, ◌/◌, ◌<◌, ◌≤◌, true, false, List, [], ◌∷◌, ◌++◌, length, slice_get, Option, None, Some}
use Rattle.mc_task.specs.declared.task.Task.{Task}
use Rattle.mc_task.specs.TaskSet.{AreTasks}
use Rattle.tick_frac.specs.Numbers.{lcm}
use Rattle.mc_model.specs.Loads.{load, hyperperiod, most_lcm, low_low, high_low, high_high}
use Rattle.load_sum.specs.declared.loads.Loads.{Loads}
use Rattle.part_fit.specs.Parts.{part_of}
use Rattle.part_fit.specs.FirstFit.{fits, processor_for}

-- the loads of no tasks
abbrev pub no_loads : Loads
no_loads = record { lcm = 1; low_low = 0; high_low = 0; high_high = 0 }

-- these are the loads of the tasks, over their hyperperiod
pub record AreLoadsOf (tasks : List Task) (loads : Loads) : Type 0 where
  pub lcm : loads.lcm ≡ hyperperiod tasks
  pub low_low : loads.low_low ≡ load low_low loads.lcm tasks
  pub high_low : loads.high_low ≡ load high_low loads.lcm tasks
  pub high_high : loads.high_high ≡ load high_high loads.lcm tasks

-- the numbers are at most 2^60, as they are for admitted tasks
pub record AreSmall (loads : Loads) : Type 0 where
  pub above : 0 < loads.lcm
  pub lcm : loads.lcm ≤ most_lcm
  pub low_low : loads.low_low ≤ most_lcm
  pub high_low : loads.high_low ≤ most_lcm
  pub high_high : loads.high_high ≤ most_lcm

-- a load over n, taken over a multiple m of n, with the load of one more task
abbrev pub load_over : ℕ → ℕ → ℕ → ℕ → ℕ → ℕ
load_over n m load budget period = load * (m / n) + budget * (m / period)

-- the loads with those of one more task
abbrev pub with_task : Loads → Task → Loads
with_task loads t = record {
  lcm = lcm loads.lcm t.period;
  low_low = load_over loads.lcm (lcm loads.lcm t.period) loads.low_low (low_low t) t.period;
  high_low = load_over loads.lcm (lcm loads.lcm t.period) loads.high_low (high_low t) t.period;
  high_high = load_over loads.lcm (lcm loads.lcm t.period) loads.high_high (high_high t) t.period;
}

-- the tasks have these loads, and with one more task they are the tasks of a set
pub record IsNext (tasks : List Task) (loads : Loads) (t : Task) : Type 0 where
  pub have : AreLoadsOf tasks loads
  pub together : AreTasks (tasks ++ t ∷ [])

-- the loads belong to some tasks that with one more task are the tasks of a set
pub record IsNextOfSome (loads : Loads) (t : Task) : Type 0 where
  pub tasks : List Task
  pub next : IsNext tasks loads t

-- the tasks fit together and these are their loads; or they do not fit
abbrev pub IsTried : List Task → Option Loads → Type 0
IsTried tasks None = fits tasks ≡ false
IsTried tasks (Some loads) = (fits tasks ≡ true) × AreLoadsOf tasks loads

-- the loads of each processor, in order, if these are the processors of the set's first tasks
abbrev pub AreProcessorLoads : List Task → List ℕ → List Loads → Type 0
AreProcessorLoads set of all = (i : ℕ) (loads : Loads) → slice_get all i ≡ Some loads
    → AreLoadsOf (part_of set of (suc i)) loads × AreSmall loads

-- the loads of all processors are right, and the task is the next to be placed
pub record IsToPlace (set : List Task) (of : List ℕ) (all : List Loads) (t : Task) : Type 0 where
  pub are : AreTasks set
  pub next : slice_get set (length of) ≡ Some t
  pub loads : AreProcessorLoads set of all

-- the loads of all processors are right for some set, of which the task is the next to be placed
pub record IsToPlaceInSome (all : List Loads) (t : Task) : Type 0 where
  pub set : List Task
  pub of : List ℕ
  pub place : IsToPlace set of all t

-- the index of the least processor that takes the task, and its loads then; none if no processor takes it
abbrev pub IsPlace : List Task → List ℕ → List Loads → Task → Option (ℕ × Loads) → Type 0
IsPlace set of all t None = processor_for set of t (length all) ≡ None
IsPlace set of all t (Some found) =
    (processor_for set of t (length all) ≡ Some (suc found.0))
    × AreLoadsOf (part_of set of (suc found.0) ++ t ∷ []) found.1 × (found.0 < length all)
