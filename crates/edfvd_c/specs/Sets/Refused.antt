-- Why given tasks are refused before they are tested, with the status and the task of each cause.
use Rattle.std.specs.Prelude.{◌≡◌, ◌≢◌, ◌⊎◌, ℕ, None, ◌-◌, ◌<◌, ◌≤◌, List, map, length, Some, slice_get}
use Rattle.mc_task.specs.declared.task.Task.{Task}
use Rattle.mc_task.specs.declared.set.SetFault.{SetFault}
use Rattle.mc_task.specs.declared.set.SetFault.TheVariants.{Empty, TooMany, ZeroNumber, BudgetOrder, SameName}
use Rattle.mc_task.specs.TaskSet.{AreTasks}
use Rattle.mc_task.specs.Faults.{first_fault}
use Rattle.mc_model.specs.Loads.{range_fault}
use Rattle.mc_model.specs.Test.{published}
use Rattle.edfvd_c.specs.declared.sets.given.CTask.{CTask}
use Rattle.edfvd_c.specs.Sets.Given.{AreOf}
use Rattle.edfvd_c.specs.Sets.Named.{names_of}
use Rattle.edfvd_c.specs.Status.{EMPTY, TOO_MANY, ZERO_NUMBER, BUDGET_ORDER, SAME_NAME, LEVEL, PERIODS, MEMORY}

-- the causes: a task of neither level; a fault of the set; a task whose period takes the hyperperiod past 2^60
pub data Cause : Type 0 where
  Level : (task : ℕ) → Cause
  NoSet : SetFault → Cause
  Periods : (task : ℕ) → Cause

-- the status of a fault of a set
abbrev pub fault_status : SetFault → ℕ
fault_status Empty = EMPTY
fault_status (TooMany count) = TOO_MANY
fault_status (ZeroNumber task) = ZERO_NUMBER
fault_status (BudgetOrder task) = BUDGET_ORDER
fault_status (SameName first second) = SAME_NAME

-- the task of a fault of a set, or 0
abbrev pub fault_task : SetFault → ℕ
fault_task Empty = 0
fault_task (TooMany count) = 0
fault_task (ZeroNumber task) = task.0
fault_task (BudgetOrder task) = task.0
fault_task (SameName first second) = second.0

-- the status of a cause
abbrev pub status_of : Cause → ℕ
status_of (Level task) = LEVEL
status_of (NoSet fault) = fault_status fault
status_of (Periods task) = PERIODS

-- the task of a cause, or 0
abbrev pub task_of : Cause → ℕ
task_of (Level task) = task
task_of (NoSet fault) = fault_task fault
task_of (Periods task) = task

-- task number k is the first whose level is neither 0 for low nor 1 for high
pub record IsFirstOfNoLevel (given : List CTask) (k : ℕ) : Type 0 where
  pub some : 1 ≤ k
  pub here : (t : CTask) × (slice_get given (k - 1) ≡ Some t) × (1 < t.level)
  pub before : (i : ℕ) (t : CTask) → i < k - 1 → slice_get given i ≡ Some t → t.level ≤ 1

-- the tasks have the given numbers, and are named by their places
abbrev pub AreNamed : List CTask → List Task → Type 0
AreNamed given tasks = AreOf given tasks × (map (λ (t : Task). t.name) tasks ≡ names_of (length tasks))

-- the given tasks have this cause: a task has no level, or the tasks with these numbers have a fault or are out of range
abbrev pub HasCause : List CTask → Cause → Type 0
HasCause given (Level task) = IsFirstOfNoLevel given task
HasCause given (NoSet fault) = (tasks : List Task) × AreNamed given tasks × (first_fault tasks ≡ Some fault)
HasCause given (Periods task) = (tasks : List Task) × AreOf given tasks × AreTasks tasks × (range_fault tasks ≡ Some task)

-- the given tasks have a cause with this status, which is about this task
pub record HasStatus (given : List CTask) (status task : ℕ) : Type 0 where
  pub cause : Cause
  pub has : HasCause given cause
  pub status_is : status ≡ status_of cause
  pub task_is : task ≡ task_of cause

-- the given tasks are refused with this status, and this task is stored: the one that the status is about, or 0
pub record IsRefused (given : List CTask) (status task : ℕ) : Type 0 where
  -- more than 128 tasks are too many, whatever they are
  pub many : 128 < length given → (status ≡ TOO_MANY) × (task ≡ 0)
  -- of at most 128 the cause is found, unless memory runs out
  pub cause : length given ≤ 128 → status ≢ MEMORY → HasStatus given status task
  pub memory : status ≡ MEMORY → task ≡ 0
  -- only these statuses are returned: those of a cause, from EMPTY to PERIODS, and MEMORY
  pub only : ((EMPTY ≤ status) × (status ≤ PERIODS)) ⊎ (status ≡ MEMORY)

-- the tasks have these numbers, are a set and are within range
pub record AreInRange (given : List CTask) (tasks : List Task) : Type 0 where
  pub numbers : AreOf given tasks
  pub set : AreTasks tasks
  pub range : range_fault tasks ≡ None

-- the given tasks are a set within range that the published test does not admit
abbrev pub AreNotAdmitted : List CTask → Type 0
AreNotAdmitted given = (tasks : List Task) × AreInRange given tasks × (published tasks ≡ None)
