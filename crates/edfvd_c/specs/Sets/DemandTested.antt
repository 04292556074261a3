-- What the processor-demand test says of given tasks, in numbers.
use Rattle.std.specs.Prelude.{◌≡◌, ◌≢◌, ◌<◌, ◌≤◌, ℕ, List, length, Some, map}
use Rattle.demand_test.specs.declared.demand.Demand.{Demand}
use Rattle.demand_test.specs.declared.fault.DemandCause.{DemandCause}
use Rattle.demand_test.specs.declared.fault.DemandCause.TheVariants.{Header, Empty, TooMany, BadRecord, BadName, SameName, BadNumber, ZeroNumber, DeadlineOrder, Range}
use Rattle.demand_test.specs.declared.fit.Fit.{Fit}
use Rattle.demand_test.specs.declared.fit.Fit.TheVariants.{Within, Past}
use Rattle.demand_test.specs.DemandSet.{IsDemandSet}
use Rattle.demand_test.specs.DemandBound.{IsFit}
use Rattle.demand_test.specs.DemandList.{first_refusal, refused}
use Rattle.demand_test.specs.Deadlines.{NoneLateIfWithin, LateIfPast}
use Rattle.edfvd_c.specs.Sets.Named.{names_of}
use Rattle.edfvd_c.specs.declared.sets.demand.CDemandTask.{CDemandTask}
use Rattle.edfvd_c.specs.declared.sets.demand.CDemandTest.{CDemandTest}
use Rattle.edfvd_c.specs.Status.{EMPTY, TOO_MANY, ZERO_NUMBER, SAME_NAME, PERIODS, MEMORY, DEADLINE_ORDER, ARGUMENT}

-- a task's numbers
abbrev pub numbers_of : Demand → CDemandTask
numbers_of t = record { period = t.period; deadline = t.deadline; budget = t.budget }

-- the tasks have these numbers, in order
abbrev pub AreOf : List CDemandTask → List Demand → Type 0
AreOf given tasks = map numbers_of tasks ≡ given

-- the numbers of a result: `past` 0 with the hyperperiod, or `past` 1 with the least length in which the tasks
-- ask for more ticks than it has, and what they ask for
abbrev pub in_numbers : Fit → CDemandTest
in_numbers (Within length) = record { past = 0; task = 0; length = length; demand = 0 }
in_numbers (Past length demand) = record { past = 1; task = 0; length = length; demand = demand }

-- the tasks have these numbers and are a set, and this is the result of the test: within, and no job is late in
-- any schedule of them, or past, and a job is late in some
pub record IsDemandTested (given : List CDemandTask) (t : CDemandTest) : Type 0 where
  pub tasks : List Demand
  pub numbers : AreOf given tasks
  pub set : IsDemandSet tasks
  pub fit : Fit
  pub result : t ≡ in_numbers fit
  pub tested : IsFit tasks fit
  pub in_time : NoneLateIfWithin tasks fit
  pub late : LateIfPast tasks fit

-- the status of a cause; a list of tasks is never refused for a cause of status ARGUMENT
abbrev pub status_of : DemandCause → ℕ
status_of Empty = EMPTY
status_of TooMany = TOO_MANY
status_of SameName = SAME_NAME
status_of ZeroNumber = ZERO_NUMBER
status_of DeadlineOrder = DEADLINE_ORDER
status_of Range = PERIODS
status_of Header = ARGUMENT
status_of BadRecord = ARGUMENT
status_of BadName = ARGUMENT
status_of BadNumber = ARGUMENT

-- tasks of these numbers, named by their places, have a cause with this status, first at the task of this number
pub record HasStatus (given : List CDemandTask) (status task : ℕ) : Type 0 where
  pub tasks : List Demand
  pub numbers : AreOf given tasks
  pub names : map (λ (t : Demand). t.name) tasks ≡ names_of (length tasks)
  pub cause : DemandCause
  pub first : first_refusal tasks ≡ Some (refused task cause)
  pub number : status ≡ status_of cause

-- the given tasks are refused with this status, and this task is stored: the one that the status is about, or 0
pub record IsRefused (given : List CDemandTask) (status task : ℕ) : Type 0 where
  -- more than 128 tasks are too many, whatever they are
  pub many : 128 < length given → (status ≡ TOO_MANY) × (task ≡ 0)
  -- of at most 128 the cause is found, unless memory runs out
  pub cause : length given ≤ 128 → status ≢ MEMORY → HasStatus given status task
  pub memory : status ≡ MEMORY → task ≡ 0

-- a result with the task of a refusal, and no other number
abbrev pub refused_at : ℕ → CDemandTest
refused_at task = record { past = 0; task = task; length = 0; demand = 0 }
