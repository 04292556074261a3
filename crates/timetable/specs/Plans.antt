-- The plans that a core may have, and what holds of its rows under them.
use Rattle.std.specs.Prelude.{◌≡◌, ℕ, ◌+◌, ◌≤◌, List, ◌++◌, length}
use Rattle.mc_task.specs.declared.task.Rule.{Rule}
use Rattle.mc_task.specs.declared.task.Task.{Task}
use Rattle.mc_model.specs.declared.row.Row.{Row}
use Rattle.mc_model.specs.declared.work.WorkRow.{WorkRow}
use Rattle.mc_model.specs.Core.{State, settle}
use Rattle.mc_model.specs.Follows.{Follows, arrivals, planned}
use Rattle.mc_model.specs.Work.{IsWork}
use Rattle.mode_core.specs.Events.{job_in}
use Rattle.timetable.specs.declared.plan.Plan.{Plan}
use Rattle.timetable.specs.declared.plan.Plan.TheVariants.{Free, Rows}
use Rattle.timetable.specs.Ticks.{is_last}

-- the work is a list for the set, there are 1 to 1,000,000 ticks, and the core has capacity for each tick and
-- each release
pub record IsSchedule (s : State) (work : List WorkRow) (n : ℕ) : Type 0 where
  pub is_work : IsWork s.set work
  pub some : 1 ≤ n
  pub most : n ≤ 1000000
  pub places : n + length work ≤ s.places

-- the plan is free, or is a valid one for this core
abbrev pub IsPlanFor : State → Plan → Type 0
IsPlanFor s Free = Unit {0}
IsPlanFor s (Rows work n) = IsSchedule s work n

-- the rows follow from the set, the rule, the work and the number of ticks, and no other rows do
pub record IsTheTrace (set : List Task) (rule : Rule) (work : List WorkRow) (n : ℕ)
    (rows : List Row) : Type 0 where
  pub follows : Follows set rule work n rows
  pub only : (h : List Row) → Follows set rule work n h → h ≡ rows

-- the core's rows are the one trace that its set and rule and the plan determine
abbrev pub IsTraceOfPlan : Plan → State → Type 0
IsTraceOfPlan Free s = ⊥
IsTraceOfPlan (Rows work n) s = IsTheTrace s.set s.rule work n s.rows

-- each release that the plan asks for was taken
abbrev pub HasTaken : Plan → ℕ → Type 0
HasTaken Free taken = ⊥
HasTaken (Rows work n) taken = taken ≡ length (planned work n)

-- the rows, then the granted tick, done if it is the last that its job needs, then the held releases
abbrev pub settled_by : List WorkRow → State → List Row
settled_by work s = settle s (is_last work s.rows (job_in s.out))

-- the rows begin the one trace that the set, the rule, the work and the number of ticks determine
pub record Begins (set : List Task) (rule : Rule) (work : List WorkRow) (n : ℕ) (g : List Row) : Type 0 where
  pub later : List Row
  pub trace : IsTheTrace set rule work n (later ++ g)

-- the core keeps to its plan so far; the releases that were taken are those of its rows and the held ones
pub record Keeps (work : List WorkRow) (n taken : ℕ) (s : State) : Type 0 where
  pub begins : Begins s.set s.rule work n (settled_by work s)
  pub taken_are : taken ≡ length (arrivals (settled_by work s))

-- the core keeps to its plan; under a free plan no release counts as taken
abbrev pub IsOnPlan : Plan → ℕ → State → Type 0
IsOnPlan Free taken s = taken ≡ 0
IsOnPlan (Rows work n) taken s = Keeps work n taken s
