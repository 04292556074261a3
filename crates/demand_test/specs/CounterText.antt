-- The text of a counterexample: a line for each row, and one for the first late job. The newest row stands
-- first.
use Rattle.std.specs.Prelude.{◌≡◌, ℕ, List, [], ◌∷◌, ◌++◌, codes, decimal, Option, None, Some}
use Rattle.mc_task.specs.declared.task.JobId.{JobId}
use Rattle.demand_test.specs.declared.demand.Demand.{Demand}
use Rattle.demand_test.specs.declared.row.EdfRow.{EdfRow}
use Rattle.demand_test.specs.declared.row.EdfRow.TheVariants.{Release, Tick, Idle}
use Rattle.demand_test.specs.DemandSet.{demand_at}
use Rattle.demand_test.specs.Runs.{ticks, late}
use Rattle.demand_test.specs.Counter.{IsCounter, SomeLate}

-- the name of a task; empty if there is no task
abbrev pub name_in : Option Demand → List ℕ
name_in None = []
name_in (Some t) = t.name

-- the words for a job: a space, its task's name, a space, and the job's number
abbrev pub job_text : List Demand → JobId → List ℕ
job_text set j = codes " " ++ (name_in (demand_at set j.task.0) ++ (codes " " ++ decimal j.count))

-- the line of a row after n ticks
unfoldable pub row_line : List Demand → ℕ → EdfRow → List ℕ
row_line set tick (Release j) =
    codes "release" ++ (job_text set j ++ (codes " at " ++ (decimal tick ++ codes "\n")))
row_line set tick (Tick j last) = codes "tick " ++ (decimal tick ++ (job_text set j ++ codes "\n"))
row_line set tick Idle = codes "idle " ++ (decimal tick ++ codes "\n")

-- the lines of the rows, in their order
abbrev pub lines : List Demand → List EdfRow → List ℕ
lines set [] = []
lines set (row ∷ g) = lines set g ++ row_line set (ticks g) row

-- the first of these jobs, if any
abbrev pub first_of : List JobId → Option JobId
first_of [] = None
first_of (j ∷ js) = Some j

-- the line of a late job, if there is one
abbrev pub late_text : List Demand → Option JobId → List ℕ
late_text set None = []
late_text set (Some j) = codes "late" ++ (job_text set j ++ codes "\n")

-- the text of a counterexample: its rows and its first late job
abbrev pub counter_text : List Demand → List EdfRow → List ℕ
counter_text set h = lines set h ++ late_text set (first_of (late set h))

-- the text shows a counterexample of n ticks with a late job
pub record ShowsCounter (set : List Demand) (n : ℕ) (text : List ℕ) : Type 0 where
  pub h : List EdfRow
  pub counter : IsCounter set n h
  pub late : SomeLate set h
  pub shown : text ≡ counter_text set h
