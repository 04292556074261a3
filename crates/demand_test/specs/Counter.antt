-- The counterexample for a set that is past: a schedule in which all tasks release at once, and then as often
-- as they may. The newest row stands first.
use Rattle.std.specs.Prelude.{◌≡◌, ◌≢◌, ℕ, ◌+◌, ◌*◌, ◌<◌, ◌≤◌, false, List, [], ◌∷◌, Contains}
use Rattle.std.specs.List.{AllByRecursion}
use Rattle.mc_task.specs.declared.task.JobId.{JobId}
use Rattle.demand_test.specs.declared.demand.Demand.{Demand}
use Rattle.demand_test.specs.declared.row.EdfRow.{EdfRow}
use Rattle.demand_test.specs.declared.row.EdfRow.TheVariants.{Release, Tick, Idle}
use Rattle.demand_test.specs.DemandSet.{IsIn, demand_at, period_in}
use Rattle.demand_test.specs.Runs.{ticks, Released, released, releases, is_marked, pending, deadline, late}
use Rattle.demand_test.specs.EdfRuns.{IsEdfSchedule}

-- each job is released at a multiple of its task's period: the first at 0, the c-th c - 1 periods later
abbrev pub AtMultiples : List Demand → List EdfRow → Type 0
AtMultiples set h = AllByRecursion
    (λ x. x.release + period_in (demand_at set x.job.task.0) ≡ x.job.count * period_in (demand_at set x.job.task.0))
    (released h)

-- released jobs, the newest first: jobs of one boundary stand in task order
abbrev pub InTaskOrder : List Released → Type 0
InTaskOrder [] = Unit {0}
InTaskOrder (x ∷ xs) =
    AllByRecursion (λ y. y.release ≡ x.release → y.job.task.0 < x.job.task.0) xs × InTaskOrder xs

-- the job is pending, and no pending job with the same deadline has a lower task number
pub record IsLowest (set : List Demand) (g : List EdfRow) (j : JobId) : Type 0 where
  pub x : Released
  pub job : x.job ≡ j
  pub live : Contains (pending set g) x
  pub lowest : AllByRecursion (λ y. deadline set y ≡ deadline set x → j.task.0 ≤ y.job.task.0) (pending set g)

-- each tick goes to the lowest task number among the jobs with the earliest deadline
abbrev pub LowestFirst : List Demand → List EdfRow → Type 0
LowestFirst set [] = Unit {0}
LowestFirst set (Release j ∷ g) = LowestFirst set g
LowestFirst set (Tick j last ∷ g) = IsLowest set g j × LowestFirst set g
LowestFirst set (Idle ∷ g) = LowestFirst set g

-- the schedule of n ticks in which each task releases at every multiple of its period below n, every job uses
-- its whole budget, and ties go to the lowest task number
pub record IsCounter (set : List Demand) (n : ℕ) (h : List EdfRow) : Type 0 where
  pub run : IsEdfSchedule set h
  pub ticks : ticks h ≡ n
  pub multiples : AtMultiples set h
  -- no task's next release would come before n
  pub every : (k : ℕ) → IsIn set k → n ≤ releases h k * period_in (demand_at set k)
  -- no release comes at n or later
  pub below : AllByRecursion (λ x. x.release < n) (released h)
  pub order : InTaskOrder (released h)
  -- no tick is marked as its job's last
  pub whole : (i : JobId) → is_marked h i ≡ false
  pub lowest : LowestFirst set h

-- law: a set has at most one counterexample of n ticks
abbrev pub OneCounter : List Demand → ℕ → Type 0
OneCounter set n = (h g : List EdfRow) → IsCounter set n h → IsCounter set n g → h ≡ g

-- some job is late
abbrev pub SomeLate : List Demand → List EdfRow → Type 0
SomeLate set h = late set h ≢ []
