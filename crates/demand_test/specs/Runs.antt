-- Rows under plain EDF, THE NEWEST ROW FIRST: in `row ∷ g`, g is the part before the row.
use Rattle.std.specs.Prelude.{ℕ, ◌+◌, Bool, false, not, ◌&&◌, ◌||◌, List, [], ◌∷◌, cond, filter, nat_le, nat_lt, ◌==◌, map, reverse}
use Rattle.mc_task.specs.declared.task.JobId.{JobId}
use Rattle.mc_model.specs.Rows.{same_job}
use Rattle.mc_model.specs.Sums.{total}
use Rattle.demand_test.specs.declared.demand.Demand.{Demand}
use Rattle.demand_test.specs.declared.row.EdfRow.{EdfRow}
use Rattle.demand_test.specs.declared.row.EdfRow.TheVariants.{Release, Tick, Idle}
use Rattle.demand_test.specs.DemandSet.{demand_at, deadline_in, budget_in}

-- how many Tick and Idle rows there are: the boundary at which the next row stands
abbrev pub ticks : List EdfRow → ℕ
ticks [] = 0
ticks (Release j ∷ g) = ticks g
ticks (Tick j last ∷ g) = ticks g + 1
ticks (Idle ∷ g) = ticks g + 1

-- a job and its release time
pub record Released : Type 0 where
  pub job : JobId
  pub release : ℕ

-- the released jobs, newest first
abbrev pub released : List EdfRow → List Released
released [] = []
released (Release j ∷ g) = record { job = j; release = ticks g } ∷ released g
released (Tick j last ∷ g) = released g
released (Idle ∷ g) = released g

-- how many released jobs are of task number k
abbrev pub releases : List EdfRow → ℕ → ℕ
releases h k = total (λ x. cond (x.job.task.0 == k) 1 0) (released h)

-- how many ticks the job had
abbrev pub used : List EdfRow → JobId → ℕ
used [] i = 0
used (Release j ∷ g) i = used g i
used (Tick j last ∷ g) i = cond (same_job j i) 1 0 + used g i
used (Idle ∷ g) i = used g i

-- whether a tick of the job is marked as its last
abbrev pub is_marked : List EdfRow → JobId → Bool
is_marked [] i = false
is_marked (Release j ∷ g) i = is_marked g i
is_marked (Tick j last ∷ g) i = (last && same_job j i) || is_marked g i
is_marked (Idle ∷ g) i = is_marked g i

-- whether the job has not ended: no tick of it is marked as its last, and it had fewer ticks than its budget
abbrev pub is_still_pending : List Demand → List EdfRow → Released → Bool
is_still_pending set h x = not (is_marked h x.job) && nat_lt (used h x.job) (budget_in (demand_at set x.job.task.0))

-- the pending jobs: released, and not ended; the newest release first
abbrev pub pending : List Demand → List EdfRow → List Released
pending set h = filter (is_still_pending set h) (released h)

-- the time of a job's deadline: its release time plus its task's deadline
abbrev pub deadline : List Demand → Released → ℕ
deadline set x = x.release + deadline_in (demand_at set x.job.task.0)

-- the part of the rows up to the d-th Tick or Idle row
abbrev pub up_to : ℕ → List EdfRow → List EdfRow
up_to d [] = []
up_to d (row ∷ g) = cond (nat_le (ticks (row ∷ g)) d) (row ∷ g) (up_to d g)

-- whether a released job is late: its deadline has come, and in the rows up to it the job has not ended
abbrev pub is_late : List Demand → List EdfRow → Released → Bool
is_late set h x = nat_le (deadline set x) (ticks h) && is_still_pending set (up_to (deadline set x) h) x

-- the late jobs, in the order of their releases
abbrev pub late : List Demand → List EdfRow → List JobId
late set h = map (λ x. x.job) (reverse (filter (is_late set h) (released h)))
