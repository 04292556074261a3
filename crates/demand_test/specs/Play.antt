-- The rows of the counterexample so far, newest first, and the pending jobs, oldest first, while it is
-- played.
use Rattle.std.specs.Prelude.{◌≡◌, ℕ, ◌+◌, ◌-◌, ◌*◌, ◌<◌, ◌≤◌, false, List, [], ◌∷◌, length, Option, Some, None, if◌then◌else◌, cond, nat_le, nat_lt, map, remove, reverse, slice_get, slice_set, ◌⊎◌}
use Rattle.std.specs.List.{AllByRecursion}
use Rattle.mc_task.specs.declared.task.JobId.{JobId}
use Rattle.demand_test.specs.declared.demand.Demand.{Demand}
use Rattle.demand_test.specs.declared.row.EdfRow.{EdfRow}
use Rattle.demand_test.specs.declared.play.Job.{Job}
use Rattle.demand_test.specs.declared.play.Place.{Place}
use Rattle.demand_test.specs.DemandSet.{IsIn, demand_at, period_in, budget_in}
use Rattle.demand_test.specs.Runs.{ticks, Released, released, releases, used, is_marked, pending, deadline}
use Rattle.demand_test.specs.EdfRuns.{IsEdfSchedule}
use Rattle.demand_test.specs.Counter.{AtMultiples, InTaskOrder, LowestFirst}

-- a pending job, as a released one
abbrev pub as_released : Job → Released
as_released p = record { job = p.id; release = p.release }

-- p is due earlier than q, or at the same time with no higher task number
pub record GoesFirst (p q : Job) : Type 0 where
  pub earliest : p.due ≤ q.due
  pub tie : q.due ≡ p.due → p.id.task.0 ≤ q.id.task.0

-- the job stands at its index in the list
abbrev pub IsAt : List Job → Place → Type 0
IsAt js place = slice_get js place.index ≡ Some place.job

-- the first of two jobs: it is one of them, and goes before both
pub record IsFirstOf (p q best : Place) : Type 0 where
  pub one : (best ≡ p) ⊎ (best ≡ q)
  pub before_p : GoesFirst best.job p.job
  pub before_q : GoesFirst best.job q.job

-- the first of all jobs: it is one of them, and goes before each
pub record IsFirst (js : List Job) (best : Place) : Type 0 where
  pub here : IsAt js best
  pub first : AllByRecursion (λ p. GoesFirst best.job p) js

-- a job with this many ticks left
abbrev pub with_left : Job → ℕ → Job
with_left p l = record { id = p.id; release = p.release; due = p.due; left = l }

-- the jobs after n ticks of the job at this place, without that job if they were its last
abbrev pub spent_at : ℕ → Place → List Job → List Job
spent_at n place js =
    if nat_lt n place.job.left
    then slice_set js place.index (with_left place.job (place.job.left - n))
    else remove js place.index

-- the first of the jobs whose deadline has come by n
abbrev pub first_due : ℕ → List Job → Option JobId
first_due n [] = None
first_due n (p ∷ ps) = if nat_le p.due n then Some p.id else first_due n ps

-- n is the first multiple of p that is not below c
abbrev pub IsFirstFrom : ℕ → ℕ → ℕ → Type 0
IsFirstFrom c n p = (c ≤ n) × (n < c + p)

-- the rows have come to boundary b, at which the first i tasks had their turn to release
pub record Between (set : List Demand) (b i : ℕ) (h : List EdfRow) (js : List Job) : Type 0 where
  pub run : IsEdfSchedule set h
  pub boundary : ticks h ≡ b
  pub multiples : AtMultiples set h
  pub order : InTaskOrder (released h)
  pub whole : (j : JobId) → is_marked h j ≡ false
  pub lowest : LowestFirst set h
  pub placed : AllByRecursion (λ x. (x.release ≤ b) × (x.release ≡ b → x.job.task.0 ≤ i)) (released h)
  pub next : (k : ℕ) → IsIn set k
      → IsFirstFrom (cond (nat_le k i) (b + 1) b) (releases h k * period_in (demand_at set k))
      (period_in (demand_at set k))
  pub jobs : reverse (map as_released js) ≡ pending set h
  pub due : AllByRecursion (λ p. p.due ≡ deadline set (as_released p)) js
  pub left : AllByRecursion
      (λ p. (1 ≤ p.left) × (p.left + used h p.id ≡ budget_in (demand_at set p.id.task.0))) js

-- the rows end after the releases of boundary b, and no task's next release comes before boundary c
pub record Awaits (set : List Demand) (b c : ℕ) (h : List EdfRow) (js : List Job) : Type 0 where
  pub so : Between set b (length set) h js
  pub away : (k : ℕ) → IsIn set k → c ≤ releases h k * period_in (demand_at set k)

-- no task releases from boundary b to boundary c: before c the rows end after the releases of b, and at c
-- before the releases of c
pub record OnTheWay (set : List Demand) (b c : ℕ) (h : List EdfRow) (js : List Job) : Type 0 where
  pub within : b ≤ c
  pub before : b < c → Awaits set b c h js
  pub come : b ≡ c → Between set b 0 h js
