-- The scheduler's state, and what each event does to it. Rows and held releases stand with the newest first.
use Rattle.std.specs.Prelude.{◌≡◌, ℕ, ◌+◌, Bool, not, ◌&&◌, ◌||◌, List, [], ◌∷◌, Option, Some, None, length, cond, nat_lt, ◌==◌, option_map}
use Rattle.mc_task.specs.declared.task.Rule.{Rule}
use Rattle.mc_task.specs.declared.task.Task.{Task}
use Rattle.mc_task.specs.declared.task.JobId.{JobId}
use Rattle.mc_task.specs.TaskSet.{task_at}
use Rattle.mc_model.specs.TaskNumbers.{period_in, is_high_in}
use Rattle.mc_model.specs.Rows.{ticks, used, releases, next_release}
use Rattle.mc_model.specs.Mode.{high_mode}
use Rattle.mc_model.specs.Pending.{KeptRelease, pending}
use Rattle.mc_model.specs.Key.{key}
use Rattle.mc_model.specs.Legal.{how_of, Legal}
use Rattle.mc_model.specs.declared.row.How.{How}
use Rattle.mc_model.specs.declared.row.How.TheVariants.{Done}
use Rattle.mc_model.specs.declared.row.Row.{Row}
use Rattle.mc_model.specs.declared.row.Row.TheVariants.{Release, Tick}

-- a scheduler's state: its set and rule, how many rows it may have, its rows, the job with a granted tick
-- that has no outcome yet, and the releases that are held until that tick has one
pub record State : Type 0 where
  pub set : List Task
  pub rule : Rule
  pub places : ℕ
  pub rows : List Row
  pub out : Option JobId
  pub held : List JobId

-- i runs before j: its key is less, or the keys are equal and its task's number is lower
abbrev pub runs_before : List Task → Rule → Bool → KeptRelease → KeptRelease → Bool
runs_before set rule high i j =
    nat_lt (key set rule high i) (key set rule high j)
    || ((key set rule high i == key set rule high j) && nat_lt i.job.task.0 j.job.task.0)

-- the one of two jobs that runs first; the only job if there is no second
abbrev pub first_of_two : List Task → Rule → Bool → KeptRelease → Option KeptRelease → KeptRelease
first_of_two set rule high i None = i
first_of_two set rule high i (Some j) = cond (runs_before set rule high j i) j i

-- the job of the list that runs first; none if the list is empty
abbrev pub first_to_run : List Task → Rule → Bool → List KeptRelease → Option KeptRelease
first_to_run set rule high [] = None
first_to_run set rule high (i ∷ is) = Some (first_of_two set rule high i (first_to_run set rule high is))

-- the pending job with the least key; of equal keys, the one with the lowest task number
abbrev pub chosen : List Task → Rule → List Row → Option JobId
chosen set rule h = option_map (λ i. i.job) (first_to_run set rule (high_mode rule h) (pending set h))

-- 1 if a job has a granted tick without an outcome yet, otherwise 0
abbrev pub tick_out : Option JobId → ℕ
tick_out None = 0
tick_out (Some j) = 1

-- how many ticks were begun: those with a row, and a granted one without an outcome yet
abbrev pub begun : State → ℕ
begun s = ticks s.rows + tick_out s.out

-- how many rows there are or will be: rows, held releases, and the row of a granted tick without an outcome
abbrev pub places_used : State → ℕ
places_used s = length s.rows + length s.held + tick_out s.out

-- how many of these jobs are of task number k
abbrev pub jobs_of : ℕ → List JobId → ℕ
jobs_of k [] = 0
jobs_of k (j ∷ js) = cond (j.task.0 == k) 1 0 + jobs_of k js

-- how many releases task number k has had, held ones included
abbrev pub released_so_far : State → ℕ → ℕ
released_so_far s k = releases s.rows k + jobs_of k s.held

-- the boundary from which task number k may be released next: 0 before its first release, otherwise its last
-- release time plus its period; a held release counts from the next boundary
abbrev pub next_after : List Task → List Row → List JobId → ℕ → ℕ
next_after set rows [] k = next_release set rows k
next_after set rows (j ∷ js) k =
    cond (j.task.0 == k) (ticks rows + 1 + period_in (task_at set k)) (next_after set rows js k)

-- the boundary from which task number k may be released in this state
abbrev pub next : State → ℕ → ℕ
next s k = next_after s.set s.rows s.held k

-- the job that a release of task number k makes
abbrev pub next_job : State → ℕ → JobId
next_job s k = record { task = record { 0 = k }; count = released_so_far s k + 1 }

-- whether a release after these rows is kept: always, except of a low task in high mode
abbrev pub keeps : List Task → Rule → List Row → ℕ → Bool
keeps set rule g k = is_high_in (task_at set k) || not (high_mode rule g)

-- the row of a release of the job after these rows
abbrev pub release_row : List Task → Rule → JobId → List Row → Row
release_row set rule j g = Release j (keeps set rule g j.task.0)

-- the outcome of the job's next tick, by whether the job says that it is done
abbrev pub outcome_of : List Task → Rule → List Row → JobId → Bool → How
outcome_of set rule g j done = cond done Done (how_of set rule g j (used g j + 1))

-- the rows with the held releases after them
abbrev pub add_held : List Task → Rule → List JobId → List Row → List Row
add_held set rule [] g = g
add_held set rule (j ∷ js) g = let h = add_held set rule js g in release_row set rule j h ∷ h

-- the rows, then the row of the granted tick by its outcome, then the held releases
abbrev pub settled : List Task → Rule → Bool → List Row → Option JobId → List JobId → List Row
settled set rule done rows None held = rows
settled set rule done rows (Some j) held =
    add_held set rule held (Tick j (outcome_of set rule rows j done) ∷ rows)

-- the rows of the state once the granted tick has its outcome, with the held releases after it
abbrev pub settle : State → Bool → List Row
settle s done = settled s.set s.rule done s.rows s.out s.held

-- without a granted tick no releases are held; a granted tick belongs to the chosen job
abbrev pub IsOut : List Task → Rule → List Row → Option JobId → List JobId → Type 0
IsOut set rule rows None held = held ≡ []
IsOut set rule rows (Some j) held = chosen set rule rows ≡ Some j

-- what every event keeps: the rows are legal, a granted tick is the chosen job's, and the rows stay legal
-- with either outcome of it
pub record Good (s : State) : Type 0 where
  pub legal : Legal s.set s.rule s.rows
  pub out : IsOut s.set s.rule s.rows s.out s.held
  pub settled : (done : Bool) → Legal s.set s.rule (settle s done)
