-- The headline for a trace: what it promises under a rule that holds for its set. The newest row stands
-- first.
use Rattle.std.specs.Prelude.{◌≡◌, ◌⊎◌, ℕ, ◌+◌, ◌<◌, ◌≤◌, ◌==◌, true, false, cond, List, [], ◌∷◌}
use Rattle.std.specs.List.{AllByRecursion}
use Rattle.mc_task.specs.declared.task.Task.{Task}
use Rattle.mc_task.specs.declared.task.Rule.{Rule}
use Rattle.mc_task.specs.TaskSet.{task_at}
use Rattle.mc_model.specs.TaskNumbers.{is_high_in}
use Rattle.mc_model.specs.Rows.{ticks}
use Rattle.mc_model.specs.Mode.{high_mode}
use Rattle.mc_model.specs.Pending.{KeptRelease, released, ended, over_since}
use Rattle.mc_model.specs.Late.{up_to, deadline, late}
use Rattle.mc_model.specs.declared.row.Row.{Row}
use Rattle.mc_model.specs.declared.row.Row.TheVariants.{Release}

-- how many Tick and Idle rows have exactly n Tick and Idle rows before them, and so stand at tick n
abbrev pub rows_at : ℕ → List Row → ℕ
rows_at n [] = 0
rows_at n (Release j kept ∷ g) = rows_at n g
rows_at n (_ ∷ g) = cond (ticks g == n) 1 0 + rows_at n g

-- each tick goes to at most one job: exactly one row stands at it, the Tick row of one job or an Idle row
abbrev pub OneAtATime : List Row → Type 0
OneAtATime h = (n : ℕ) → n < ticks h → rows_at n h ≡ 1

-- if the job's deadline has come, there is a Done or Stop row of it by then; or it is a low task's job that
-- an overrun discarded: an Over row came after its release
abbrev pub MeetsDeadline : List Task → List Row → KeptRelease → Type 0
MeetsDeadline set h i =
    let past = up_to (deadline set i) h in
    deadline set i ≤ ticks h → (ended past i.job ≡ true)
    ⊎ ((is_high_in (task_at set i.job.task.0) ≡ false) × (over_since past i.job ≡ true))

-- only releases of low tasks in high mode are dropped, and only an overrun makes the mode high
abbrev pub DropsByOverrun : List Task → Rule → List Row → Type 0
DropsByOverrun set rule [] = Unit {0}
DropsByOverrun set rule (Release j false ∷ g) =
    (is_high_in (task_at set j.task.0) ≡ false) × (high_mode rule g ≡ true) × DropsByOverrun set rule g
DropsByOverrun set rule (_ ∷ g) = DropsByOverrun set rule g

-- the trace gives each tick to at most one job, ends each high job by its deadline, and ends each low job by
-- its deadline unless an overrun dropped or discarded it. Some parts follow from others, and stand here so
-- that the record says everything: `one` holds of every list of rows, `drops` of every legal trace, and
-- `none_late` says `deadlines` in the words of a verdict, which counts late jobs
pub record KeepsDeadlines (set : List Task) (rule : Rule) (h : List Row) : Type 0 where
  pub one : OneAtATime h
  pub none_late : late set h ≡ []
  pub deadlines : AllByRecursion (MeetsDeadline set h) (released h)
  pub drops : DropsByOverrun set rule h
