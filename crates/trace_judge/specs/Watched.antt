-- What a monitor has seen of a schedule. The newest row stands first.
use Rattle.std.specs.Prelude.{◌≡◌, ℕ, ◌+◌, ◌<◌, ◌≤◌, ◌==◌, Bool, filter, true, false, List, [], ◌∷◌, ◌++◌, Option, Some, None, IfSome, option_map, is_some, cond, length, reverse, take, slice_get}
use Rattle.mc_task.specs.declared.task.Rule.{Rule}
use Rattle.mc_task.specs.declared.task.Task.{Task}
use Rattle.mc_task.specs.TaskSet.{Set}
use Rattle.mc_model.specs.declared.row.Row.{Row}
use Rattle.mc_model.specs.declared.run.Run.{Run}
use Rattle.mc_model.specs.declared.run.Run.TheVariants as run
use Rattle.mc_model.specs.Pending.{KeptRelease, pending}
use Rattle.mc_model.specs.Holds.{Fits}
use Rattle.mc_model.specs.Legal.{Legal}
use Rattle.mc_model.specs.Runs.{expand}
use Rattle.mc_model.specs.Verdict.{first_unfit}
use Rattle.trace_judge.specs.declared.unfit.Unfit.{Unfit}
use Rattle.trace_judge.specs.declared.state.State.{State}
use Rattle.trace_judge.specs.Tracks.{Tracks}
use Rattle.trace_judge.specs.declared.turned.Quiet.{Quiet}
use Rattle.trace_judge.specs.Quiet.{IsQuiet}

-- a monitor: the set, the rule, what is kept of the rows that fit, and the first row that does not fit
pub record Watched : Type 0 where
  pub set : Set
  pub rule : Rule
  pub state : State
  pub unfit : Option Unfit

-- the oldest row that does not fit the rows before it: its number, from 1, and the first of its parts that fails
abbrev pub unfit_in : List Task → Rule → List Row → Option Unfit
unfit_in set rule h = option_map (λ f. record { place = f.place; why = f.why }) (first_unfit set rule h)

-- the rows before the first that does not fit; all rows if each fits
abbrev pub fitted : List Task → Rule → List Row → List Row
fitted set rule [] = []
fitted set rule (row ∷ g) = cond (is_some (first_unfit set rule (row ∷ g))) (fitted set rule g) (row ∷ g)

-- the option holds the first of the rows that does not fit, and the state tracks the rows before it
pub record HasFollowed (h : List Row) (set : List Task) (rule : Rule) (s : State) (u : Option Unfit) : Type 0 where
  pub unfit : u ≡ unfit_in set rule h
  pub legal : Legal set rule (fitted set rule h)
  pub tracks : Tracks set rule (fitted set rule h) s

-- the monitor has seen these rows: it has found the first that does not fit, and keeps what its state is after the rows
-- before that one
abbrev pub Watches : List Row → Watched → Type 0
Watches h m = HasFollowed h m.set.tasks m.rule m.state m.unfit

-- the rule fits, and the state tracks some legal rows, after which no pending job has its deadline in the stretch of time;
-- and there are rows that the monitor has seen
pub record IsWatched (set : List Task) (rule : Rule) (s : State) (u : Option Unfit) (q : Quiet) : Type 0 where
  pub fits : Fits rule
  pub rows : List Row
  pub legal : Legal set rule rows
  pub tracks : Tracks set rule rows s
  pub quiet : IsQuiet set rows q
  pub seen : (h : List Row) × HasFollowed h set rule s u

-- whether no row is known that does not fit
abbrev pub is_none : Option Unfit → Bool
is_none None = true
is_none (Some u) = false

-- the number of rows that the monitor has seen and that fit: those before the first row that does not fit
abbrev pub seen : Watched → ℕ
seen m = m.state.rows

-- whether each row so far fits
abbrev pub fits_so_far : Watched → Bool
fits_so_far m = is_none m.unfit

-- after these rows the run is a kept release of a task that has at least two pending jobs: a monitor is opened with memory
-- for two jobs of each task
abbrev pub NeedsMemory : List Task → List Row → Run → Type 0
NeedsMemory set h (run.Release j kept) =
    (kept ≡ true) × (2 ≤ length (filter (λ (i : KeptRelease). i.job.task.0 == j.task.0) (pending set h)))
NeedsMemory set h _ = ⊥

-- a state that tracked some legal rows tracks them with those of the first of these runs, which are legal too; it has not
-- followed all of them: the next run needs memory
pub record HasFollowedSome (runs : List Run) (set : List Task) (rule : Rule) (old new : State) : Type 0 where
  pub count : ℕ
  pub some_left : count < length runs
  pub rows : (h : List Row) → Legal set rule h → Tracks set rule h old
      → Legal set rule (reverse (expand (take count runs)) ++ h) × Tracks set rule (reverse (expand (take count runs)) ++ h) new
  pub memory : (h : List Row) → Legal set rule h → Tracks set rule h old
      → IfSome (slice_get runs count) (NeedsMemory set (reverse (expand (take count runs)) ++ h))

-- the monitor has seen the first of these runs, each row of which fits, and not all of them: the next run needs memory
pub record HasTakenSome (runs : List Run) (old new : Watched) : Type 0 where
  pub count : ℕ
  pub some_left : count < length runs
  pub rows : (h : List Row) → Watches h old → Watches (reverse (expand (take count runs)) ++ h) new
  pub each_fits : fits_so_far new ≡ true
  pub many : seen new ≡ seen old + length (expand (take count runs))
  pub memory : (h : List Row) → Watches h old → IfSome (slice_get runs count) (NeedsMemory old.set.tasks (reverse (expand (take count runs)) ++ h))
