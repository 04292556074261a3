-- Passes of tasks that end their jobs by their needs.
use Rattle.std.specs.Prelude.{◌≡◌, ℕ, ◌+◌, ◌/◌, ◌%◌, ◌==◌, ◌<◌, List, length, slice_index_or, Option, None, if◌then◌else◌}
use Rattle.mc_task.specs.declared.task.Task.{Task}
use Rattle.mc_task.specs.TaskSet.{task_at}
use Rattle.mc_model.specs.Sums.{total}
use Rattle.executive.specs.declared.pass.TaskPass.{TaskPass}
use Rattle.executive.specs.declared.executive.Executive.{Executive}
use Rattle.executive.specs.Passes.{PassState, of_pass, floor_of}
use Rattle.executive.specs.Watching.{IsWatcherOf}
use Rattle.task_threads.specs.declared.live_needs.LiveNeeds.{LiveNeeds}
use Rattle.task_threads.specs.declared.live_round.Runner.{Runner}
use Rattle.mc_model.specs.LiveTrace.{live_need}
use Rattle.task_threads.specs.LiveCalls.{AreByNeed}
use Rattle.task_threads.specs.Passes.{IsPassFor}

-- how many ticks the job with this number needs
abbrev pub need_by : LiveNeeds → ℕ → ℕ
need_by n count = if count % 4 == 0 then n.fourth else n.low

-- with these needs each job of the task needs what a live trace asks for
abbrev pub AreNeedsOf : Option Task → LiveNeeds → Type 0
AreNeedsOf task n = (count : ℕ) → need_by n count ≡ live_need task count

-- the needs of the tasks from 1 on
abbrev pub AreNeeds : List Task → List LiveNeeds → Type 0
AreNeeds set needs =
    (i : ℕ) (d : LiveNeeds) → i < length needs → AreNeedsOf (task_at set (i + 1)) (slice_index_or needs i d)

-- the calls of task number k ended its jobs by their needs
abbrev pub EndsByNeed : List Task → ℕ → PassState → Type 0
EndsByNeed set k p = AreByNeed (live_need (task_at set k)) None p.lists.mine

-- the executive's pass of task number k, whose calls ended the task's jobs by their needs
abbrev pub IsLivePass : Executive → ℕ → TaskPass → Type 0
IsLivePass e k p = IsPassFor e k p × EndsByNeed (floor_of e).core.set k (of_pass p)

-- a valid runner: the pass of task number k, with a watcher and the needs of the task
pub record IsRunner (e : Executive) (k : ℕ) (r : Runner) : Type 0 where
  pub live : IsLivePass e k r.pass
  pub watches : IsWatcherOf e r.watcher
  pub needs : AreNeedsOf (task_at (floor_of e).core.set k) r.needs

-- the capacity that n ticks need: a row for each tick, and one for each release that the periods allow before
-- the last tick
abbrev pub live_capacity : List Task → ℕ → ℕ
live_capacity set n = n + total (λ t. n / t.period + 1) set
