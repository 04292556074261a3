-- The time in which no pending job has its deadline. The newest row stands first.
use Rattle.std.specs.Prelude.{◌≡◌, ℕ, ◌+◌, Bool, true, ◌||◌, List, nat_le}
use Rattle.std.specs.List.{list_all}
use Rattle.mc_task.specs.declared.task.Task.{Task}
use Rattle.mc_task.specs.TaskSet.{task_at}
use Rattle.mc_model.specs.TaskNumbers.{period_in}
use Rattle.mc_model.specs.declared.row.Row.{Row}
use Rattle.mc_model.specs.Late.{deadline}
use Rattle.trace_judge.specs.declared.turned.Quiet.{Quiet}
use Rattle.trace_judge.specs.Entries.{Entry}
use Rattle.trace_judge.specs.Placed.{Placed, waiting}

-- the deadline d is not after the first boundary, or not before the second
abbrev pub is_outside : ℕ → ℕ → ℕ → Bool
is_outside after until d = nat_le d after || nat_le until d

-- the deadline of the entry's job
abbrev pub deadline_at : List Task → Entry → ℕ
deadline_at set e = e.1.release + period_in (task_at set e.0.job.task.0)

-- no entry's job has its deadline after the first boundary and before the second
abbrev pub are_quiet : List Task → ℕ → ℕ → List Entry → Bool
are_quiet set after until es = list_all (λ e. is_outside after until (deadline_at set e)) es

-- no job that is pending after these rows has its deadline in the stretch of time
abbrev pub IsQuiet : List Task → List Row → Quiet → Type 0
IsQuiet set h q = list_all (λ (x : Placed). is_outside q.after q.until (deadline set x.kept)) (waiting set h) ≡ true
