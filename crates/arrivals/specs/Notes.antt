-- Releases as they were noted, the newest first, and when the next is allowed: two of one task are at least its period
-- apart (sporadic tasks; Baruah et al., ECRTS 2012).
use Rattle.std.specs.Prelude.{ℕ, ◌+◌, ◌==◌, cond, List, [], ◌∷◌, option_map, unwrap_or}
use Rattle.mc_task.specs.declared.task.Task.{Task}
use Rattle.mc_task.specs.TaskSet.{task_at}

-- a release: its task's number, and its release time in ticks
pub record Note : Type 0 where
  pub task : ℕ
  pub at : ℕ

-- how many notes are of task number k
abbrev pub count : List Note → ℕ → ℕ
count [] k = 0
count (n ∷ notes) k = cond (n.task == k) 1 0 + count notes k

-- 0 before the first note of task number k, otherwise its last one plus this period
abbrev pub next_after : ℕ → List Note → ℕ → ℕ
next_after period [] k = 0
next_after period (n ∷ notes) k = cond (n.task == k) (n.at + period) (next_after period notes k)

-- the boundary from which task number k of the set may be released
abbrev pub next : List Task → List Note → ℕ → ℕ
next set notes k = unwrap_or (option_map (λ t. next_after t.period notes k) (task_at set k)) 0
