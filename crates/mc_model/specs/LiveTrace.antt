-- Live traces: tasks release as they like, at least a period apart, and each job ends when it has had the
-- ticks that it needs. The newest row stands first.
use Rattle.std.specs.Prelude.{◌≡◌, ℕ, ◌+◌, ◌%◌, ◌==◌, ◌&&◌, true, List, [], ◌∷◌, Option, ⊤, if◌then◌else◌}
use Rattle.mc_task.specs.declared.task.Task.{Task}
use Rattle.mc_task.specs.declared.task.Rule.{Rule}
use Rattle.mc_task.specs.TaskSet.{task_at}
use Rattle.mc_model.specs.TaskNumbers.{is_high_in, low_in, own_in}
use Rattle.mc_model.specs.declared.row.Row.{Row}
use Rattle.mc_model.specs.declared.row.Row.TheVariants as row
use Rattle.mc_model.specs.Rows.{ticks, used}
use Rattle.mc_model.specs.Legal.{is_done, Legal}
use Rattle.mc_model.specs.Follows.{ends_in_tick}

-- how many ticks the job with this number needs: of a high task every fourth job needs the high budget, and
-- all other jobs need the low one
abbrev pub live_need : Option Task → ℕ → ℕ
live_need task count = if is_high_in task && (count % 4 == 0) then own_in task else low_in task

-- each Tick row is Done exactly if its job has then had the ticks that it needs
abbrev pub EndByNeed : List Task → List Row → Type 0
EndByNeed set [] = ⊤
EndByNeed set (row.Release j kept ∷ g) = EndByNeed set g
EndByNeed set (row.Tick j how ∷ g) =
    (is_done how ≡ (used g j + 1 == live_need (task_at set j.task.0) j.count)) × EndByNeed set g
EndByNeed set (row.Idle ∷ g) = EndByNeed set g

-- a legal trace of n ticks, up to the row of the last of them, in which each job ends when it has had the
-- ticks that it needs
pub record LiveTrace (set : List Task) (rule : Rule) (n : ℕ) (h : List Row) : Type 0 where
  pub legal : Legal set rule h
  pub ticks : ticks h ≡ n
  pub last : ends_in_tick h ≡ true
  pub ends : EndByNeed set h
