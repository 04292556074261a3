-- The laws on deadlines, for a set for which the rule holds and a trace that is legal under the rule. The
-- newest row stands first.
use Rattle.std.specs.Prelude.{◌≡◌, ◌*◌, ◌<◌, false, List, []}
use Rattle.std.specs.List.{AllByRecursion}
use Rattle.mc_task.specs.declared.task.Task.{Task}
use Rattle.mc_task.specs.declared.task.Rule.{Rule}
use Rattle.mc_task.specs.TaskSet.{AreTasks}
use Rattle.mc_model.specs.Rows.{ticks}
use Rattle.mc_model.specs.Pending.{pending}
use Rattle.mc_model.specs.Key.{scale, key}
use Rattle.mc_model.specs.Legal.{Legal}
use Rattle.mc_model.specs.Late.{late}
use Rattle.mc_model.specs.Holds.{Holds}
use Rattle.mc_model.specs.declared.row.Row.{Row}

-- a law holds everywhere: of every set for which the rule holds, with every trace of the set that is legal
-- under the rule
abbrev pub Everywhere : Rule → (List Task → List Row → Type 0) → Type 0
Everywhere rule Law =
    (set : List Task) (h : List Row) → AreTasks set → Holds set rule → Legal set rule h → Law set h

-- no job is late
abbrev pub NoneLate : List Task → List Row → Type 0
NoneLate set h = late set h ≡ []

-- the virtual deadline of each pending job, which is its key in low mode, is still to come
abbrev pub NoneDue : List Task → Rule → List Row → Type 0
NoneDue set rule h = AllByRecursion (λ i. scale rule * ticks h < key set rule false i) (pending set h)
