-- A scheduler that is opened, and why none is.
use Rattle.std.specs.Prelude.{◌≡◌, ◌≢◌, ℕ, List, Some}
use Rattle.mc_task.specs.declared.task.Task.{Task}
use Rattle.mc_task.specs.declared.task.Rule.{Rule}
use Rattle.mc_model.specs.Test.{published}
use Rattle.mode_core.specs.Events.{empty_state}
use Rattle.restart.specs.Restarted.{Restarted, opened}
use Rattle.edfvd_c.specs.declared.sets.given.CTask.{CTask}
use Rattle.edfvd_c.specs.declared.handle.held.Held.{Held}
use Rattle.edfvd_c.specs.Status.{NOT_ADMITTED}
use Rattle.edfvd_c.specs.Sets.Refused.{AreInRange, IsRefused}

-- an opened scheduler, with or without an end: the tasks have the given numbers and are a set within range, the rule is that of
-- the published test, and it has no rows
abbrev pub IsOpening : (Restarted → Held) → List CTask → ℕ → Held → Type 0
IsOpening kind given places made =
    (tasks : List Task) × (rule : Rule) × AreInRange given tasks × (published tasks ≡ Some rule)
    × (made ≡ kind (opened (empty_state tasks rule places)))

-- no scheduler of the given tasks is opened: they are refused; or, with NOT_ADMITTED and no task, they have no rule
pub record IsUnopened (given : List CTask) (NoRule : Type 0) (status task : ℕ) : Type 0 where
  pub refused : status ≢ NOT_ADMITTED → IsRefused given status task
  pub not_admitted : status ≡ NOT_ADMITTED → NoRule × (task ≡ 0)
