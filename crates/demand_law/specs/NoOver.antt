-- Traces without an overrun. The newest row stands first.
use Rattle.std.specs.Prelude.{◌≡◌, ◌≤◌, Bool, true, false, not, List}
use Rattle.std.specs.List.{AllByRecursion, list_any}
use Rattle.mc_task.specs.declared.task.Task.{Task}
use Rattle.mc_model.specs.Rows.{ticks}
use Rattle.mc_model.specs.Mode.{is_over}
use Rattle.mc_model.specs.Pending.{released, ended}
use Rattle.mc_model.specs.Late.{up_to, deadline}
use Rattle.mc_model.specs.declared.row.Row.{Row}
use Rattle.mc_model.specs.declared.row.Row.TheVariants.{Release, Tick, Idle}

-- whether the row is an overrun
abbrev pub is_over_row : Row → Bool
is_over_row (Release j kept) = false
is_over_row (Tick j how) = is_over how
is_over_row Idle = false

-- no row of the trace is an overrun
abbrev pub NoOver : List Row → Type 0
NoOver h = list_any is_over_row h ≡ false

-- whether the row is a release that was dropped
abbrev pub is_drop : Row → Bool
is_drop (Release j kept) = not kept
is_drop (Tick j how) = false
is_drop Idle = false

-- no row of the trace is a dropped release
abbrev pub NoDrop : List Row → Type 0
NoDrop h = list_any is_drop h ≡ false

-- each kept job whose deadline has come has a Done or Stop row by that deadline
abbrev pub EndedInTime : List Task → List Row → Type 0
EndedInTime set h =
    AllByRecursion (λ i. deadline set i ≤ ticks h → ended (up_to (deadline set i) h) i.job ≡ true)
    (released h)
