-- First fit: each task in turn goes to the least processor that still takes it.
use Rattle.std.specs.Prelude.{◌≡◌, ℕ, ◌+◌, Bool, ◌&&◌, nat_le, List, [], ◌∷◌, ◌++◌, length, find, Option, is_some, Result, Ok, Err}
use Rattle.std.specs.List.{range_with_len}
use Rattle.std.specs.Option.{option_map_or}
use Rattle.mc_task.specs.declared.task.Task.{Task}
use Rattle.mc_task.specs.TaskSet.{IsIn}
use Rattle.mc_model.specs.Loads.{hyperperiod, most_lcm}
use Rattle.mc_model.specs.Test.{published}
use Rattle.part_fit.specs.Parts.{part_of}
use Rattle.part_fit.specs.declared.placing.FitFault.{FitFault}
use Rattle.part_fit.specs.declared.placing.FitFault.TheVariants.{Memory, NoRoom}

-- whether the tasks are within range, and the published test gives them a rule
unfoldable pub fits : List Task → Bool
fits tasks = nat_le (hyperperiod tasks) most_lcm && is_some (published tasks)

-- the least processor from 1 to m, if any, on which the task fits with the tasks already there; the list has
-- the processors of the set's first tasks
abbrev pub processor_for : List Task → List ℕ → Task → ℕ → Option ℕ
processor_for set of t m = find (λ n. fits (part_of set of n ++ t ∷ [])) (range_with_len 1 m)

-- the processors of all tasks, if these tasks are left and the tasks before them have these processors; or
-- the number of the first task that fits on no processor
unfoldable pub placed : List Task → ℕ → List Task → List ℕ → Result (List ℕ) ℕ
placed set m [] of = Ok of
placed set m (t ∷ ts) of =
    option_map_or (λ n. placed set m ts (of ++ n ∷ [])) (processor_for set of t m) (Err (length of + 1))

-- the processors of the tasks of a set, or the number of the first task that fits on no processor
abbrev pub first_fit : List Task → ℕ → Result (List ℕ) ℕ
first_fit set m = placed set m set []

-- the fault is that memory ran out, or that this task of the set is the first that fits on no processor
abbrev pub IsNoRoom : List Task → ℕ → FitFault → Type 0
IsNoRoom set m Memory = Unit {0}
IsNoRoom set m (NoRoom task) = (first_fit set m ≡ Err task.0) × IsIn set task.0
