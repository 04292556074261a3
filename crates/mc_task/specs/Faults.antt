-- The first fault of a list of tasks: it is empty; it has more than 128 tasks; then, task by task, a number
-- is 0 or the budgets are out of order; then two tasks have one name.
use Rattle.std.specs.Prelude.{ℕ, ◌+◌, Bool, not, ◌==◌, ◌||◌, nat_lt, if◌then◌else◌, List, [], ◌∷◌, ◌++◌, length, Option, Some, None, option_map}
use Rattle.std.specs.Str.{bytes_eq}
use Rattle.std.specs.Option.{option_or}
use Rattle.mc_task.specs.declared.task.Task.{Task}
use Rattle.mc_task.specs.declared.task.Level.{Level}
use Rattle.mc_task.specs.declared.task.Level.TheVariants.{Low, High}
use Rattle.mc_task.specs.declared.set.SetFault.{SetFault}
use Rattle.mc_task.specs.declared.set.SetFault.TheVariants.{Empty, TooMany, ZeroNumber, BudgetOrder, SameName}

-- a low task's budgets differ, or a high task's low budget is above its high one
abbrev pub out_of_order : Level → ℕ → ℕ → Bool
out_of_order Low low high = not (low == high)
out_of_order High low high = nat_lt high low

-- the fault in the numbers of task number k: a number is 0, or the budgets are out of order
abbrev pub number_fault : ℕ → Task → Option SetFault
number_fault k t =
    if (t.period == 0 || t.low == 0) || t.high == 0 then Some (ZeroNumber (record { 0 = k }))
    else if out_of_order t.level t.low t.high then Some (BudgetOrder (record { 0 = k })) else None

-- the fault in the numbers of the first task that has one, if n tasks come before the list
abbrev pub number_fault_from : ℕ → List Task → Option SetFault
number_fault_from n [] = None
number_fault_from n (t ∷ ts) = option_or (number_fault (n + 1) t) (number_fault_from (n + 1) ts)

-- the number of the first task with this name, if the list's first task is number k
abbrev pub named_from : ℕ → List ℕ → List Task → Option ℕ
named_from k name [] = None
named_from k name (t ∷ ts) = if bytes_eq t.name name then Some k else named_from (k + 1) name ts

-- the number of the first task of the list with this name
abbrev pub named : List ℕ → List Task → Option ℕ
named = named_from 1

-- the first task of the list that has the name of a task before it, and the first task with that name
abbrev pub same_name_from : List Task → List Task → Option SetFault
same_name_from before [] = None
same_name_from before (t ∷ ts) = option_or
    (option_map (λ k. SameName (record { 0 = k }) (record { 0 = length before + 1 })) (named t.name before))
    (same_name_from (before ++ t ∷ []) ts)

-- the first fault of a list of tasks
abbrev pub first_fault : List Task → Option SetFault
first_fault tasks =
    if length tasks == 0 then Some Empty
    else if nat_lt 128 (length tasks) then Some (TooMany (length tasks))
    else option_or (number_fault_from 0 tasks) (same_name_from [] tasks)
