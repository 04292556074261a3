-- The numbers and the level of a task that may be absent: 0, and not high, if there is none.
use Rattle.std.specs.Prelude.{ℕ, Bool, false, Option}
use Rattle.std.specs.Option.{option_map_or}
use Rattle.mc_task.specs.declared.task.Task.{Task}
use Rattle.mc_task.specs.Kinds.{is_high}

-- the period of a task; 0 if there is no task
abbrev pub period_in : Option Task → ℕ
period_in task = option_map_or (λ t. t.period) task 0

-- the low budget of a task; 0 if there is no task
abbrev pub low_in : Option Task → ℕ
low_in task = option_map_or (λ t. t.low) task 0

-- the own budget of a task, its high one (a low task has one budget); 0 if there is no task
abbrev pub own_in : Option Task → ℕ
own_in task = option_map_or (λ t. t.high) task 0

-- whether there is a task and it is high
abbrev pub is_high_in : Option Task → Bool
is_high_in task = option_map_or (λ t. is_high t.level) task false
