-- What holds of each generated set and its work.
use Rattle.std.specs.Prelude.{ℕ, ◌*◌, ◌≤◌, List, length, IsSome}
use Rattle.rand_pcg.specs.Lcg.{Lcg}
use Rattle.mc_task.specs.declared.task.Task.{Task}
use Rattle.mc_task.specs.TaskSet.{AreTasks}
use Rattle.mc_model.specs.Loads.{product, load_ll, load_hl, load_hh, IsWithinRange}
use Rattle.mc_model.specs.Test.{published}
use Rattle.mc_model.specs.Holds.{IsThreeQuarters}
use Rattle.mc_model.specs.Work.{IsWork}
use Rattle.mc_model.specs.declared.work.WorkRow.{WorkRow}
use Rattle.set_gen.specs.GeneratedSet.{generated_set}
use Rattle.set_gen.specs.GeneratedWork.{generated_work}

-- a set whose periods are within range, with U_LL ≤ 1/2, U_HL ≤ 1/4 and U_HH ≤ 3/4: by the 3/4 law the
-- published test gives it a rule
pub record AreWithinThreeQuarters (tasks : List Task) : Type 0 where
  pub set : AreTasks tasks
  pub range : IsWithinRange tasks
  pub low_low : 2 * load_ll tasks ≤ product tasks
  pub high_low : 4 * load_hl tasks ≤ product tasks
  pub high_high : 4 * load_hh tasks ≤ 3 * product tasks
  pub quarters : IsThreeQuarters tasks
  pub rule : IsSome (published tasks)

-- law: whatever the words, each generated set of 2 to 32 tasks is admitted
abbrev pub GeneratedSetsAreAdmitted : Type 0
GeneratedSetsAreAdmitted =
    (words : Lcg) (n : ℕ) → 2 ≤ n → n ≤ 32 → AreWithinThreeQuarters (generated_set words n)

-- a list of work for the set, of at most 1,000,000 jobs
pub record IsTaken (set : List Task) (rows : List WorkRow) : Type 0 where
  pub work : IsWork set rows
  pub few : length rows ≤ 1000000

-- law: whatever the words, the work of a generated set below at most 1,000,000 ticks is a list of work for
-- the set
abbrev pub GeneratedWorkIsTaken : Type 0
GeneratedWorkIsTaken = (words : Lcg) (n ticks : ℕ) → 2 ≤ n → n ≤ 32 → ticks ≤ 1000000
    → IsTaken (generated_set words n) (generated_work words n ticks)
