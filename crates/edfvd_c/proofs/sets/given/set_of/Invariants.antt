use Rattle.std.proofs.Common.{◌≡◌, ◌<◌, ◌≤◌, ℕ, Some, map, slice_get}
use Rattle.std.specs.Prelude.{take}
use Rattle.edfvd_c.specs.declared.sets.given.CTask.{CTask}
use Rattle.mc_task.specs.declared.task.Task.{Task}
use Rattle.edfvd_c.specs.Sets.Given.{numbers_of}
use Rattle.edfvd_c.specs.Sets.Named.{names_of}
use Rattle.edfvd_c.proofs.sets.given.set_of.Given as goal

abbrev pub invariant-loop-place : goal.invariant-loop-place
invariant-loop-place l = record {
  numbers : map numbers_of l.tasks.items ≡ take l.place l.given;
  names : map (λ (t : Task). t.name) l.tasks.items ≡ names_of l.place;
  levels : (i : ℕ) (t : CTask) → i < l.place → slice_get l.given i ≡ Some t → t.level ≤ 1;
}
