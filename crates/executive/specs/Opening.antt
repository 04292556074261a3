-- An executive that was just made, and its passes.
use Rattle.std.specs.Prelude.{◌≡◌, ℕ, ◌+◌, ◌<◌, List, [], length, slice_index_or}
use Rattle.executive.specs.declared.pass.TaskPass.{TaskPass}
use Rattle.executive.specs.declared.executive.Executive.{Executive}
use Rattle.executive.specs.Counts.{tally}
use Rattle.executive.specs.Passes.{of_pass, IsPassOf, floor_of}

-- a pass of the task that made no call and knows of none
pub record IsFresh (e : Executive) (k : ℕ) (p : TaskPass) : Type 0 where
  pub of : IsPassOf e p
  pub task : (of_pass p).task ≡ k
  pub count : (of_pass p).count ≡ tally []
  pub opening : (of_pass p).lists.opening ≡ floor_of e
  pub seen : (of_pass p).lists.seen ≡ []
  pub mine : (of_pass p).lists.mine ≡ []

-- fresh passes of the tasks from 1 on
abbrev pub AreFresh : Executive → List TaskPass → Type 0
AreFresh e passes = (i : ℕ) (d : TaskPass) → i < length passes → IsFresh e (i + 1) (slice_index_or passes i d)
