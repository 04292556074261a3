-- Passes by their tasks.
use Rattle.std.specs.Prelude.{◌≡◌, ℕ}
use Rattle.executive.specs.declared.pass.TaskPass.{TaskPass}
use Rattle.executive.specs.declared.executive.Executive.{Executive}
use Rattle.executive.specs.Passes.{IsPassOf, of_pass}

-- the executive's pass of task number k
abbrev pub IsPassFor : Executive → ℕ → TaskPass → Type 0
IsPassFor e k p = IsPassOf e p × ((of_pass p).task ≡ k)
