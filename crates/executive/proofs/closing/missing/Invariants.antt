use Rattle.std.proofs.Common.{◌≡◌, ℕ, ◌<◌, ◌≤◌, true}
use Rattle.executive.specs.Closing.{has_pass}
use Rattle.executive.proofs.closing.missing.Given as goal

abbrev pub invariant-loop-task : goal.invariant-loop-task
invariant-loop-task l = (j : ℕ) → 1 ≤ j → j < l.task → has_pass l.passes j ≡ true
