use Rattle.std.proofs.Common.{◌≡◌, ◌<◌, ℕ, suc, List, false}
use Rattle.mc_task.specs.declared.task.Task.{Task}
use Rattle.part_fit.proofs.Placed.{takes}
use Rattle.part_fit.specs.ProcessorLoads.{IsToPlace}
use Rattle.part_fit.proofs.placing.least_for.Given as goal

abbrev pub invariant-loop-place : goal.invariant-loop-place
invariant-loop-place l = (set : List Task) (of : List ℕ) → IsToPlace set of l.fn.all l.fn.task → (k : ℕ) → k < l.place → takes set of l.fn.task (suc k) ≡ false
