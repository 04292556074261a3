use Rattle.calling_examples.proofs.Ticks.{AddsTicks}
use Rattle.calling_examples.proofs.live.run_live.Given as goal

abbrev pub invariant-loop-tick : goal.invariant-loop-tick
invariant-loop-tick g l = AddsTicks l._tick l.initial.core l.core
