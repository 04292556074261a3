use Rattle.calling_examples.proofs.Ticks.{AddsTicks}
use Rattle.calling_examples.proofs.schedule.schedule.Given as goal

abbrev pub invariant-loop-tick : goal.invariant-loop-tick
invariant-loop-tick g l = AddsTicks l._tick l.initial.core l.core
