use Rattle.calling_examples.specs.Loop.{AddsReleases}
use Rattle.calling_examples.proofs.schedule.release_due.Given as goal

abbrev pub invariant-loop-place : goal.invariant-loop-place
invariant-loop-place g l = AddsReleases l.place l.initial.core l.core
