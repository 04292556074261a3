use Rattle.std.proofs.Common.{◌∙◌, refl, arith}
use Rattle.std.proofs.lemmas.Grind.{common_steps}
use Rattle.std.proofs.lemmas.List.{drop-set-lt}
use Rattle.edfvd_c.proofs.traces.monitor.store_late.Goals as goal

pub loop-place-init : goal.loop-place-init
loop-place-init c = record {
  front = grind (arith, common_steps);
  back = λ k above. refl;
}

pub loop-place-preserved : goal.loop-place-preserved
loop-place-preserved c = record {
  front = grind (arith, common_steps);
  back = λ k above. drop-set-lt k c.loop-place.jobs c.loop-place.place _ (omega (arith, above)) ∙ c.loop-place.invariant.back k (omega (arith, above));
}
