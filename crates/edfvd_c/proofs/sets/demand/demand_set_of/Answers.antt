use Rattle.std.proofs.Common.{arith}
use Rattle.std.proofs.lemmas.Grind.{common_steps}
use Rattle.edfvd_c.proofs.sets.Numbered.{names_more, names_none}
use Rattle.edfvd_c.proofs.sets.demand.demand_set_of.Goals as goal

pub loop-place-init : goal.loop-place-init
loop-place-init c = record {
  numbers = grind (arith, common_steps);
  names = grind (arith, common_steps, names_none);
}

pub loop-place-preserved : goal.loop-place-preserved
loop-place-preserved c = record {
  numbers = grind (arith, common_steps);
  names = grind (arith, common_steps, names_more c.loop-place.place);
}
