-- Each generated set is admitted.
use Rattle.std.proofs.Common.{◌≤◌, List, arith}
use Rattle.std.proofs.lemmas.Nat.Gcd.{le_of_dvd}
use Rattle.mc_task.specs.declared.task.Task.{Task}
use Rattle.mc_model.specs.Loads.{hyperperiod}
use Rattle.mc_model.specs.Holds.{IsThreeQuarters}
use Rattle.mc_model.proofs.Hyperperiod.{hyperperiod-IsLeastCommon}
use Rattle.mc_model.proofs.ThreeQuarters.{three_quarters-admitted}
use Rattle.set_gen.specs.GeneratedSet.{generated_set}
use Rattle.set_gen.specs.Laws.{GeneratedSetsAreAdmitted}
use Rattle.set_gen.proofs.GeneratedTasks.{generated_set-divides, generated_set-AreTasks}
use Rattle.set_gen.proofs.Utilisations.{made-low_low, made-high_low, made-high_high}

pub generated_sets-admitted : GeneratedSetsAreAdmitted
generated_sets-admitted words n some few =
    let set : List Task = generated_set words n in
    let is = generated_set-AreTasks words n some few in
    let within : hyperperiod set ≤ 20000 = le_of_dvd (omega arith) ((hyperperiod-IsLeastCommon set).least 20000 (generated_set-divides words n)) in
    let low_low = made-low_low words n some few in
    let high_low = made-high_low words n some few in
    let high_high = made-high_high words n some few in
    let quarters : IsThreeQuarters set = (omega arith, high_high) in
    record {
      set = is;
      range = omega arith;
      low_low = low_low;
      high_low = high_low;
      high_high = high_high;
      quarters = quarters;
      rule = three_quarters-admitted set is quarters;
    }
