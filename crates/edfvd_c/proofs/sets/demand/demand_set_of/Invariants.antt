use Rattle.std.proofs.Common.{◌≡◌, map}
use Rattle.std.specs.Prelude.{take}
use Rattle.demand_test.specs.declared.demand.Demand.{Demand}
use Rattle.edfvd_c.specs.Sets.DemandTested.{numbers_of}
use Rattle.edfvd_c.specs.Sets.Named.{names_of}
use Rattle.edfvd_c.proofs.sets.demand.demand_set_of.Given as goal

abbrev pub invariant-loop-place : goal.invariant-loop-place
invariant-loop-place l = record {
  numbers : map numbers_of l.tasks.items ≡ take l.place l.given;
  names : map (λ (t : Demand). t.name) l.tasks.items ≡ names_of l.place;
}
