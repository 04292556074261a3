use Rattle.edfvd_c.proofs.sets.Causes.{periods_refused}
use Rattle.edfvd_c.proofs.sets.loaded.set_and_loads.Goals as goal

pub returns-in-Err-clause-refused : goal.returns-in-Err-clause-refused
returns-in-Err-clause-refused c = periods_refused _ _ _ _ c.in_ok-set.ensures.few c.in_ok-set.ensures.tasks c.in_ok-set.ensures.set c.in-Err.ensures.fault
