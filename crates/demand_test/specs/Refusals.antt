-- Steps of which the first refusal is the result.
use Rattle.std.specs.Prelude.{Bool, Result, Ok, Err, if◌then◌else◌}
pub use Rattle.mc_task.specs.Refusals.{◌>>=◌, or_refuse}
use Rattle.demand_test.specs.declared.fault.DemandCause.{DemandCause}

-- the refusal if the test is true, otherwise nothing
abbrev pub refuse_if : Bool → DemandCause → Result (Unit {0}) DemandCause
refuse_if test cause = if test then Err cause else Ok tt
