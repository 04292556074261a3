-- Steps of which the first refusal is the result.
use Rattle.std.specs.Prelude.{ℕ, List, Option, Some, None, Result, Ok, Err}
pub use Rattle.mc_task.specs.Refusals.{◌>>=◌, or_refuse}
use Rattle.task_file.specs.KeyText.{shown}
use Rattle.task_file.specs.declared.fault.TaskFault.{TaskFault}

-- nothing, or, if there is a key, the refusal that shows it
abbrev pub refuse_key : (List ℕ → TaskFault) → Option (List ℕ) → Result (Unit {0}) TaskFault
refuse_key refusal None = Ok tt
refuse_key refusal (Some k) = Err (refusal (shown k))
