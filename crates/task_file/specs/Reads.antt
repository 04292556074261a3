-- What a reader of task files returns, against what the file says.
use Rattle.std.specs.Prelude.{◌≡◌, Result, Ok, Err}
use Rattle.task_file.specs.declared.fault.TaskFault.{TaskFault}
use Rattle.task_file.specs.declared.fault.TaskFault.TheVariants.{Memory}

-- an error that is returned is the refusal, or memory ran out
abbrev pub Fails : {Y : Type 0} → TaskFault → Result Y TaskFault → Type 0
Fails Memory read = Unit {0}
Fails e read = read ≡ Err e

-- what is returned, seen by `view`, is what the file says; or memory ran out
abbrev pub Reads : {X Y : Type 0} → (X → Y) → Result X TaskFault → Result Y TaskFault → Type 0
Reads view (Ok x) read = read ≡ Ok (view x)
Reads view (Err e) read = Fails e read
