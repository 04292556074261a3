-- How a call of a reader or a writer changes the tally of its calls.
use Rattle.std.specs.Prelude.{◌≡◌, ◌<◌, Result, Ok, Err}
use Rattle.mc_world.specs.Count.{one_more}
use Rattle.mc_world.specs.declared.device.CallError.{CallError}
use Rattle.mc_world.specs.declared.device.CallError.TheVariants.{Interrupted, Failed}
use Rattle.mc_world.specs.declared.device.Tally.{Tally}

-- an interruption uses up a try and is not a failure; a failure is counted
abbrev pub Counts : Tally → Tally → CallError → Type 0
Counts old new Interrupted = (new.tries < old.tries) × (new.failures ≡ old.failures)
Counts old new Failed = (new.tries ≡ old.tries) × (new.failures ≡ one_more old.failures)

-- the tally after a call with this result; a call that succeeds changes nothing
abbrev pub Tallies : {T : Type 0} → Tally → Tally → Result T CallError → Type 0
Tallies old new (Ok value) = new ≡ old
Tallies old new (Err error) = Counts old new error
