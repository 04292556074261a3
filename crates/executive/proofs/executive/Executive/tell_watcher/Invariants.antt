use Rattle.turnstile.specs.Seats.{state_of}
use Rattle.executive.proofs.executive.Executive.tell_watcher.Given as goal

abbrev pub ghosts-leave : goal.ghosts-leave
ghosts-leave g a = record { entry = (state_of a.turn).called.last }
