use Rattle.turnstile.specs.Seats.{turn_number}
use Rattle.executive_tests.proofs.turns.counters.Player.turn.Given as goal

abbrev pub ghosts-leave : goal.ghosts-leave
ghosts-leave g a = record { entry = record { which = turn_number a.turn } }
