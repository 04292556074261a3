use Rattle.std.proofs.Common.{◌≡◌, ◌+◌, ◌≤◌, vec_len, vec_capacity}
use Rattle.task_threads.proofs.parking_spots.ParkingSpots.new.Given as goal

abbrev pub invariant-loop-task : goal.invariant-loop-task
invariant-loop-task l = (vec_len l.spots + 1 ≡ l.task) × (l.tasks ≤ vec_capacity l.spots)
