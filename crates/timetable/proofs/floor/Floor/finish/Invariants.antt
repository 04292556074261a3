use Rattle.std.proofs.Common.{◌≡◌, ◌-◌, length}
use Rattle.timetable.proofs.floor.Floor.finish.Given as goal

abbrev pub invariant-loop-self : goal.invariant-loop-self
invariant-loop-self l = l.self ≡ record l.initial.self { core = record l.initial.self.core { rows = l.self.core.rows }; taken = l.self.taken }

abbrev pub decreases-loop-self : goal.decreases-loop-self
decreases-loop-self l = l.self.core.places - length l.self.core.rows
