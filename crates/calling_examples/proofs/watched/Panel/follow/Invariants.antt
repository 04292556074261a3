use Rattle.std.proofs.Common.{◌≡◌, ◌≤◌}
use Rattle.calling_examples.specs.Watched.{IsPanelOf}
use Rattle.calling_examples.proofs.watched.Panel.follow.Given as goal

abbrev pub invariant-loop : goal.invariant-loop
invariant-loop g l = IsPanelOf l.executive l.self × (l.before ≡ l.fn.self.shown.ticks) × (l.before ≤ l.self.shown.ticks)
