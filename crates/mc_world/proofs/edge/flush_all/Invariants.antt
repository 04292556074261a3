use Rattle.std.proofs.Common.{◌≡◌}
use Rattle.std.specs.Io.KnownBytes.{Keeps}
use Rattle.mc_world.proofs.edge.flush_all.Given as goal

abbrev pub invariant-tries : goal.invariant-tries
invariant-tries g l = Keeps (g.W.Write.contents l.fn.out.inner) (g.W.Write.contents l.out.inner) × (l.out.tally.failures ≡ l.fn.out.tally.failures)

abbrev pub decreases-tries : goal.decreases-tries
decreases-tries g l = l.out.tally.tries
