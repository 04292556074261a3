use Rattle.std.proofs.Common.{arith, rules}
use Rattle.std.proofs.lemmas.Grind.{common_steps}
use Rattle.mc_world.proofs.memory_sink.MemorySinkSink.write.Goals as goal

pub returns-then-is_listed-clause-fails : goal.returns-then-is_listed-clause-fails
returns-then-is_listed-clause-fails c = rw (← c.self.view_is) (grind (arith, common_steps))

pub returns-then-is_listed-2-clause-takes : goal.returns-then-is_listed-2-clause-takes
returns-then-is_listed-2-clause-takes c = rw (← c.self.view_is) (λ other. absurd (other (search rules)))
