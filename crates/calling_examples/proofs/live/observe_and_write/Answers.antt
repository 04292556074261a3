use Rattle.std.proofs.Common.{List, ◌++◌, subst}
use Rattle.mc_model.specs.declared.row.Row.{Row}
use Rattle.trace_judge.specs.Watched.{Watches}
use Rattle.calling_examples.proofs.Lives.{either_way}
use Rattle.calling_examples.proofs.live.observe_and_write.Goals as goal

pub returns-clause-watched : goal.returns-clause-watched
returns-clause-watched g c =
    either_way c.write_line.result (λ h seen. subst (λ (rows : List Row). Watches (rows ++ h) c.observe.new.self) c.run_of.ensures (c.in-Ok.ensures.rows h seen))
