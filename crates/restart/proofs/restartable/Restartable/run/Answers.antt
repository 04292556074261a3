use Rattle.std.proofs.Common.{length, ap, sym, ◌∙◌}
use Rattle.mc_model.specs.Core.{State}
use Rattle.restart.proofs.SameSet.{run_set}
use Rattle.restart.proofs.restartable.Restartable.run.Goals as goal

pub invariant_of-self : goal.invariant_of-self
invariant_of-self g c =
    c.self.invariant ∙ sym (ap length (ap (λ (s : State). s.set) c.run.ensures.state ∙ run_set c.self.inside.core c.args.job c.args.ticks c.args.done))
