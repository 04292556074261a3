use Rattle.std.proofs.Common.{length, ap, sym, ◌∙◌}
use Rattle.mc_model.specs.Core.{State}
use Rattle.restart.proofs.SameSet.{idle_for_set}
use Rattle.restart.proofs.restartable.Restartable.idle_for.Goals as goal

pub invariant_of-self : goal.invariant_of-self
invariant_of-self g c =
    c.self.invariant ∙ sym (ap length (ap (λ (s : State). s.set) c.idle_for.ensures.state ∙ idle_for_set c.self.inside.core c.args.count))
