use Rattle.std.proofs.Common.{ap, ◌∙◌}
use Rattle.std.proofs.Common.{List}
use Rattle.mc_model.specs.Sums.{total}
use Rattle.trace_judge.specs.declared.turned.Turned.{Turned}
use Rattle.trace_judge.proofs.TurnedLate.{total-permutation}
use Rattle.trace_judge.proofs.turned.turned_late.Goals as goal

pub returns-clause-turned : goal.returns-clause-turned
returns-clause-turned c f =
    total-permutation f _ _ c.put_in_order.ensures.same ∙ ap (λ (ts : List Turned). total f ts) c.in_ok-turned.ensures.turned
