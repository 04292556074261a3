use Rattle.std.proofs.Common.{length, ap, ◌∙◌}
use Rattle.std.specs.List.{list_all}
use Rattle.mc_model.specs.Sums.{total}
use Rattle.trace_judge.specs.Entries.{PendingEntries}
use Rattle.trace_judge.specs.Queues.{entries_from}
use Rattle.trace_judge.specs.Switch.{is_keyed, moved}
use Rattle.trace_judge.proofs.Switched.{switched_entries, switched_length}
use Rattle.trace_judge.proofs.pending_queues.PendingQueues.switch.Goals as goal

pub switch_each-requires-clause-keyed : goal.switch_each-requires-clause-keyed
switch_each-requires-clause-keyed c =
    (c.requires.keyed.0, ap (λ (h : PendingEntries). list_all (is_keyed c.args.set.now.tasks c.args.rule c.requires.keyed.0) h.entries) c.self.view_is ∙ c.requires.keyed.1)

pub returns-clause-tasks : goal.returns-clause-tasks
returns-clause-tasks c =
    ap length c.switch_each.ensures.items
    ∙ (switched_length c.args.set.now.tasks c.args.rule 1 c.self.inside.queues.items ∙ ap (λ (h : PendingEntries). h.tasks) c.self.view_is)

pub returns-clause-entries : goal.returns-clause-entries
returns-clause-entries c f =
    ap (λ qs. total f (entries_from 1 qs)) c.switch_each.ensures.items
    ∙ (switched_entries c.args.set.now.tasks c.args.rule f 1 c.self.inside.queues.items
    ∙ ap (λ (h : PendingEntries). total (moved c.args.set.now.tasks c.args.rule f) h.entries) c.self.view_is)
