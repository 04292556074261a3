use Rattle.std.proofs.Common.{sym, subst, IfNone, Option, ◌++◌, ◌∷◌, []}
use Rattle.mc_model.specs.Work.{IsWork}
use Rattle.work_file.specs.declared.fault.WorkCause.{WorkCause}
use Rattle.work_file.proofs.RowLemmas.{IsWork-taken}
use Rattle.work_file.proofs.next.NextReleases.take.Goals as goal

pub returns-then-is_none-clause-work : goal.returns-then-is_none-clause-work
returns-then-is_none-clause-work c work =
    subst (λ (o : Option WorkCause). IfNone o (IsWork c.args.set.now.tasks (c.args.before.now ++ c.args.row ∷ []))) (sym c.time_fault-fault.ensures) (IsWork-taken _ _ _ work c.requires.task)
