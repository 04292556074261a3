-- Runs that the judge finds legal are a trace.
use Rattle.std.proofs.Common.{◌≡◌, List, All, Option, None, reverse, refl}
use Rattle.mc_task.specs.declared.task.JobId.{JobId}
use Rattle.mc_task.specs.declared.task.Rule.{Rule}
use Rattle.mc_task.specs.declared.task.Task.{Task}
use Rattle.mc_task.proofs.TaskLemmas.{each_of_all}
use Rattle.mc_model.specs.declared.run.Run.{Run}
use Rattle.mc_model.specs.Holds.{Fits}
use Rattle.mc_model.specs.Late.{late}
use Rattle.mc_model.specs.Legal.{IsOfSet}
use Rattle.mc_model.specs.Runs.{expand, IsRunOfSet}
use Rattle.mc_model.specs.Traces.{IsTraceOf}
use Rattle.mc_model.specs.Verdict.{RowFault, verdict, verdict_of, first_unfit}
use Rattle.mc_model.proofs.Lists.{Each-reverse}
use Rattle.mc_model.proofs.Runs.{all_expand}
use Rattle.mc_model.proofs.Verdicts.{legal_by_verdict}

pub judged_trace : (set : List Task) (rule : Rule) (runs : List Run) → Fits rule → All (IsRunOfSet set) runs
    → ((f : Option RowFault) (lates : List JobId) → verdict set rule (reverse (expand runs)) ≡ verdict_of f lates → f ≡ None) → IsTraceOf set (reverse (expand runs))
judged_trace set rule runs fits of good = record {
  rule = rule;
  fits = fits;
  legal = legal_by_verdict set rule (reverse (expand runs))
      (Each-reverse (IsOfSet set) (expand runs) (each_of_all (IsOfSet set) (expand runs) (all_expand (IsOfSet set) runs (each_of_all (IsRunOfSet set) runs of))))
      (good (first_unfit set rule (reverse (expand runs))) (late set (reverse (expand runs))) refl);
}
