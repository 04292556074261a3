-- Runs with a good verdict are a trace.
use Rattle.std.proofs.Common.{◌≡◌, ℕ, true, List, All, reverse, Ok, sym, ap, subst, ◌∙◌}
use Rattle.std.proofs.lemmas.List.Elements.{All-from_recursion}
use Rattle.std.specs.List.{AllByRecursion}
use Rattle.mc_task.specs.declared.task.JobId.{JobId}
use Rattle.mc_task.specs.declared.task.Rule.{Rule}
use Rattle.mc_task.specs.declared.task.Task.{Task}
use Rattle.mc_task.proofs.TaskLemmas.{each_of_all}
use Rattle.mc_model.specs.declared.row.Row.{Row}
use Rattle.mc_model.specs.declared.run.Run.{Run}
use Rattle.mc_model.specs.Holds.{Fits}
use Rattle.mc_model.specs.Legal.{IsOfSet}
use Rattle.mc_model.specs.Late.{late}
use Rattle.mc_model.specs.Rows.{ticks}
use Rattle.mc_model.specs.Runs.{expand, AreRuns, IsRunOfSet}
use Rattle.mc_model.specs.Traces.{IsTraceOf}
use Rattle.mc_model.specs.declared.verdict.Verdict.{Verdict}
use Rattle.mc_model.specs.Verdict.{RowFault, verdict, verdict_of, first_unfit}
use Rattle.mc_model.proofs.Lists.{Each-reverse}
use Rattle.mc_model.proofs.Runs.{all_expand}
use Rattle.mc_model.proofs.Verdicts.{legal_by_verdict}
use Rattle.std.specs.Prelude.{Option, Some, None, refl}
use Rattle.trace_format.specs.TraceFile.{trace_file}
use Rattle.trace_format.proofs.RunsOfSet.{valid_runs, runs_of_set}
use Rattle.trace_judge.specs.Watched.{Watched, Watches, fitted}
use Rattle.trace_judge.proofs.Watching.{all_fitted}
use Rattle.trace_commands.specs.JudgedText.{IsMonitorOf}
use Rattle.trace_commands.specs.OnTrace.{is_good}

-- a good verdict finds no fault
pub no_fault_in : (f : Option RowFault) (lates : List JobId) → is_good (verdict_of f lates) ≡ true → f ≡ None
no_fault_in None lates h = refl
no_fault_in (Some f) lates h = cc

-- a monitor of a good trace counts the trace's ticks
pub good_ticks : (set : List Task) (rule : Rule) (runs : List Run) (m : Watched) (t : ℕ) → IsMonitorOf set rule runs m → is_good (verdict set rule (reverse (expand runs))) ≡ true
    → ((h : List Row) → Watches h m → t ≡ ticks (fitted m.set.tasks m.rule h)) → t ≡ ticks (reverse (expand runs))
good_ticks set rule runs m t is good counts =
    let h = reverse (expand runs) in
    let none = no_fault_in (first_unfit set rule h) (late set h) good in
    let fits : m.unfit ≡ None = is.seen_rows.unfit ∙ rw (is.same_tasks, is.same_rule, none) refl in
    counts h is.seen_rows ∙ ap ticks (all_fitted h m fits is.seen_rows)

-- the rows of runs are of the set, also the newest first
pub rows_of_runs : (set : List Task) (runs : List Run) → AllByRecursion (IsRunOfSet set) runs → AllByRecursion (IsOfSet set) (reverse (expand runs))
rows_of_runs set runs of = Each-reverse (IsOfSet set) (expand runs) (each_of_all (IsOfSet set) (expand runs) (all_expand (IsOfSet set) runs of))

pub good_trace : (set : List Task) (rule : Rule) (runs : List Run) → Fits rule → All (IsRunOfSet set) runs → is_good (verdict set rule (reverse (expand runs))) ≡ true → IsTraceOf set (reverse (expand runs))
good_trace set rule runs fits of good = record {
  rule = rule;
  fits = fits;
  legal = legal_by_verdict set rule (reverse (expand runs)) (rows_of_runs set runs (each_of_all (IsRunOfSet set) runs of))
      (no_fault_in (first_unfit set rule (reverse (expand runs))) (late set (reverse (expand runs))) good);
}

-- the runs of a trace, if they were kept, are valid
pub kept_valid : (set : List Task) (bytes : List ℕ) (trace items : List Run) → trace_file set bytes ≡ Ok trace → items ≡ trace → AreRuns items
kept_valid set bytes trace items says kept = subst AreRuns (sym kept) (valid_runs set bytes trace says)

-- the runs of a trace, if they were kept, are of the set
pub kept_of_set : (set : List Task) (bytes : List ℕ) (trace items : List Run) → trace_file set bytes ≡ Ok trace → items ≡ trace → All (IsRunOfSet set) items
kept_of_set set bytes trace items says kept = subst (All (IsRunOfSet set)) (sym kept) (All-from_recursion (IsRunOfSet set) trace (runs_of_set set bytes trace says))

-- the runs of a trace with a good verdict, if they were kept, are a trace of the set
pub kept_trace : (set : List Task) (rule : Rule) (bytes : List ℕ) (trace items : List Run) (given : Verdict) → Fits rule → trace_file set bytes ≡ Ok trace → items ≡ trace
    → given ≡ verdict set rule (reverse (expand trace)) → is_good given ≡ true → IsTraceOf set (reverse (expand items))
kept_trace set rule bytes trace items given fits says kept judged good =
    good_trace set rule items fits (kept_of_set set bytes trace items says kept)
    (ap (λ (runs : List Run). is_good (verdict set rule (reverse (expand runs)))) kept ∙ (ap is_good (sym judged) ∙ good))
