use Rattle.std.proofs.Common.{List, subst, sym}
use Rattle.std.specs.List.{AllByRecursion}
use Rattle.std.proofs.lemmas.List.Elements.{All-from_recursion}
use Rattle.mc_model.specs.declared.run.Run.{Run}
use Rattle.mc_model.specs.Runs.{AreRuns, IsRunOfSet}
use Rattle.trace_format.proofs.RunsOfSet.{valid_runs, runs_of_set}
use Rattle.trace_format.proofs.read.read_trace.Goals as goal

pub returns-in-Ok-clause-runs : goal.returns-in-Ok-clause-runs
returns-in-Ok-clause-runs c =
    let taken = c.in-Ok.ensures.runs in
    subst AreRuns (sym taken.2) (valid_runs c.args.set.now.tasks c.args.bytes.now taken.0 taken.1)

pub returns-in-Ok-clause-tasks : goal.returns-in-Ok-clause-tasks
returns-in-Ok-clause-tasks c =
    let tasks = c.args.set.now.tasks in
    let taken = c.in-Ok.ensures.runs in
    All-from_recursion (IsRunOfSet tasks) _ (subst (λ (runs : List Run). AllByRecursion (IsRunOfSet tasks) runs) (sym taken.2) (runs_of_set tasks c.args.bytes.now taken.0 taken.1))
