-- A trace that is judged while it is read.
use Rattle.std.specs.Prelude.{◌≡◌, ◌+◌, ◌^◌, ◌≤◌, Bool, true, false, [], All, List, ◌++◌, length, reverse}
use Rattle.mc_task.specs.declared.task.Rule.{Rule}
use Rattle.mc_task.specs.declared.task.Task.{Task}
use Rattle.mc_model.specs.declared.run.Run.{Run}
use Rattle.mc_model.specs.Runs.{expand, AreRuns, IsRunOfSet}
use Rattle.trace_judge.specs.Watched.{Watched, Watches, fits_so_far, seen}
use Rattle.trace_commands.specs.declared.action.TraceAction.{TraceAction}
use Rattle.trace_commands.specs.declared.action.TraceAction.TheVariants.{Judge, JudgeBy}
use Rattle.trace_commands.specs.declared.judged_text.Judging.{Judging}

-- a monitor of a schedule of these tasks under the rule, which has seen the rows of these runs
pub record IsMonitorOf (tasks : List Task) (rule : Rule) (runs : List Run) (monitor : Watched) : Type 0 where
  pub same_tasks : monitor.set.tasks ≡ tasks
  pub same_rule : monitor.rule ≡ rule
  pub seen_rows : Watches (reverse (expand runs)) monitor

-- whether a command goes through the runs of a trace again after they were judged
abbrev pub needs_runs : TraceAction → Bool
needs_runs Judge = false
needs_runs (JudgeBy p q) = false
needs_runs action = true

-- these runs of a set of these tasks were read: the monitor has seen the first of them, and the others are stored, which
-- are all of them if the runs are kept. The stored runs are valid, and the monitor has capacity for their rows
pub record HasRead (keeps_runs : Bool) (rule : Rule) (tasks : List Task) (runs : List Run) (judging : Judging) : Type 0 where
  pub first : List Run
  pub split : runs ≡ first ++ judging.runs.items
  pub judged : IsMonitorOf tasks rule first judging.monitor
  pub keeps : keeps_runs ≡ true → first ≡ []
  pub valid : AreRuns judging.runs.items
  pub of_set : All (IsRunOfSet tasks) judging.runs.items
  pub room : fits_so_far judging.monitor ≡ true → seen judging.monitor + length (expand judging.runs.items) ≤ 2 ^ 62
