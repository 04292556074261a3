-- The commands on a trace: `judge`, `chart`, `report` and `migrate`. A trace that is illegal or has late jobs
-- is refused.
use Rattle.std.specs.Prelude.{◌≡◌, ℕ, ◌≤◌, ◌<◌, ◌^◌, ◌==◌, nat_le, Bool, false, if◌then◌else◌, List, reverse, Result, Ok, Err}
use Rattle.mc_task.specs.declared.task.Task.{Task}
use Rattle.mc_task.specs.declared.task.Rule.TheVariants.{Virtual}
use Rattle.mc_model.specs.declared.row.Row.{Row}
use Rattle.mc_model.specs.declared.verdict.Verdict.{Verdict}
use Rattle.mc_model.specs.declared.verdict.Verdict.TheVariants.{Legal, Illegal}
use Rattle.mc_model.specs.Rows.{ticks}
use Rattle.mc_model.specs.Runs.{expand}
use Rattle.mc_model.specs.TraceText.{trace_text}
use Rattle.mc_model.specs.Verdict.{verdict}
use Rattle.mc_model.specs.VerdictText.{verdict_line}
use Rattle.sched_chart.specs.ChartText.{chart_text}
use Rattle.sched_report.specs.ReportText.{report_text}
use Rattle.trace_format.specs.TraceFile.{trace_file}
use Rattle.trace_commands.specs.declared.action.TraceAction.{TraceAction}
use Rattle.trace_commands.specs.declared.action.TraceAction.TheVariants.{JudgeBy, Chart, Report, Migrate}
use Rattle.replies.specs.Refusal.{Refusal, Trace, BadTrace, LongChart}
use Rattle.replies.specs.Reading.{◌>>=◌, refused_as, reply_by}
use Rattle.command.specs.Command.{Command, answer, fetch, read_or_refuse}
use Rattle.command.specs.Admitted.{admitted, set_with_rule, fetch_table}
use Rattle.command.specs.declared.admitted.SetWithRule.{SetWithRule}

-- whether the verdict finds that each row fits and no job is late
abbrev pub is_good : Verdict → Bool
is_good (Legal late first) = late == 0
is_good (Illegal place why) = false

-- the rows of the trace in a file of these bytes, the newest first, or the file's refusal
abbrev pub rows_in : List Task → List ℕ → Result (List Row) Refusal
rows_in set bytes = do
  runs ← refused_as Trace (trace_file set bytes)
  Ok (reverse (expand runs))

-- a scale p/q on the command line is at most 1, and its numbers are from 1 to 2^32 - 1
abbrev pub IsScale : TraceAction → Type 0
IsScale (JudgeBy p q) = (1 ≤ p) × (p ≤ q) × (q < 2 ^ 32)
IsScale action = Unit {0}

-- what a command writes of a good trace, whose newest row stands first here: `chart` its chart, if it has at
-- most 2,000,000 ticks; `report` its report; `migrate` the trace itself, with equal rows in one record;
-- `judge` the verdict
abbrev pub good_text : TraceAction → SetWithRule → List Row → Result (List ℕ) Refusal
good_text Chart ruled h =
    if nat_le (ticks h) 2000000 then Ok (chart_text ruled.set.tasks h) else Err (LongChart (ticks h))
good_text Report ruled h = Ok (report_text ruled.set.tasks h)
good_text Migrate ruled h = Ok (trace_text ruled.set.tasks (reverse h))
good_text action ruled h = Ok (verdict_line ruled.set.tasks (verdict ruled.set.tasks ruled.rule h))

-- what a command writes of a trace, whose newest row stands first here, if the verdict on it is good; else a
-- refusal by the verdict
abbrev pub judged : TraceAction → SetWithRule → List Row → Result (List ℕ) Refusal
judged action ruled h =
    let given = verdict ruled.set.tasks ruled.rule h in
    if is_good given then good_text action ruled h else Err (BadTrace ruled.set.tasks given)

-- what a command writes of the trace in a file of these bytes, or the refusal of the file or the trace
abbrev pub output_for : TraceAction → SetWithRule → List ℕ → Result (List ℕ) Refusal
output_for action ruled bytes = do
  h ← rows_in ruled.set.tasks bytes
  judged action ruled h

-- the set that a task file of these bytes says, under the rule that the command line gives, or else the rule
-- that the test gives
abbrev pub set_with_rule_for : TraceAction → List ℕ → Result SetWithRule Refusal
set_with_rule_for (JudgeBy p q) bytes = set_with_rule (Virtual p q) bytes
set_with_rule_for action bytes = admitted bytes

-- a command on the trace in the second file, of at most 134,217,728 bytes, of the set in the first
abbrev pub on_trace : TraceAction → List ℕ → List ℕ → Command
on_trace action tasks trace = fetch_table tasks (λ bytes.
    read_or_refuse (set_with_rule_for action bytes) (λ ruled.
    fetch trace (2 ^ 27) (λ more. answer (λ reply. reply ≡ reply_by (output_for action ruled more)))))
