-- The command `soak NUMBER TASKS TICKS`: the trace of a random workload, summed up and judged.
use Rattle.std.specs.Prelude.{◌≡◌, ℕ, List, ◌++◌, codes, decimal, Some}
use Rattle.mc_task.specs.declared.task.Task.{Task}
use Rattle.mc_task.specs.declared.task.Rule.{Rule}
use Rattle.mc_task.specs.declared.task.Rule.TheVariants.{Plain, Virtual}
use Rattle.mc_model.specs.declared.row.Row.{Row}
use Rattle.mc_model.specs.Test.{published}
use Rattle.mc_model.specs.Follows.{Follows}
use Rattle.mc_model.specs.Verdict.{verdict}
use Rattle.mc_model.specs.VerdictText.{verdict_line}
use Rattle.sched_report.specs.ReportText.{summary_text}
use Rattle.set_gen.specs.Words.{words_of}
use Rattle.set_gen.specs.GeneratedSet.{generated_set}
use Rattle.set_gen.specs.GeneratedWork.{generated_work}
use Rattle.replies.specs.Reply.{Reply, reply_of}
use Rattle.command.specs.Command.{Command, answer}

-- the set of the workload that is generated from a number
abbrev pub workload_set : ℕ → ℕ → List Task
workload_set number tasks = generated_set (words_of number) tasks

-- the first line, which names the call: running it again gives the same bytes
abbrev pub call_line : ℕ → ℕ → ℕ → List ℕ
call_line number tasks ticks =
    codes "soak "
    ++ (decimal number ++ (codes " " ++ (decimal tasks ++ (codes " " ++ (decimal ticks ++ codes "\n")))))

-- the second line, which names the rule
abbrev pub rule_line : Rule → List ℕ
rule_line Plain = codes "rule plain\n"
rule_line (Virtual p q) = codes "rule virtual x " ++ (decimal p ++ (codes "/" ++ (decimal q ++ codes "\n")))

-- what `soak` writes of a trace, whose newest row stands first here: the call, the rule, the sums over the
-- trace, and the verdict on it
unfoldable pub soak_text : ℕ → ℕ → ℕ → List Task → Rule → List Row → List ℕ
soak_text number tasks ticks set rule h =
    call_line number tasks ticks
    ++ (rule_line rule ++ (summary_text set h ++ verdict_line set (verdict set rule h)))

-- the trace is the one that follows from the workload's set, its work, and the rule that the published test
-- gives the set
pub record IsSoaked (number tasks ticks : ℕ) (rule : Rule) (h : List Row) : Type 0 where
  pub test : published (workload_set number tasks) ≡ Some rule
  pub follows :
      Follows (workload_set number tasks) rule (generated_work (words_of number) tasks ticks) ticks h

-- the reply is what `soak` writes of the workload's trace, with status 0
abbrev pub IsSoakReply : ℕ → ℕ → ℕ → Reply → Type 0
IsSoakReply number tasks ticks reply =
    (rule : Rule) × (h : List Row) × IsSoaked number tasks ticks rule h
    × (reply ≡ reply_of 0 (soak_text number tasks ticks (workload_set number tasks) rule h))

-- the command `soak` of a number, a number of tasks and a number of ticks
abbrev pub soak : ℕ → ℕ → ℕ → Command
soak number tasks ticks = answer (IsSoakReply number tasks ticks)
