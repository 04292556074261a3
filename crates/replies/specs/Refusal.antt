-- The refusals of all commands, each with its status and its text.
use Rattle.std.specs.Prelude.{ℕ, List, ◌++◌, codes, decimal}
use Rattle.mc_task.specs.declared.task.Task.{Task}
use Rattle.mc_model.specs.declared.verdict.Verdict.{Verdict}
use Rattle.mc_model.specs.CheckText.{not_admitted_text}
use Rattle.mc_model.specs.VerdictText.{verdict_line}
use Rattle.task_file.specs.declared.fault.TaskFault.{TaskFault}
use Rattle.csv_records.specs.declared.fault.Fault.{Fault}
use Rattle.work_file.specs.declared.fault.WorkCause.{WorkCause}
use Rattle.trace_format.specs.declared.fault.TraceCause.{TraceCause}
use Rattle.demand_test.specs.declared.fault.DemandCause.{DemandCause}
use Rattle.replies.specs.Reply.{Reply, reply_of}
use Rattle.replies.specs.TaskLines.{task_fault_line, range_line}
use Rattle.replies.specs.RowLines.{fault_line, work_cause_words, trace_cause_words, demand_cause_words}

-- why a command is refused: a file could not be read, is too long, or says nothing valid; a set's periods are
-- out of range; a set is not admitted; one of its tasks fits on no processor; a trace is illegal or has late
-- jobs, or is too long for a chart
pub data Refusal : Type 0 where
  ReadFault : (file : ℕ) → Refusal
  Longer : (file limit : ℕ) → Refusal
  TaskFile : TaskFault → Refusal
  OutOfRange : (task : ℕ) → Refusal
  NotAdmitted : List Task → Refusal
  WorkFile : Fault WorkCause → Refusal
  Trace : Fault TraceCause → Refusal
  BadTrace : List Task → Verdict → Refusal
  LongChart : (ticks : ℕ) → Refusal
  DemandFile : Fault DemandCause → Refusal
  NoRoom : (name : List ℕ) (processors : ℕ) → Refusal

-- the status that the program ends with after a refusal
abbrev pub status_of : Refusal → ℕ
status_of (NotAdmitted set) = 1
status_of (TaskFile fault) = 3
status_of (OutOfRange task) = 3
status_of (WorkFile fault) = 4
status_of (Trace fault) = 5
status_of (LongChart ticks) = 5
status_of (BadTrace set verdict) = 6
status_of (ReadFault file) = 7
status_of (Longer file limit) = 7
status_of (DemandFile fault) = 11
status_of (NoRoom name processors) = 12

-- the text that the program writes for a refusal
abbrev pub line_of : Refusal → List ℕ
line_of (NotAdmitted set) = not_admitted_text set
line_of (TaskFile fault) = task_fault_line fault
line_of (OutOfRange task) = range_line task
line_of (WorkFile fault) = fault_line (codes "work file") work_cause_words fault
line_of (Trace fault) = fault_line (codes "trace") trace_cause_words fault
line_of (LongChart ticks) =
    codes "trace has " ++ (decimal ticks ++ codes " ticks, a chart has at most 2000000\n")
line_of (BadTrace set verdict) = verdict_line set verdict
line_of (DemandFile fault) = fault_line (codes "demand file") demand_cause_words fault
line_of (NoRoom name processors) =
    codes "not partitioned: task "
    ++ (name ++ (codes " fits on none of " ++ (decimal processors ++ codes "\n")))
line_of (ReadFault file) = codes "read fault on file " ++ (decimal file ++ codes "\n")
line_of (Longer file limit) =
    codes "file " ++ (decimal file ++ (codes " is longer than " ++ (decimal limit ++ codes " bytes\n")))

-- the reply for a refusal: the refusal's status and text
abbrev pub refuse : Refusal → Reply
refuse refusal = reply_of (status_of refusal) (line_of refusal)
