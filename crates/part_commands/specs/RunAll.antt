-- The command `runall TASKS WORK TICKS M`.
use Rattle.std.specs.Prelude.{◌≡◌, ℕ, Bool, nat_lt, List, ◌++◌, length, filter, flat_map, zip, reverse, codes, decimal, Some}
use Rattle.std.specs.List.{range_with_len, AllZip}
use Rattle.mc_task.specs.declared.task.Rule.{Rule}
use Rattle.mc_model.specs.declared.row.Row.{Row}
use Rattle.mc_model.specs.declared.work.WorkRow.{WorkRow}
use Rattle.mc_model.specs.Test.{published}
use Rattle.mc_model.specs.Follows.{Follows}
use Rattle.mc_model.specs.TraceText.{trace_text}
use Rattle.part_fit.specs.PartWork.{part_rows}
use Rattle.replies.specs.Reply.{Reply, reply_of}
use Rattle.command.specs.Command.{Command, answer, read_or_refuse}
use Rattle.command.specs.Admitted.{fetch_table, work_of}
use Rattle.part_commands.specs.Parted.{Parted, tasks_on, parted}

-- whether processor n has tasks
abbrev pub is_used : Parted → ℕ → Bool
is_used parted n = nat_lt 0 (length (tasks_on parted n))

-- the processors from 1 to m that have tasks
abbrev pub used : ℕ → Parted → List ℕ
used m parted = filter (is_used parted) (range_with_len 1 m)

-- the trace, whose newest row stands first here, is the one of this many ticks that follows from the tasks on
-- processor n, the rule that the published test gives them, and their work
pub record IsTraceOn (ticks : ℕ) (parted : Parted) (work : List WorkRow) (n : ℕ) (h : List Row) : Type 0 where
  pub rule : Rule
  pub test : published (tasks_on parted n) ≡ Some rule
  pub follows : Follows (tasks_on parted n) rule (part_rows n parted.of work) ticks h

-- what is written of a processor and its trace: a line with the processor's number, and then the text of the
-- trace
abbrev pub trace_lines : Parted → ℕ × List Row → List ℕ
trace_lines parted on =
    codes "processor " ++ (decimal on.0 ++ (codes "\n" ++ trace_text (tasks_on parted on.0) (reverse on.1)))

-- the reply is the text of the traces that follow on all processors that have tasks, with status 0
abbrev pub IsTracesReply : ℕ → ℕ → Parted → List WorkRow → Reply → Type 0
IsTracesReply ticks m parted work reply =
    (traces : List (List Row)) × AllZip (IsTraceOn ticks parted work) (used m parted) traces
    × (reply ≡ reply_of 0 (flat_map (trace_lines parted) (zip (used m parted) traces)))

-- the command `runall` of this many ticks, on the task file and the work file of these names, for processors
-- 1 to m
abbrev pub run_all : List ℕ → List ℕ → ℕ → ℕ → Command
run_all tasks work ticks m = fetch_table tasks (λ bytes.
    read_or_refuse (parted m bytes) (λ spread.
    fetch_table work (λ more.
    read_or_refuse (work_of spread.set more) (λ rows. answer (IsTracesReply ticks m spread rows)))))
