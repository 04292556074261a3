-- The command `run TASKS WORK TICKS`.
use Rattle.std.specs.Prelude.{◌≡◌, ℕ, ◌+◌, ◌*◌, ◌≤◌, List, length, reverse}
use Rattle.mc_task.specs.declared.task.Task.{Task}
use Rattle.mc_task.specs.declared.task.Rule.{Rule}
use Rattle.mc_model.specs.declared.row.Row.{Row}
use Rattle.mc_model.specs.declared.work.WorkRow.{WorkRow}
use Rattle.mc_model.specs.Follows.{Follows}
use Rattle.mc_model.specs.TraceText.{trace_text}
use Rattle.replies.specs.Reply.{Reply, reply_of}
use Rattle.command.specs.Command.{Command, answer, read_or_refuse}
use Rattle.command.specs.Admitted.{admitted, work_of, fetch_table}

-- the reply with the text of a trace and status 0; the newest row of the trace stands first here
abbrev pub traced : List Task → List Row → Reply
traced set h = reply_of 0 (trace_text set (reverse h))

-- the reply's text has at most this many bytes
abbrev pub IsShort : ℕ → Reply → Type 0
IsShort bytes reply = length reply.text ≤ bytes

-- the most bytes of a trace that `run` writes: what 2,000,000 rows would take in version 1, as it is written, which is
-- 24 bytes of a header and at most 64 a row. The text is of version 2, and shorter: at most 31 bytes for its header, 66
-- for each of 1,000,000 releases, and 61 for each of 1,000,000 ticks. `judge` reads a trace of at most 2 ^ 27 bytes.
abbrev pub most_run_bytes : ℕ
most_run_bytes = 24 + 64 * 2000000

-- the reply is the text of the one trace of this many ticks that follows from the set, the rule and the work
abbrev pub IsTraceReply : ℕ → List Task → Rule → List WorkRow → Reply → Type 0
IsTraceReply ticks set rule work reply =
    (h : List Row) × Follows set rule work ticks h × (reply ≡ traced set h)

-- the command `run` of this many ticks, on the task file and the work file of these names
abbrev pub run : List ℕ → List ℕ → ℕ → Command
run tasks work ticks = fetch_table tasks (λ bytes.
    read_or_refuse (admitted bytes) (λ ruled.
    fetch_table work (λ more.
    read_or_refuse (work_of ruled.set.tasks more) (λ rows.
    answer (IsTraceReply ticks ruled.set.tasks ruled.rule rows)))))
