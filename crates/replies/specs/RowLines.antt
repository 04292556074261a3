-- The lines that refuse a work file, a trace or a demand file, by the number of a record.
use Rattle.std.specs.Prelude.{ℕ, List, [], ◌++◌, codes, decimal}
use Rattle.csv_records.specs.declared.fault.Fault.{Fault}
use Rattle.csv_records.specs.declared.fault.Fault.TheVariants.{Memory, At}
use Rattle.work_file.specs.declared.fault.WorkCause.{WorkCause}
use Rattle.work_file.specs.declared.fault.WorkCause.TheVariants as cause
use Rattle.trace_format.specs.declared.fault.TraceCause.{TraceCause}
use Rattle.trace_format.specs.declared.fault.TraceCause.TheVariants as row
use Rattle.demand_test.specs.declared.fault.DemandCause.{DemandCause}
use Rattle.demand_test.specs.declared.fault.DemandCause.TheVariants as task

-- the line that refuses a file at one of its records: the file, the number of the record, and the words for
-- the cause; Memory is no refusal and has no line
abbrev pub fault_line : {Cause : Type 0} → List ℕ → (Cause → List ℕ) → Fault Cause → List ℕ
fault_line file words Memory = []
fault_line file words (At line cause) =
    file ++ (codes " line " ++ (decimal line ++ (codes ": " ++ words cause)))

-- the words for why a record of a work file is refused
abbrev pub work_cause_words : WorkCause → List ℕ
work_cause_words cause.BadRecord = codes "not three fields\n"
work_cause_words cause.Header = codes "header is not task,release,need\n"
work_cause_words cause.UnknownTask = codes "unknown task\n"
work_cause_words cause.BadNumber = codes "bad number\n"
work_cause_words cause.ZeroNeed = codes "need is 0\n"
work_cause_words cause.Unsorted = codes "release before the last one\n"
work_cause_words (cause.TooSoon next) = codes "too soon, next " ++ (decimal next ++ codes "\n")
work_cause_words cause.TooMany = codes "more than 1000000 rows\n"

-- the words for why a record of a trace is refused
abbrev pub trace_cause_words : TraceCause → List ℕ
trace_cause_words row.BadRecord = codes "not five fields\n"
trace_cause_words row.Header = codes "header is of no trace version\n"
trace_cause_words row.UnknownEvent = codes "unknown event\n"
trace_cause_words row.UnknownTask = codes "unknown task\n"
trace_cause_words row.BadNumber = codes "bad number\n"
trace_cause_words row.WrongTick = codes "wrong tick\n"
trace_cause_words row.TooMany = codes "more than 2000000 rows\n"
trace_cause_words row.BadLength = codes "bad length\n"
trace_cause_words row.TooManyTicks = codes "more than 100000000 ticks\n"
trace_cause_words row.NotSix = codes "not six fields\n"

-- the words for why a record of a demand file is refused
abbrev pub demand_cause_words : DemandCause → List ℕ
demand_cause_words task.Header = codes "header is not task,period,deadline,budget\n"
demand_cause_words task.Empty = codes "no tasks\n"
demand_cause_words task.TooMany = codes "more than 128 tasks\n"
demand_cause_words task.BadRecord = codes "not four fields\n"
demand_cause_words task.BadName = codes "bad name\n"
demand_cause_words task.SameName = codes "name used before\n"
demand_cause_words task.BadNumber = codes "bad number\n"
demand_cause_words task.ZeroNumber = codes "number is 0\n"
demand_cause_words task.DeadlineOrder = codes "deadline after period\n"
demand_cause_words task.Range = codes "periods out of range\n"
