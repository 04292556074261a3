-- A row and its job, in numbers.
use Rattle.std.specs.Prelude.{ℕ, ◌==◌, Bool, true, false, Option, Some, None, cond, if◌then◌else◌}
use Rattle.mc_task.specs.declared.task.JobId.{JobId}
use Rattle.mc_model.specs.declared.row.How.{How}
use Rattle.mc_model.specs.declared.row.How.TheVariants.{More, Done, Stop, Over}
use Rattle.mc_model.specs.declared.row.Row.{Row}
use Rattle.mc_model.specs.declared.row.Row.TheVariants.{Release, Tick, Idle}
use Rattle.edfvd_c.specs.declared.row.CRow.{CRow}
use Rattle.edfvd_c.specs.EventNumbers.{KEPT, DROPPED, MORE, DONE, STOP, OVER, IDLE}

-- the number of a job's task, or 0 for no job
abbrev pub task_number : Option JobId → ℕ
task_number None = 0
task_number (Some j) = j.task.0

-- a job's count, or 0 for no job
abbrev pub count_number : Option JobId → ℕ
count_number None = 0
count_number (Some j) = j.count

-- the job of this task with this count
abbrev pub job_of : ℕ → ℕ → JobId
job_of k n = record { task = record { 0 = k }; count = n }

-- how a tick ended: with more to do, done, stopped, or over the low budget
abbrev pub how_number : How → ℕ
how_number More = MORE
how_number Done = DONE
how_number Stop = STOP
how_number Over = OVER

-- the numbers of no row
abbrev pub no_row : CRow
no_row = record { event = 0; task = 0; count = 0 }

-- whether a release was kept or dropped
abbrev pub kept_number : Bool → ℕ
kept_number b = cond b KEPT DROPPED

-- a row: its event, and its job or zeros
abbrev pub row_numbers : Row → CRow
row_numbers (Release j kept) = record { event = kept_number kept; task = j.task.0; count = j.count }
row_numbers (Tick j how) = record { event = how_number how; task = j.task.0; count = j.count }
row_numbers Idle = record { event = IDLE; task = 0; count = 0 }

-- the row that these numbers stand for, if they are those of a row
abbrev pub row_in : CRow → Option Row
row_in s =
    if s.event == KEPT then Some (Release (job_of s.task s.count) true)
    else if s.event == DROPPED then Some (Release (job_of s.task s.count) false)
    else if s.event == MORE then Some (Tick (job_of s.task s.count) More)
    else if s.event == DONE then Some (Tick (job_of s.task s.count) Done)
    else if s.event == STOP then Some (Tick (job_of s.task s.count) Stop)
    else if s.event == OVER then Some (Tick (job_of s.task s.count) Over)
    else if s.event == IDLE then (if s.task == 0 then (if s.count == 0 then Some Idle else None) else None)
    else None
