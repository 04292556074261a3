-- The reasons why jobs are not run.
use Rattle.std.specs.Prelude.{◌≡◌, List, Some, None}
use Rattle.mc_task.specs.declared.task.Task.{Task}
use Rattle.mc_model.specs.declared.work.WorkRow.{WorkRow}
use Rattle.work_file.specs.Rows.{first_bad}
use Rattle.calling_examples.specs.declared.threads.NotRun.{NotRun}
use Rattle.calling_examples.specs.declared.threads.NotRun.TheVariants.{Memory, BadJob}

-- the reason is the first job that may not stand after the jobs before it; if each job may, memory ran out
abbrev pub IsRefusal : List Task → List WorkRow → NotRun → Type 0
IsRefusal set jobs Memory = first_bad set jobs ≡ None
IsRefusal set jobs (BadJob bad) = first_bad set jobs ≡ Some bad
