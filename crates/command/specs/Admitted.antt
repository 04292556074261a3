-- What a file gives a command: a set, the rule under which its jobs are ordered, the work for a set.
use Rattle.std.specs.Prelude.{ℕ, ◌^◌, List, ok_or, Result, Ok}
use Rattle.mc_task.specs.declared.task.Rule.{Rule}
use Rattle.mc_task.specs.declared.task.Task.{Task}
use Rattle.mc_task.specs.TaskSet.{Set}
use Rattle.mc_model.specs.Loads.{range_fault}
use Rattle.mc_model.specs.Test.{test}
use Rattle.mc_model.specs.declared.work.WorkRow.{WorkRow}
use Rattle.task_file.specs.TaskFile.{task_file}
use Rattle.work_file.specs.WorkFile.{work_in}
use Rattle.replies.specs.Refusal.{Refusal, TaskFile, WorkFile, OutOfRange, NotAdmitted}
use Rattle.replies.specs.Reading.{◌>>=◌, refused_as, none_or}
use Rattle.command.specs.Command.{Command, fetch}
use Rattle.command.specs.declared.admitted.SetWithRule.{SetWithRule}

-- a set with the rule under which its jobs are ordered
abbrev pub with_rule : Rule → Set → SetWithRule
with_rule rule set = record { set = set; rule = rule }

-- the set that a task file of these bytes says, or the file's refusal
abbrev pub set_in : List ℕ → Result Set Refusal
set_in bytes = refused_as TaskFile (task_file bytes)

-- a set under the rule that the test gives it; or the refusal of a set whose periods are out of range, or
-- that gets no rule
abbrev pub tested : Set → Result SetWithRule Refusal
tested set = do
  _ ← none_or OutOfRange (range_fault set.tasks)
  rule ← ok_or (test set) (NotAdmitted set.tasks)
  Ok (with_rule rule set)

-- the set that a task file of these bytes says, under the rule that the test gives it, or the refusal of the
-- file or the set
abbrev pub admitted : List ℕ → Result SetWithRule Refusal
admitted bytes = do
  set ← set_in bytes
  tested set

-- the set that a task file of these bytes says, under a given rule, or the file's refusal
abbrev pub set_with_rule : Rule → List ℕ → Result SetWithRule Refusal
set_with_rule rule bytes = do
  set ← set_in bytes
  Ok (with_rule rule set)

-- the work for the set that a work file of these bytes says, or the file's refusal
abbrev pub work_of : List Task → List ℕ → Result (List WorkRow) Refusal
work_of set bytes = refused_as WorkFile (work_in set bytes)

-- the command that asks for a task file, a work file or a demand file, of at most 16,777,216 bytes, and goes
-- on by its bytes
abbrev pub fetch_table : List ℕ → (List ℕ → Command) → Command
fetch_table name next = fetch name (2 ^ 24) next
