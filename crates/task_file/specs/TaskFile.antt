-- What a task file says: the tasks of a set in order and its scale, or the first refusal.
use Rattle.std.specs.Prelude.{ℕ, ◌+◌, pos, ◌||◌, ◌==◌, if◌then◌else◌, List, [], ◌∷◌, Option, Some, None, unwrap_or, Result, Ok, Err}
use Rattle.std.specs.Option.{option_map_or}
use Rattle.std.specs.Str.{is_utf8}
use Rattle.toml.specs.Data.{Data, integer, array, Items, no_items, item, Members}
use Rattle.toml.specs.Parse.{parse_document}
use Rattle.mc_task.specs.declared.task.Task.{Task}
use Rattle.mc_task.specs.TaskSet.{Set}
use Rattle.mc_task.specs.Faults.{first_fault}
use Rattle.task_file.specs.Keys.{is_top_key}
use Rattle.task_file.specs.Refusals.{◌>>=◌, or_refuse, refuse_key}
use Rattle.task_file.specs.TaskTable.{first_other, at_key, task_of}
use Rattle.task_file.specs.ScaleArray.{scale_in}
use Rattle.task_file.specs.declared.key.KeyName.TheVariants as key
use Rattle.task_file.specs.declared.fault.TaskFault.{TaskFault}
use Rattle.task_file.specs.declared.fault.TaskFault.TheVariants.{NotToml, TopKey, BadVersion, NoTasks, WrongKind}
use Rattle.task_file.specs.declared.fault.TaskFault.TheVariants as fault

-- the version: 1 if absent, otherwise the whole number 1 or 2
abbrev pub version_in : Option Data → Option ℕ
version_in None = Some 1
version_in (Some (integer (pos n))) = if n == 1 || n == 2 then Some n else None
version_in (Some _) = None

-- the items under `task`, which must be a non-empty array
abbrev pub task_items : Option Data → Result Items TaskFault
task_items None = Err NoTasks
task_items (Some (array no_items)) = Err NoTasks
task_items (Some (array (item d ds))) = Ok (item d ds)
task_items (Some _) = Err (WrongKind 0 key.Task)

-- the tasks that the items say, if the first is number n
unfoldable pub tasks_from : ℕ → Items → Result (List Task) TaskFault
tasks_from n no_items = Ok []
tasks_from n (item d ds) = do
  t ← task_of n d
  ts ← tasks_from (n + 1) ds
  Ok (t ∷ ts)

-- the set that a document's tree says: the tasks and the scale, unless the tasks have a fault as a set
unfoldable pub tree_set : Members → Result Set TaskFault
tree_set ms = do
  _ ← refuse_key TopKey (first_other (is_top_key (unwrap_or (version_in (at_key key.Version ms)) 1 == 2)) ms)
  _ ← or_refuse BadVersion (version_in (at_key key.Version ms))
  scale ← scale_in (at_key key.Scale ms)
  ds ← task_items (at_key key.Task ms)
  ts ← tasks_from 1 ds
  option_map_or (λ e. Err (fault.Set e)) (first_fault ts) (Ok (record { tasks = ts; scale = scale }))

-- the set that a file says; its bytes must be UTF-8
unfoldable pub task_file : List ℕ → Result Set TaskFault
task_file bytes = or_refuse NotToml (if is_utf8 bytes then parse_document bytes else None) >>= tree_set
