-- The tree of a printed task file.
use Rattle.std.specs.Prelude.{ℕ, pos, List, map, Option, None, Some}
use Rattle.std.specs.Ordering.{nat_cmp, match_ordering}
use Rattle.std.specs.Cmp.Lexicographic.{slice_cmp}
use Rattle.toml.specs.Data.{Data, string, integer, array, table, no_items, item, Members, no_members, member}
use Rattle.toml.specs.View.{items_of}
use Rattle.mc_task.specs.declared.task.Task.{Task}
use Rattle.mc_task.specs.declared.task.Scale.{Scale}
use Rattle.mc_task.specs.declared.task.Level.{Level}
use Rattle.mc_task.specs.declared.task.Level.TheVariants.{Low, High}
use Rattle.mc_task.specs.TaskSet.{Set}
use Rattle.task_file.specs.Keys.{key_bytes}
use Rattle.task_file.specs.TaskTable.{level_bytes}
use Rattle.task_file.specs.declared.key.KeyName.TheVariants as key

-- the members with this value at the key, put where the order of keys has it
unfoldable pub put_member : List ℕ → Data → Members → Members
put_member k d no_members = member k d no_members
put_member k d (member l e ms) = match_ordering (slice_cmp nat_cmp k l) (member k d (member l e ms))
    (member l d ms) (member l e (put_member k d ms))

-- the members that a task of either level has, in the order of the keys
abbrev pub common_members : Task → Members
common_members t =
    member (key_bytes key.Level) (string (level_bytes t.level))
    (member (key_bytes key.Low) (integer (pos t.low))
    (member (key_bytes key.Name) (string t.name)
    (member (key_bytes key.Period) (integer (pos t.period)) no_members)))

-- the members, after the high budget if the task is high
abbrev pub after_high : Level → ℕ → Members → Members
after_high Low high ms = ms
after_high High high ms = member (key_bytes key.High) (integer (pos high)) ms

-- a task's members
abbrev pub task_members : Task → Members
task_members t = after_high t.level t.high (common_members t)

-- each task as a table
abbrev pub task_tables : List Task → List Data
task_tables ts = map (λ t. table (task_members t)) ts

-- a scale as an array of its two numbers
abbrev pub scale_array : Scale → Data
scale_array x = array (item (integer (pos x.p)) (item (integer (pos x.q)) no_items))

-- the members `task`, with the tasks, and `version`, which is 2
abbrev pub tasks_and_version : List Task → Members
tasks_and_version ts = member (key_bytes key.Task) (array (items_of (task_tables ts)))
    (member (key_bytes key.Version) (integer (pos 2)) no_members)

-- the members, after the scale if there is one
abbrev pub after_scale : Option Scale → Members → Members
after_scale None ms = ms
after_scale (Some x) ms = member (key_bytes key.Scale) (scale_array x) ms

-- the members of a printed file
abbrev pub file_members : Set → Members
file_members set = after_scale set.scale (tasks_and_version set.tasks)
