-- The tree of a printed task file says the set that was printed.
use Rattle.std.proofs.Common.{◌≡◌, ℕ, suc, ◌+◌, ◌≤◌, max, true, List, [], ◌∷◌, Option, Some, None, IfSome, Ok, String, Global, string_bytes, subst, refl, ◌∙◌, arith}
use Rattle.std.specs.List.{AllByRecursion}
use Rattle.std.proofs.lemmas.Bool.Decides.{nat_tests}
use Rattle.std.proofs.lemmas.Str.{IsUtf8-string_bytes}
use Rattle.toml.specs.Data.{table, Members, items_depth, members_depth}
use Rattle.toml.specs.Parse.{parse_document}
use Rattle.toml.specs.View.{items_of}
use Rattle.mc_task.specs.declared.task.Task.{Task}
use Rattle.mc_task.specs.declared.task.Scale.{Scale}
use Rattle.mc_task.specs.declared.task.Level.{Level}
use Rattle.mc_task.specs.declared.task.Level.TheVariants.{Low, High}
use Rattle.mc_task.specs.NameForm.{is_name}
use Rattle.mc_task.specs.TaskSet.{AreTasks, IsScale, IsSet, Set, IsTask, IsTickCount}
use Rattle.task_file.specs.TaskTable.{first_other, task_of}
use Rattle.task_file.specs.TaskFile.{task_file, tree_set, tasks_from}
use Rattle.task_file.specs.Printed.{after_high, common_members, task_members, task_tables, tasks_and_version, after_scale, file_members}
use Rattle.task_file.proofs.TaskLemmas.{is_tick_count, known_document}
use Rattle.task_file.proofs.ScaleLemmas.{scale_back, scale_none}
use Rattle.mc_task.proofs.FaultLemmas.{first_fault-set}

at_most_1 : (a b : ℕ) → a ≤ 1 → b ≤ 1 → max a b ≤ 1
at_most_1 a b h k = grind (arith, nat_tests)

task_depth : (l : Level) (high : ℕ) (t : Task) → members_depth (after_high l high (common_members t)) ≡ 0
task_depth Low high t = refl
task_depth High high t = refl

tables_depth : (ts : List Task) → items_depth (items_of (task_tables ts)) ≤ 1
tables_depth [] = omega arith
tables_depth (t ∷ ts) =
    let flat : suc (members_depth (task_members t)) ≤ 1 = omega (arith, task_depth t.level t.high t) in
    at_most_1 _ _ flat (tables_depth ts)

-- the tree is less deep than the reader's limit
tasks_depth : (ts : List Task) → members_depth (tasks_and_version ts) ≤ 2
tasks_depth ts = grind (arith, nat_tests, tables_depth ts)

file_depth : (ts : List Task) (scale : Option Scale) → members_depth (after_scale scale (tasks_and_version ts)) ≤ 80
file_depth ts None = omega (arith, tasks_depth ts)
file_depth ts (Some x) = grind (arith, nat_tests, tasks_depth ts)

-- a number of ticks passes the reader's test
tick_count : (n : ℕ) → IsTickCount n → is_tick_count n ≡ true
tick_count n h = grind (arith, nat_tests, h.0, h.1)

-- a low task's table reads as the task
low_task : (n : ℕ) (name : List ℕ) (period low : ℕ) → is_name name ≡ true → is_tick_count period ≡ true → is_tick_count low ≡ true
    → let t : Task = record { name = name; level = Low; period = period; low = low; high = low } in task_of n (table (task_members t)) ≡ Ok t
unfolding first_other task_of
low_task n name period low a b c = rw (a, b, c)

high_task : (n : ℕ) (name : List ℕ) (period low high : ℕ) → is_name name ≡ true → is_tick_count period ≡ true → is_tick_count low ≡ true → is_tick_count high ≡ true
    → let t : Task = record { name = name; level = High; period = period; low = low; high = high } in task_of n (table (task_members t)) ≡ Ok t
unfolding first_other task_of
high_task n name period low high a b c d = rw (a, b, c, d)

-- a task's table reads as the task, at either level
task_back : (n : ℕ) (level : Level) (name : List ℕ) (period low high : ℕ) → let t : Task = record { name = name; level = level; period = period; low = low; high = high } in IsTask t → task_of n (table (task_members t)) ≡ Ok t
task_back n Low name period low high is =
    let P : ℕ → Type 0 = λ x. let t : Task = record { name = name; level = Low; period = period; low = low; high = x } in task_of n (table (task_members t)) ≡ Ok t in
    subst P is.budgets (low_task n name period low is.name (tick_count period is.period) (tick_count low is.low))
task_back n High name period low high is = high_task n name period low high is.name (tick_count period is.period) (tick_count low is.low) (tick_count high is.high)

-- the tables of a set's tasks read as the tasks
tasks_back : (n : ℕ) (ts : List Task) → AllByRecursion IsTask ts → tasks_from n (items_of (task_tables ts)) ≡ Ok ts
unfolding tasks_from
tasks_back n [] each = refl
tasks_back n (t ∷ ts) each = rw (task_back n t.level t.name t.period t.low t.high each.0, tasks_back (n + 1) ts each.1)

-- the tree of a set reads as the set
parts_back : (ts : List Task) (scale : Option Scale) → AreTasks ts → IfSome scale IsScale
    → tree_set (after_scale scale (tasks_and_version ts)) ≡ Ok (record { tasks = ts; scale = scale })
unfolding tree_set first_other
parts_back [] scale are is = absurd (omega (arith, are.some))
parts_back (t ∷ ts) None are is = rw (scale_none, tasks_back 1 (t ∷ ts) are.each, first_fault-set (t ∷ ts) are)
parts_back (t ∷ ts) (Some x) are is = rw (scale_back x is, tasks_back 1 (t ∷ ts) are.each, first_fault-set (t ∷ ts) are)

set_back : (set : Set) → IsSet set → tree_set (file_members set) ≡ Ok set
set_back set is = parts_back set.tasks set.scale is.tasks is.scale

-- a text that the table reader reads as the set's tree is a task file of the set
pub reads_back : (text : String Global) (ms : Members) (set : Set) → ms ≡ file_members set → IsSet set
    → (members_depth ms ≤ 80 → parse_document (string_bytes text) ≡ Some ms) → task_file (string_bytes text) ≡ Ok set
reads_back text ms set tree is reads =
    let within : members_depth ms ≤ 80 = rw tree (file_depth set.tasks set.scale) in
    known_document (string_bytes text) ms (IsUtf8-string_bytes text) (reads within) ∙ rw tree (set_back set is)
