-- What a task file says is a set.
use Rattle.std.proofs.Common.{◌≡◌, ℕ, ℤ, ◌+◌, ◌==◌, unwrap_or, pos, negsuc, Bool, true, false, cond, List, [], ◌∷◌, Option, Some, None, Result, Ok, Err, IsTrue, refl, subst, arith}
use Rattle.std.specs.List.{AllByRecursion}
use Rattle.std.proofs.lemmas.Bool.Decides.{nat_tests}
use Rattle.toml.specs.Data.{Data, Items, no_items, item, Members, as_table, as_str, as_integer}
use Rattle.std.specs.Option.{option_map_or}
use Rattle.std.specs.Str.{is_utf8}
use Rattle.toml.specs.Parse.{parse_document}
use Rattle.task_file.specs.declared.fault.TaskFault.TheVariants as fault
use Rattle.mc_task.specs.declared.task.Task.{Task}
use Rattle.mc_task.specs.declared.task.Scale.{Scale}
use Rattle.mc_task.specs.declared.task.Level.{Level}
use Rattle.mc_task.specs.declared.task.Level.TheVariants.{Low, High}
use Rattle.mc_task.specs.declared.set.SetFault.{SetFault}
use Rattle.mc_task.specs.NameForm.{is_name}
use Rattle.mc_task.specs.TaskSet.{IsSet, Set, IsTask, IsTickCount, InOrder}
use Rattle.mc_task.specs.Faults.{first_fault}
use Rattle.mc_task.proofs.TaskLemmas.{each_in_order, AreTasks-each}
use Rattle.task_file.specs.Refusals.{◌>>=◌, or_refuse, refuse_key}
use Rattle.task_file.specs.TaskTable.{name_of, level_of, number_of, if_some, high_of, task_of, first_other, at_key, need}
use Rattle.task_file.specs.TaskFile.{tasks_from, tree_set, task_file, task_items, version_in}
use Rattle.task_file.specs.ScaleArray.{scale_in}
use Rattle.task_file.proofs.ScaleLemmas.{scale_in-IsScale}
use Rattle.task_file.proofs.TaskLemmas.{is_tick_count}
use Rattle.task_file.specs.Keys.{is_task_key, is_top_key}
use Rattle.task_file.specs.declared.key.KeyName.{KeyName}
use Rattle.task_file.specs.declared.key.KeyName.TheVariants as key
use Rattle.task_file.specs.declared.fault.TaskFault.{TaskFault}
use Rattle.task_file.specs.declared.fault.TaskFault.TheVariants.{NotToml, TopKey, BadVersion, BadName, OutOfRange, KeyUnknown, WrongKind}

-- if two steps in turn succeed, each of them succeeds
after_first : {A B : Type 0} (first : Result A TaskFault) (then : A → Result B TaskFault) (b : B) → (first >>= then) ≡ Ok b → (a : A) × (first ≡ Ok a) × (then a ≡ Ok b)
after_first (Ok a) then b h = (a, refl, h)
after_first (Err e) then b h = absurd (cc)

-- if a tested value is taken, it passed the test
passed : {A : Type 0} (b : Bool) (x y : A) (e : TaskFault) → cond b (Ok x) (Err e) ≡ Ok y → (b ≡ true) × (x ≡ y)
passed true x y e h = (refl, cc)
passed false x y e h = absurd (cc)

-- a name that is taken has the form of a name
name_taken : (n : ℕ) (text name : List ℕ) → name_of n text ≡ Ok name → IsTrue (is_name name)
name_taken n text name h =
    let p = passed (is_name text) text name (BadName n) h in
    subst (λ m. IsTrue (is_name m)) (p.1) (p.0)

IsTickCount-from_is_tick_count : (m : ℕ) → is_tick_count m ≡ true → IsTickCount m
IsTickCount-from_is_tick_count m h = (grind (arith, nat_tests, h), grind (arith, nat_tests, h))

-- a number that is taken is a period or a budget
number_taken : (n : ℕ) (k : KeyName) (z : ℤ) (m : ℕ) → number_of n k z ≡ Ok m → IsTickCount m
number_taken n k (pos i) m h =
    let p = passed (is_tick_count i) i m (OutOfRange n k) h in
    subst IsTickCount (p.1) (IsTickCount-from_is_tick_count i (p.0))
number_taken n k (negsuc i) m h = absurd (cc)

-- the high budget that is taken is the low one or the number at its key, and both are budgets
high_taken : (n : ℕ) (level : Level) (low : ℕ) (d : Option ℤ) (given : Option ℕ) (high : ℕ) → IsTickCount low
    → if_some (number_of n key.High) d ≡ Ok given → high_of n level low given ≡ Ok high → IsTickCount high
high_taken n Low low d None high is g h = let same : low ≡ high = cc in subst IsTickCount same is
high_taken n Low low d (Some x) high is g h = absurd (cc)
high_taken n High low d None high is g h = absurd (cc)
high_taken n High low None (Some x) high is g h = absurd (cc)
high_taken n High low (Some d) (Some x) high is g h =
    let p = after_first (number_of n key.High d) (λ m. Ok (Some m)) (Some x) g in
    let same : p.0 ≡ high = cc in
    subst IsTickCount same (number_taken n key.High d p.0 p.1)

-- a task with a valid name and three numbers of ticks, whose budgets may be out of order
record IsRead (t : Task) : Type 0 where
  name : IsTrue (is_name t.name)
  period : IsTickCount t.period
  low : IsTickCount t.low
  high : IsTickCount t.high

-- if two steps in turn succeed, what the second needs follows from the first
after : {A B P : Type 0} (first : Result A TaskFault) (then : A → Result B TaskFault) (b : B) → (first >>= then) ≡ Ok b → ((a : A) → first ≡ Ok a → then a ≡ Ok b → P) → P
after (Ok a) then b h go = go a refl h
after (Err e) then b h go = absurd (cc)

read_same : (s t : Task) (read : Result Task TaskFault) → read ≡ Ok s → read ≡ Ok t → s ≡ t
read_same s t read h k = cc

task_read : (n : ℕ) (d : Data) (t : Task) → task_of n d ≡ Ok t → IsRead t
unfolding task_of
task_read n d t h =
    after (or_refuse (WrongKind n key.Task) (as_table d)) _ t h (λ ms is h.
    after (refuse_key (KeyUnknown n) (first_other is_task_key ms)) _ t h (λ known is h.
    after (need n key.Name ms) _ t h (λ name is h.
    after (need n key.Level ms) _ t h (λ level is h.
    after (need n key.Period ms) _ t h (λ period is h.
    after (need n key.Low ms) _ t h (λ low is h.
    after (or_refuse (WrongKind n key.Name) (as_str name)) _ t h (λ name is h.
    after (or_refuse (WrongKind n key.Level) (as_str level)) _ t h (λ level is h.
    after (or_refuse (WrongKind n key.Period) (as_integer period)) _ t h (λ period is h.
    after (or_refuse (WrongKind n key.Low) (as_integer low)) _ t h (λ low is h.
    after (if_some (λ d. or_refuse (WrongKind n key.High) (as_integer d)) (at_key key.High ms)) _ t h (λ given is h.
    after (name_of n name) _ t h (λ said_name is_name h.
    after (level_of n level) _ t h (λ said_level is h.
    after (number_of n key.Period period) _ t h (λ said_period is_period h.
    after (number_of n key.Low low) _ t h (λ said_low is_low h.
    after (if_some (number_of n key.High) given) _ t h (λ said_given is_given h.
    after (high_of n said_level said_low said_given) _ t h (λ high is_high h.
    let said : Task = record { name = said_name; level = said_level; period = said_period; low = said_low; high = high } in
    let small : IsTickCount said_low = number_taken n key.Low low said_low is_low in
    let is : IsRead said = record { name = name_taken n name said_name is_name; period = number_taken n key.Period period said_period is_period; low = small; high = high_taken n said_level said_low given said_given high small is_given is_high } in
    subst IsRead (read_same said t _ refl h) is)))))))))))))))))

tasks_read : (n : ℕ) (ds : Items) (ts : List Task) → tasks_from n ds ≡ Ok ts → AllByRecursion IsRead ts
unfolding tasks_from
tasks_read n no_items ts h = let none : [] ≡ ts = cc in subst (AllByRecursion IsRead) none tt
tasks_read n (item d ds) ts h =
    let one = after_first (task_of n d) _ ts h in
    let more = after_first (tasks_from (n + 1) ds) _ ts (one.2) in
    let same : one.0 ∷ more.0 ≡ ts = cc in
    subst (AllByRecursion IsRead) same (task_read n d one.0 (one.1), tasks_read (n + 1) ds more.0 (more.1))

-- tasks that were read with their budgets in order are valid tasks
each_task : (ts : List Task) → AllByRecursion IsRead ts → AllByRecursion (λ t. InOrder t.level t.low t.high) ts → AllByRecursion IsTask ts
each_task [] read order = tt
each_task (t ∷ ts) read order =
    let r = read.0 in
    let is : IsTask t = record { name = r.name; period = r.period; low = r.low; high = r.high; budgets = order.0 } in
    (is, each_task ts read.1 order.1)

-- a list without a fault is taken as it is
no_fault : (ts : List Task) (scale : Option Scale) (set : Set) (e : Option SetFault)
    → option_map_or (λ e. Err (fault.Set e)) e (Ok (record { tasks = ts; scale = scale })) ≡ Ok set
    → (record { tasks = ts; scale = scale } ≡ set) × (e ≡ None)
no_fault ts scale set None h = (cc, refl)
no_fault ts scale set (Some e) h = absurd (cc)

tree_says_set : (ms : Members) (set : Set) → tree_set ms ≡ Ok set → IsSet set
unfolding tree_set
tree_says_set ms set h =
    let known = after_first (refuse_key TopKey (first_other (is_top_key (unwrap_or (version_in (at_key key.Version ms)) 1 == 2)) ms)) _ set h in
    let version = after_first (or_refuse BadVersion (version_in (at_key key.Version ms))) _ set (known.2) in
    let scale = after_first (scale_in (at_key key.Scale ms)) _ set (version.2) in
    let items = after_first (task_items (at_key key.Task ms)) _ set (scale.2) in
    let tasks = after_first (tasks_from 1 items.0) _ set (items.2) in
    let whole = no_fault tasks.0 scale.0 set (first_fault tasks.0) (tasks.2) in
    let each = each_task tasks.0 (tasks_read 1 items.0 tasks.0 (tasks.1)) (each_in_order tasks.0 (whole.1)) in
    let is : IsSet (record { tasks = tasks.0; scale = scale.0 }) = record { tasks = AreTasks-each tasks.0 each (whole.1); scale = scale_in-IsScale (at_key key.Scale ms) scale.0 (scale.1) } in
    subst IsSet (whole.0) is

-- what a task file says is a set
pub says_set : (bytes : List ℕ) (set : Set) → task_file bytes ≡ Ok set → IsSet set
unfolding task_file
says_set bytes set h =
    let tree = after_first (or_refuse NotToml (cond (is_utf8 bytes) (parse_document bytes) None)) tree_set set h in
    tree_says_set tree.0 set (tree.2)
