-- The definitions, computed at small files.
use Rattle.std.proofs.Common.{◌≡◌, [], ◌∷◌, codes, Some, Ok, Err, refl}
use Rattle.mc_task.specs.declared.task.Task.{Task}
use Rattle.mc_task.specs.declared.task.Level.TheVariants.{Low, High}
use Rattle.mc_task.specs.declared.set.SetFault.TheVariants.{SameName}
use Rattle.mc_task.specs.TaskSet.{unscaled}
use Rattle.task_file.specs.declared.key.KeyName.TheVariants as key
use Rattle.task_file.specs.declared.fault.TaskFault.TheVariants.{NotToml, TopKey, BadVersion, NoTasks, KeyMissing, KeyUnknown, WrongKind, OutOfRange, BadName, HighOnLow, Set}
use Rattle.task_file.specs.TaskFile.{task_file}
use Rattle.task_file.proofs.OnLiterals.{task_file_on_literals}

ctl : Task
ctl = record { name = codes "ctl"; level = High; period = 10; low = 2; high = 6 }

log : Task
log = record { name = codes "log"; level = Low; period = 10; low = 5; high = 5 }

two_tasks : task_file (codes "version = 1\n\n[[task]]\nname = \"ctl\"\nlevel = \"high\"\nperiod = 10\nlow = 2\nhigh = 6\n\n[[task]]\nname = \"log\"\nlevel = \"low\"\nperiod = 10\nlow = 5\n")
    ≡ Ok (unscaled (ctl ∷ log ∷ []))
unfolding task_file_on_literals ctl log
two_tasks = refl

empty_file : task_file [] ≡ Err NoTasks
unfolding task_file_on_literals
empty_file = refl

no_document : task_file (codes "task") ≡ Err NotToml
unfolding task_file_on_literals
no_document = refl

first_top_key : task_file (codes "zeta = 1\nalpha = 1\nversion = 3") ≡ Err (TopKey (codes "alpha"))
unfolding task_file_on_literals
first_top_key = refl

other_version : task_file (codes "version = 3\ntask = 3") ≡ Err BadVersion
unfolding task_file_on_literals
other_version = refl

scale_without_a_version : task_file (codes "scale = 3") ≡ Err (TopKey (codes "scale"))
unfolding task_file_on_literals
scale_without_a_version = refl

scale_of_another_version : task_file (codes "version = 3\nscale = 3") ≡ Err (TopKey (codes "scale"))
unfolding task_file_on_literals
scale_of_another_version = refl

scale_of_three_numbers : task_file (codes "version = 2\nscale = [1, 2, 3]") ≡ Err (WrongKind 0 key.Scale)
unfolding task_file_on_literals
scale_of_three_numbers = refl

scale_above_1 : task_file (codes "version = 2\nscale = [3, 2]") ≡ Err (OutOfRange 0 key.Scale)
unfolding task_file_on_literals
scale_above_1 = refl

scale_in_lowest_terms : task_file (codes "version = 2\nscale = [2, 4]\ntask = [{ name = 'log', level = 'low', period = 10, low = 5 }]")
    ≡ Ok (record { tasks = log ∷ []; scale = Some (record { p = 1; q = 2 }) })
unfolding task_file_on_literals log
scale_in_lowest_terms = refl

no_array : task_file (codes "task = 3") ≡ Err (WrongKind 0 key.Task)
unfolding task_file_on_literals
no_array = refl

no_table : task_file (codes "task = [1]") ≡ Err (WrongKind 1 key.Task)
unfolding task_file_on_literals
no_table = refl

unknown_key : task_file (codes "task = [{ x = 1, b = 2 }]") ≡ Err (KeyUnknown 1 (codes "b"))
unfolding task_file_on_literals
unknown_key = refl

missing_key : task_file (codes "task = [{ name = 1, level = 1, low = 1 }]") ≡ Err (KeyMissing 1 key.Period)
unfolding task_file_on_literals
missing_key = refl

wrong_kind : task_file (codes "task = [{ name = '', level = '', period = 0, low = '', high = '' }]") ≡ Err (WrongKind 1 key.Low)
unfolding task_file_on_literals
wrong_kind = refl

bad_name : task_file (codes "task = [{ name = '', level = '', period = 0, low = 0 }]") ≡ Err (BadName 1)
unfolding task_file_on_literals
bad_name = refl

past_32_bits : task_file (codes "task = [{ name = 'a', level = 'high', period = 4294967296, low = 1 }]") ≡ Err (OutOfRange 1 key.Period)
unfolding task_file_on_literals
past_32_bits = refl

no_high : task_file (codes "task = [{ name = 'a', level = 'high', period = 4294967295, low = 1 }]") ≡ Err (KeyMissing 1 key.High)
unfolding task_file_on_literals
no_high = refl

high_on_low : task_file (codes "task = [{ name = 'a', level = 'low', period = 1, low = 1, high = 1 }]") ≡ Err (HighOnLow 1)
unfolding task_file_on_literals
high_on_low = refl

one_name : task_file (codes "task = [{ name = 'a', level = 'low', period = 1, low = 1 }, { name = 'a', level = 'low', period = 2, low = 2 }]")
    ≡ Err (Set (SameName (record { 0 = 1 }) (record { 0 = 2 })))
unfolding task_file_on_literals
one_name = refl
