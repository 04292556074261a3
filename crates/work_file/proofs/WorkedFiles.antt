-- The definitions, computed at small files and lists, for a high task with period 10 and a low task.
use Rattle.std.proofs.Common.{◌≡◌, ℕ, List, [], ◌∷◌, codes, Some, Ok, Err, refl}
use Rattle.mc_task.specs.declared.task.Task.{Task}
use Rattle.mc_task.specs.declared.task.Level.TheVariants.{Low, High}
use Rattle.mc_model.specs.declared.work.WorkRow.{WorkRow}
use Rattle.work_file.specs.declared.fault.WorkCause.TheVariants.{BadRecord, Header, UnknownTask, BadNumber, ZeroNeed, Unsorted, TooSoon}
use Rattle.csv_records.specs.declared.fault.Fault.TheVariants.{At}
use Rattle.work_file.specs.Rows.{first_bad, row_fault, time_fault}
use Rattle.work_file.specs.WorkFile.{work_in}
use Rattle.work_file.proofs.OnLiterals.{work_file_on_literals}

control : List Task
control =
    record { name = codes "ctl"; level = High; period = 10; low = 2; high = 6 }
    ∷ record { name = codes "log"; level = Low; period = 10; low = 5; high = 5 }
    ∷ []

row : ℕ → ℕ → ℕ → WorkRow
row task release need = record { task = record { 0 = task }; release = release; need = need }

three_rows : work_in control (codes "task,release,need\r\nctl,0,6\r\n\"log\",0,5\n\nctl,0000000010,1") ≡ Ok (row 1 0 6 ∷ row 2 0 5 ∷ row 1 10 1 ∷ [])
unfolding work_file_on_literals control row
three_rows = refl

header_alone : work_in control (codes "task,release,need") ≡ Ok []
unfolding work_file_on_literals control
header_alone = refl

empty_file : work_in control [] ≡ Err (At 1 Header)
unfolding work_file_on_literals control
empty_file = refl

no_header : work_in control (codes "ctl,0,6\n") ≡ Err (At 1 Header)
unfolding work_file_on_literals control
no_header = refl

too_soon : work_in control (codes "task,release,need\nctl,0,6\nctl,9,1\n") ≡ Err (At 3 (TooSoon 10))
unfolding work_file_on_literals control
too_soon = refl

unsorted : work_in control (codes "task,release,need\nlog,5,1\nctl,4,1\n") ≡ Err (At 3 Unsorted)
unfolding work_file_on_literals control
unsorted = refl

zero_need : work_in control (codes "task,release,need\nctl,0,0\n") ≡ Err (At 2 ZeroNeed)
unfolding work_file_on_literals control
zero_need = refl

bad_number : work_in control (codes "task,release,need\nctl,4294967296,0\n") ≡ Err (At 2 BadNumber)
unfolding work_file_on_literals control
bad_number = refl

unknown_task : work_in control (codes "task,release,need\nbob,+1,0\n") ≡ Err (At 2 UnknownTask)
unfolding work_file_on_literals control
unknown_task = refl

bad_record : work_in control (codes "task,release,need\nbob,0\n") ≡ Err (At 2 BadRecord)
unfolding work_file_on_literals control
bad_record = refl

bad_row : first_bad control (row 1 0 6 ∷ row 2 3 1 ∷ row 1 9 1 ∷ row 3 0 0 ∷ []) ≡ Some (record { index = 2; cause = TooSoon 10 })
unfolding time_fault row_fault control row
bad_row = refl

unknown_row : first_bad control (row 1 0 6 ∷ row 3 0 0 ∷ []) ≡ Some (record { index = 1; cause = UnknownTask })
unfolding time_fault row_fault control row
unknown_row = refl
