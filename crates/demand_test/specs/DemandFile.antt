-- The tasks that a demand file says, or its first refusal.
use Rattle.std.specs.Prelude.{ℕ, Bool, false, not, ◌||◌, ◌==◌, nat_le, nat_lt, if◌then◌else◌, List, [], ◌∷◌, ◌++◌, codes, length, Option, Some, None, Result, Ok, Err}
use lib.Pointwise.{pointwise}
use Rattle.std.specs.Str.{bytes_eq}
use Rattle.csv_records.specs.Fields.{field}
use Rattle.csv_records.specs.Rows.{Means, rows_in}
use Rattle.csv_records.specs.declared.fault.Fault.{Fault}
use Rattle.csv_records.specs.declared.fault.Fault.TheVariants.{At}
use Rattle.mc_task.specs.NameForm.{is_name}
use Rattle.numeral.specs.Numeral.{number}
use Rattle.demand_test.specs.Refusals.{◌>>=◌, refuse_if, or_refuse}
use Rattle.demand_test.specs.declared.demand.Demand.{Demand}
use Rattle.demand_test.specs.declared.fault.DemandCause.{DemandCause}
use Rattle.demand_test.specs.declared.fault.DemandCause.TheVariants.{Header, Empty, TooMany, BadRecord, BadName, SameName, BadNumber, ZeroNumber, DeadlineOrder, Range}
use Rattle.demand_test.specs.DemandSet.{hyperperiod, most_lcm}

-- the record is `task,period,deadline,budget`
abbrev pub is_header : List (List ℕ) → Bool
is_header fields =
    pointwise bytes_eq fields (codes "task" ∷ codes "period" ∷ codes "deadline" ∷ codes "budget" ∷ [])

-- whether one of the tasks has the name
abbrev pub has_name : List ℕ → List Demand → Bool
has_name name [] = false
has_name name (t ∷ ts) = bytes_eq t.name name || has_name name ts

-- the name in a field of a record after these tasks
abbrev pub name_of : List Demand → List ℕ → Result (List ℕ) DemandCause
name_of before name = do
  _ ← refuse_if (not (is_name name)) BadName
  _ ← refuse_if (has_name name before) SameName
  Ok name

-- the task of this name with the numbers in the other fields
abbrev pub numbered_task : List ℕ → List (List ℕ) → Result Demand DemandCause
numbered_task name fields = do
  period ← or_refuse BadNumber (number (field fields 1))
  deadline ← or_refuse BadNumber (number (field fields 2))
  budget ← or_refuse BadNumber (number (field fields 3))
  Ok (record { name = name; period = period; deadline = deadline; budget = budget })

-- the hyperperiod with this task's period, if its numbers may stand after the tasks before it
abbrev pub multiple_with : List Demand → Demand → Result ℕ DemandCause
multiple_with before t = do
  _ ← refuse_if ((t.period == 0 || t.deadline == 0) || t.budget == 0) ZeroNumber
  _ ← refuse_if (nat_lt t.period t.deadline) DeadlineOrder
  _ ← refuse_if (nat_lt most_lcm (hyperperiod (before ++ t ∷ []))) Range
  Ok (hyperperiod (before ++ t ∷ []))

-- the task of a record after these tasks
unfoldable pub record_task : List Demand → List (List ℕ) → Result Demand DemandCause
record_task before fields = do
  _ ← refuse_if (nat_le 128 (length before)) TooMany
  _ ← refuse_if (not (length fields == 4)) BadRecord
  name ← name_of before (field fields 0)
  t ← numbered_task name fields
  _ ← multiple_with before t
  Ok t

-- what the records after this one mean, if it is the header
abbrev pub after_header : List (List ℕ) → Option (Means Demand DemandCause)
after_header fields = if is_header fields then Some record_task else None

-- these tasks, of which there must be at least one
abbrev pub some_tasks : List Demand → Result (List Demand) (Fault DemandCause)
some_tasks [] = Err (At 1 Empty)
some_tasks (t ∷ ts) = Ok (t ∷ ts)

-- the tasks of a file of these bytes
abbrev pub demands_in : List ℕ → Result (List Demand) (Fault DemandCause)
demands_in bytes = do
  tasks ← rows_in after_header Header bytes
  some_tasks tasks
