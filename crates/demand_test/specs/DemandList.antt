-- The first refusal of a list of tasks in memory: that of an empty list, or that of the first task which fails a
-- test of demand files. How a record is written and the form of a name are not tested here.
use Rattle.std.specs.Prelude.{◌≡◌, ℕ, ◌+◌, true, nat_le, List, [], ◌∷◌, ◌++◌, length, Option, Some, None, option_map, Result, Ok, Err, IsTrue}
use Rattle.std.specs.Option.{option_or}
use Rattle.std.specs.Result.{result_err}
use Rattle.csv.specs.Reading.{default_config, records, strip_bom}
use Rattle.csv_records.specs.Fields.{field}
use Rattle.csv_records.specs.declared.fault.Fault.{Fault}
use Rattle.csv_records.specs.declared.fault.Fault.TheVariants.{At}
use Rattle.mc_task.specs.NameForm.{is_name}
use Rattle.numeral.specs.Numeral.{number}
use Rattle.demand_test.specs.Refusals.{◌>>=◌, refuse_if}
use Rattle.demand_test.specs.declared.demand.Demand.{Demand}
use Rattle.demand_test.specs.declared.fault.DemandCause.{DemandCause}
use Rattle.demand_test.specs.declared.fault.DemandCause.TheVariants.{Empty, TooMany, SameName}
use Rattle.demand_test.specs.declared.fault.RefusedTask.{RefusedTask}
use Rattle.demand_test.specs.DemandFile.{is_header, has_name, multiple_with}

-- the hyperperiod with this task, if it may stand after these tasks
abbrev pub multiple_after : List Demand → Demand → Result ℕ DemandCause
multiple_after before t = do
  _ ← refuse_if (nat_le 128 (length before)) TooMany
  _ ← refuse_if (has_name t.name before) SameName
  multiple_with before t

-- the refusal of task number k for this cause
abbrev pub refused : ℕ → DemandCause → RefusedTask
refused k cause = record { task = record { 0 = k }; cause = cause }

-- the first refusal of the tasks of the second list, which come after those of the first
abbrev pub refusal_from : List Demand → List Demand → Option RefusedTask
refusal_from before [] = None
refusal_from before (t ∷ ts) = option_or
    (option_map (refused (length before + 1)) (result_err (multiple_after before t)))
    (refusal_from (before ++ t ∷ []) ts)

-- the first refusal of a list of tasks
abbrev pub first_refusal : List Demand → Option RefusedTask
first_refusal [] = Some (refused 0 Empty)
first_refusal (t ∷ ts) = refusal_from [] (t ∷ ts)

-- the record has four fields, which say this task; its name has the form of a name
pub record IsRecordOf (t : Demand) (fields : List (List ℕ)) : Type 0 where
  pub count : length fields ≡ 4
  pub form : IsTrue (is_name t.name)
  pub name : field fields 0 ≡ t.name
  pub period : number (field fields 1) ≡ Some t.period
  pub deadline : number (field fields 2) ≡ Some t.deadline
  pub budget : number (field fields 3) ≡ Some t.budget

-- the records say these tasks, one each
abbrev pub AreRecordsOf : List Demand → List (List (List ℕ)) → Type 0
AreRecordsOf [] [] = Unit {0}
AreRecordsOf (t ∷ ts) (fields ∷ left) = IsRecordOf t fields × AreRecordsOf ts left
AreRecordsOf tasks left = ⊥

-- the records of a text are the header and one for each of these tasks
pub record IsFileOf (tasks : List Demand) (text : List ℕ) : Type 0 where
  pub header : List (List ℕ)
  pub left : List (List (List ℕ))
  pub all : records default_config (strip_bom text) ≡ header ∷ left
  pub first : is_header header ≡ true
  pub others : AreRecordsOf tasks left

-- a set, or a refusal with its line: the line after the header for task number 1
abbrev pub in_file : Result (List Demand) RefusedTask → Result (List Demand) (Fault DemandCause)
in_file (Ok tasks) = Ok tasks
in_file (Err e) = Err (At (e.task.0 + 1) e.cause)
