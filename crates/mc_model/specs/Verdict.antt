-- The verdict on a trace: the first row that does not fit the rows before it, or else how many jobs are late.
-- The newest row stands first.
use Rattle.std.specs.Prelude.{◌≡◌, ℕ, ◌+◌, List, [], ◌∷◌, Option, Some, None, length, option_map, slice_get}
use Rattle.std.specs.Option.{option_or}
use Rattle.mc_task.specs.declared.task.Task.{Task}
use Rattle.mc_task.specs.declared.task.Rule.{Rule}
use Rattle.mc_task.specs.declared.task.JobId.{JobId}
use Rattle.mc_model.specs.Legal.{fault}
use Rattle.mc_model.specs.Late.{late}
use Rattle.mc_model.specs.declared.row.Row.{Row}
use Rattle.mc_model.specs.declared.verdict.Why.{Why}
use Rattle.mc_model.specs.declared.verdict.Verdict.{Verdict}
use Rattle.mc_model.specs.declared.verdict.Verdict.TheVariants.{Legal, Illegal}

-- a row that does not fit: its number, from 1, and the first of its parts that fails
pub record RowFault : Type 0 where
  pub place : ℕ
  pub why : Why

-- the oldest row that does not fit the rows before it, if any
abbrev pub first_unfit : List Task → Rule → List Row → Option RowFault
first_unfit set rule [] = None
first_unfit set rule (row ∷ g) =
    option_or (first_unfit set rule g)
    (option_map (λ why. record { place = length g + 1; why = why }) (fault set rule row g))

-- the first row that does not fit, or, if each row fits, how many jobs are late and which of them was
-- released first
abbrev pub verdict_of : Option RowFault → List JobId → Verdict
verdict_of (Some f) lates = Illegal f.place f.why
verdict_of None lates = Legal (length lates) (slice_get lates 0)

-- the verdict on a trace of the set under the rule
abbrev pub verdict : List Task → Rule → List Row → Verdict
verdict set rule h = verdict_of (first_unfit set rule h) (late set h)

-- the verdict is not one of a legal trace with a late job
abbrev pub HasNoLate : Verdict → Type 0
HasNoLate (Legal late first) = (late ≡ 0) × (first ≡ None)
HasNoLate (Illegal place why) = Unit {0}
