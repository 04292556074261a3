-- What the judge says of given rows, in numbers.
use Rattle.std.specs.Prelude.{◌≡◌, ◌≢◌, ℕ, ◌==◌, ◌&&◌, ◌<◌, ◌≤◌, ◌^◌, ◌⊎◌, MatchBool, All, List, length, map, reverse, Some, None, slice_get}
use Rattle.mc_task.specs.declared.task.Task.{Task}
use Rattle.mc_task.specs.declared.task.Rule.{Rule}
use Rattle.mc_task.specs.declared.task.Rule.TheVariants.{Virtual}
use Rattle.mc_task.specs.TaskSet.{AreTasks}
use Rattle.mc_model.specs.Legal.{IsOfSet}
use Rattle.mc_model.specs.Loads.{range_fault}
use Rattle.mc_model.specs.Test.{published}
use Rattle.mc_model.specs.declared.row.Row.{Row}
use Rattle.mc_model.specs.declared.verdict.Why.{Why}
use Rattle.mc_model.specs.declared.verdict.Why.TheVariants as why
use Rattle.mc_model.specs.declared.verdict.Verdict.{Verdict}
use Rattle.mc_model.specs.declared.verdict.Verdict.TheVariants.{Legal, Illegal}
use Rattle.mc_model.specs.Verdict.{verdict}
use Rattle.edfvd_c.specs.declared.sets.given.CTask.{CTask}
use Rattle.edfvd_c.specs.declared.row.CRow.{CRow}
use Rattle.edfvd_c.specs.declared.traces.judged.CVerdict.{CVerdict}
use Rattle.edfvd_c.specs.Sets.Given.{AreOf}
use Rattle.edfvd_c.specs.Row.{row_in, row_numbers, task_number, count_number}
use Rattle.edfvd_c.specs.Sets.Refused.{AreNotAdmitted, IsRefused}
use Rattle.edfvd_c.specs.Status.{PERIODS, NOT_ADMITTED, NO_TASK, FULL, ARGUMENT}

-- which rule a row breaks, from 1
abbrev pub why_number : Why → ℕ
why_number why.TooSoon = 1
why_number why.WrongCount = 2
why_number why.WrongKept = 3
why_number why.NotPending = 4
why_number why.NotLeast = 5
why_number why.WrongHow = 6
why_number why.IdlePending = 7

-- `why` is 0 for a legal trace; `place` is the number, from 1, of the row that does not fit
abbrev pub judged : Verdict → CVerdict
judged (Legal late first) = record {
  why = 0;
  task = task_number first;
  count = count_number first;
  late = late;
  place = 0;
}
judged (Illegal place y) = record { why = why_number y; task = 0; count = 0; late = 0; place = place }

-- p and q are a scale
pub record IsScale (p q : ℕ) : Type 0 where
  pub some : 1 ≤ p
  pub ordered : p ≤ q
  pub small : q ≤ 2 ^ 60

-- p and q name a rule: both are 0, which is that of the published test, or they are a scale
abbrev pub NameRule : ℕ → ℕ → Type 0
NameRule p q = ((p ≡ 0) × (q ≡ 0)) ⊎ IsScale p q

-- the rule that p and q name for tasks: if both are 0, that of the published test, for which the tasks are within range;
-- otherwise EDF-VD with the scale p/q
abbrev pub IsRule : ℕ → ℕ → List Task → Rule → Type 0
IsRule p q tasks rule =
    MatchBool (p == 0 && q == 0) ((range_fault tasks ≡ None) × (published tasks ≡ Some rule)) (IsScale p q × (rule ≡ Virtual p q))

-- the tasks have these numbers and are a set, and this is the rule that p and q name for them
pub record AreUnderRule (given : List CTask) (p q : ℕ) (tasks : List Task) (rule : Rule) : Type 0 where
  pub numbers : AreOf given tasks
  pub set : AreTasks tasks
  pub named : IsRule p q tasks rule

-- p and q name a rule for the tasks with these numbers, which are a set
abbrev pub HaveRule : List CTask → ℕ → ℕ → Type 0
HaveRule given p q = (tasks : List Task) × (rule : Rule) × AreUnderRule given p q tasks rule

-- the tasks with these numbers are a set, and p and q name no rule
abbrev pub HaveNoScale : List CTask → ℕ → ℕ → Type 0
HaveNoScale given p q = (tasks : List Task) × AreOf given tasks × AreTasks tasks × ¬ NameRule p q

-- why the given tasks have no rule. They may be refused, for their periods only under the published test. Or that test does not admit
-- them, or p and q name no rule; then no task is stored
pub record HaveNoRule (given : List CTask) (p q status task : ℕ) : Type 0 where
  pub refused : status ≢ NOT_ADMITTED → status ≢ ARGUMENT → IsRefused given status task
  pub range : status ≡ PERIODS → (p ≡ 0) × (q ≡ 0)
  pub not_admitted : status ≡ NOT_ADMITTED → (p ≡ 0) × (q ≡ 0) × AreNotAdmitted given × (task ≡ 0)
  pub no_scale : status ≡ ARGUMENT → HaveNoScale given p q × (task ≡ 0)

-- some of the numbers stand for no row
abbrev pub HaveNoRow : List CRow → Type 0
HaveNoRow given = (k : ℕ) × (r : CRow) × (slice_get given k ≡ Some r) × (row_in r ≡ None)

-- the numbers stand for rows, of which one is of a task that the set does not have
abbrev pub HaveNoTask : List Task → List CRow → Type 0
HaveNoTask tasks given = (rows : List Row) × (map row_numbers rows ≡ given) × ¬ All (IsOfSet tasks) rows

-- the tasks are under this rule, the rows are as given, at most 2,000,000 and of the set, and this is the verdict on them
pub record IsJudged (tasks_given : List CTask) (rows_given : List CRow) (p q : ℕ) (found : CVerdict) : Type 0 where
  pub tasks : List Task
  pub rule : Rule
  pub under : AreUnderRule tasks_given p q tasks rule
  pub few : length rows_given ≤ 2000000
  pub rows : List Row
  pub are : map row_numbers rows ≡ rows_given
  pub of_set : All (IsOfSet tasks) rows
  pub result : found ≡ judged (verdict tasks rule (reverse rows))

-- why rows are not judged: the tasks have no rule; or they have one, and then there are more than 2,000,000 rows, or numbers
-- of no row, or a row of a task that the set does not have
pub record IsUnjudged (tasks_given : List CTask) (rows_given : List CRow) (p q status task : ℕ) : Type 0 where
  pub no_rule : status ≢ ARGUMENT → status ≢ FULL → status ≢ NO_TASK → HaveNoRule tasks_given p q status task
  pub argument : status ≡ ARGUMENT → HaveNoScale tasks_given p q
      ⊎ (HaveRule tasks_given p q × (length rows_given ≤ 2000000) × HaveNoRow rows_given)
  pub full : status ≡ FULL → HaveRule tasks_given p q × (2000000 < length rows_given)
  pub no_task : status ≡ NO_TASK → (length rows_given ≤ 2000000)
      × ((tasks : List Task) × (rule : Rule) × AreUnderRule tasks_given p q tasks rule × HaveNoTask tasks rows_given)
  pub of_none : (status ≡ ARGUMENT) ⊎ (status ≡ FULL) ⊎ (status ≡ NO_TASK) → task ≡ 0

-- a verdict with the task of a refusal, and no other number
abbrev pub refused_at : ℕ → CVerdict
refused_at task = record { why = 0; task = task; count = 0; late = 0; place = 0 }
