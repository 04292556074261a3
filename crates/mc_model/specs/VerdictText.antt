-- The line of a verdict.
use Rattle.std.specs.Prelude.{ℕ, List, [], ◌++◌, Option, Some, None, codes, decimal}
use Rattle.mc_task.specs.declared.task.Task.{Task}
use Rattle.mc_task.specs.declared.task.JobId.{JobId}
use Rattle.mc_task.specs.TaskSet.{task_at, name_in}
use Rattle.mc_model.specs.declared.verdict.Why.{Why}
use Rattle.mc_model.specs.declared.verdict.Why.TheVariants.{TooSoon, WrongCount, WrongKept, NotPending, NotLeast, WrongHow, IdlePending}
use Rattle.mc_model.specs.declared.verdict.Verdict.{Verdict}
use Rattle.mc_model.specs.declared.verdict.Verdict.TheVariants.{Legal, Illegal}

-- the word for the part of a row that fails
abbrev pub why_word : Why → List ℕ
why_word TooSoon = codes "too_soon"
why_word WrongCount = codes "wrong_count"
why_word WrongKept = codes "wrong_kept"
why_word NotPending = codes "not_pending"
why_word NotLeast = codes "not_least"
why_word WrongHow = codes "wrong_how"
why_word IdlePending = codes "idle_pending"

-- the first late job, if there is one: its task's name and its number
abbrev pub first_words : List Task → Option JobId → List ℕ
first_words set None = []
first_words set (Some j) =
    codes " first " ++ (name_in (task_at set j.task.0) ++ (codes " " ++ decimal j.count))

-- the line of a verdict
unfoldable pub verdict_line : List Task → Verdict → List ℕ
verdict_line set (Legal late first) =
    codes "legal late " ++ (decimal late ++ (first_words set first ++ codes "\n"))
verdict_line set (Illegal place why) =
    codes "illegal row " ++ (decimal place ++ (codes " " ++ (why_word why ++ codes "\n")))
