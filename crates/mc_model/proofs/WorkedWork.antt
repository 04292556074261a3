-- The definitions of which job runs and of what it needs, computed at worked rows.
use Rattle.std.proofs.Common.{◌≡◌, ℕ, true, false, List, [], ◌∷◌, map, reverse, refl}
use Rattle.mc_task.specs.declared.task.Rule.TheVariants.{Plain}
use Rattle.mc_task.specs.declared.task.JobId.{JobId}
use Rattle.mc_model.specs.declared.row.Row.{Row}
use Rattle.mc_model.specs.declared.row.Row.TheVariants.{Release}
use Rattle.mc_model.specs.declared.work.WorkRow.{WorkRow}
use Rattle.mc_model.specs.Pending.{pending}
use Rattle.mc_model.specs.Legal.{is_least}
use Rattle.mc_model.specs.Follows.{is_lowest, need_of}
use Rattle.mc_model.proofs.WorkedSets.{low_pair}

-- the c-th job of task number k
abbrev job : ℕ → ℕ → JobId
job k c = record { task = record { 0 = k }; count = c }

-- two jobs with equal keys are pending, and the first task has no second job yet
abbrev of_one_key : List Row
of_one_key = reverse (Release (job 1 1) true ∷ Release (job 2 1) true ∷ [])

both_have_a_least_key : map (is_least low_pair Plain false (pending low_pair of_one_key)) (job 1 1 ∷ job 2 1 ∷ job 1 2 ∷ []) ≡ true ∷ true ∷ false ∷ []
both_have_a_least_key = refl

the_lower_number_goes_first : map (is_lowest low_pair Plain false (pending low_pair of_one_key)) (job 1 1 ∷ job 2 1 ∷ job 1 2 ∷ []) ≡ true ∷ false ∷ false ∷ []
the_lower_number_goes_first = refl

-- a row of work: the task's number, the release time and the need
abbrev row : ℕ → ℕ → ℕ → WorkRow
row task release need = record { task = record { 0 = task }; release = release; need = need }

jobs_have_their_needs_by_count : map (need_of (row 2 0 3 ∷ row 1 4 1 ∷ row 2 10 5 ∷ []) 2) (0 ∷ 1 ∷ 2 ∷ 3 ∷ []) ≡ 0 ∷ 3 ∷ 5 ∷ 0 ∷ []
jobs_have_their_needs_by_count = refl
