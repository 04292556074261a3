-- The next allowed releases of the tasks, in a list by task number.
use Rattle.std.proofs.Common.{◌≡◌, ◌≢◌, ℕ, ◌+◌, ◌<◌, Bool, true, false, ◌==◌, cond, List, [], ◌∷◌, ◌++◌, length, set, get_or, refl, sym, ap, ◌∙◌, arith}
use Rattle.std.proofs.lemmas.Bool.Decides.{nat_tests}
use Rattle.std.proofs.lemmas.Grind.{get_or-set_at}
use Rattle.std.proofs.lemmas.List.{get_or-set_other}
use Rattle.mc_task.specs.declared.task.Task.{Task}
use Rattle.mc_task.specs.TaskSet.{task_at}
use Rattle.mc_model.specs.TaskNumbers.{period_in}
use Rattle.mc_model.specs.declared.work.WorkRow.{WorkRow}
use Rattle.work_file.specs.Rows.{next_allowed}
use Rattle.work_file.proofs.RowLemmas.{next-more}

-- after one more row, the next releases are right if that of the row's own task is written
pub noted : (tasks : List Task) (before : List WorkRow) (w : WorkRow) (next : List ℕ) (place : ℕ) → place < length next → place + 1 ≡ w.task.0
    → ((i : ℕ) → i < 128 → get_or next i 0 ≡ next_allowed tasks before (i + 1))
    → (i : ℕ) → i < 128 → get_or (set next place (w.release + period_in (task_at tasks w.task.0))) i 0 ≡ next_allowed tasks (before ++ w ∷ []) (i + 1)
noted tasks before w next place inside is tracks i h = by (w.task.0 == i + 1) refl
  where
    by : (b : Bool) → w.task.0 == i + 1 ≡ b → get_or (set next place (w.release + period_in (task_at tasks w.task.0))) i 0 ≡ next_allowed tasks (before ++ w ∷ []) (i + 1)
    by true e =
        let same : w.task.0 ≡ i + 1 = grind (arith, nat_tests, e) in
        get_or-set_at next place i _ 0 (omega arith) inside
        ∙ (ap (λ (k : ℕ). w.release + period_in (task_at tasks k)) same
        ∙ (sym (ap (λ (b : Bool). cond b (w.release + period_in (task_at tasks (i + 1))) (next_allowed tasks before (i + 1))) e) ∙ sym (next-more tasks before w (i + 1))))
    by false e =
        let other : w.task.0 ≢ i + 1 = grind (arith, nat_tests, e) in
        get_or-set_other next place i _ 0 (λ (q : i ≡ place). other (omega arith))
        ∙ (tracks i h
        ∙ (sym (ap (λ (b : Bool). cond b (w.release + period_in (task_at tasks (i + 1))) (next_allowed tasks before (i + 1))) e) ∙ sym (next-more tasks before w (i + 1))))
