-- A list of work has no bad row.
use Rattle.std.proofs.Common.{◌≡◌, ℕ, ◌+◌, ◌≤◌, inl, inr, false, ◌==◌, nat_le, nat_lt, cond, List, [], ◌∷◌, ◌++◌, length, Option, Some, None, refl, sym, subst, arith, append_assoc, length-append}
use Rattle.std.proofs.lemmas.Bool.Decides.{nat_tests, eqb_tells}
use Rattle.std.specs.Option.{option_or}
use Rattle.mc_task.specs.declared.task.Task.{Task}
use Rattle.mc_task.specs.TaskSet.{IsTask, task_at}
use Rattle.mc_model.specs.TaskNumbers.{period_in}
use Rattle.mc_model.specs.Work.{MayFollow, AllFollow, IsNeed, IsWork}
use Rattle.mc_model.specs.declared.work.WorkRow.{WorkRow}
use Rattle.mc_model.proofs.Lists.{Each}
use Rattle.mc_model.proofs.Tasks.{IsKnown, known}
use Rattle.work_file.specs.Rows.{last_release, last_of, period_after, next_allowed, time_fault, task_fault, row_fault, first_bad_after, first_bad}

follows : (set : List Task) (v : WorkRow) (vs : List WorkRow) (w : WorkRow) (ws : List WorkRow) → AllFollow set v (vs ++ w ∷ ws) → MayFollow set v w
follows set v [] w ws h = h.0
follows set v (u ∷ us) w ws h = follows set v us w ws h.1

need_at : (set : List Task) (before : List WorkRow) (w : WorkRow) (ws : List WorkRow) → IsWork set (before ++ w ∷ ws) → IsNeed set w
need_at set [] w ws h = h.0
need_at set (v ∷ vs) w ws h = need_at set vs w ws h.2

-- a row of a list of work may stand after each row before it
after_each : (set : List Task) (before : List WorkRow) (w : WorkRow) (ws : List WorkRow) → IsWork set (before ++ w ∷ ws) → Each (λ v. MayFollow set v w) before
after_each set [] w ws h = tt
after_each set (v ∷ vs) w ws h = (follows set v vs w ws h.1, after_each set vs w ws h.2)

last-le : (set : List Task) (before : List WorkRow) (w : WorkRow) → Each (λ v. MayFollow set v w) before → last_release before ≤ w.release
last-le set [] w h = omega arith
last-le set (v ∷ []) w h = h.0.order
last-le set (v ∷ u ∷ us) w h = last-le set (u ∷ us) w h.1

next-le : (set : List Task) (before : List WorkRow) (w : WorkRow) → Each (λ v. MayFollow set v w) before → next_allowed set before w.task.0 ≤ w.release
next-le set [] w h = omega arith
next-le set (v ∷ vs) w h = go (last_of w.task.0 vs) (next-le set vs w h.1)
  where
    p : ℕ
    p = period_in (task_at set w.task.0)

    go : (o : Option WorkRow) → period_after (period_in (task_at set w.task.0)) o ≤ w.release → period_after (period_in (task_at set w.task.0)) (option_or o (cond (v.task.0 == w.task.0) (Some v) None)) ≤ w.release
    go (Some x) known = known
    go None known =
        elim (eqb_tells v.task.0 w.task.0) [
          | inl t ↦ rw (t.0) (subst (λ k. v.release + period_in (task_at set k) ≤ w.release) (t.1) (h.0.apart (t.1)))
          | inr t ↦ rw (t.0) (omega arith)
        ]

no_time_fault : (set : List Task) (before : List WorkRow) (w : WorkRow) → 1 ≤ w.need → last_release before ≤ w.release → next_allowed set before w.task.0 ≤ w.release → time_fault set before w ≡ None
unfolding time_fault
no_time_fault set before w need last next =
    let a : (w.need == 0) ≡ false = grind (arith, nat_tests) in
    let b : nat_lt w.release (last_release before) ≡ false = grind (arith, nat_tests) in
    let c : nat_lt w.release (next_allowed set before w.task.0) ≡ false = grind (arith, nat_tests) in
    rw (a, b, c) refl

no_task_fault : (set : List Task) (before : List WorkRow) (w : WorkRow) (o : Option Task) → IsKnown o → time_fault set before w ≡ None → task_fault set before w o ≡ None
no_task_fault set before w None known none = absurd (let period : 1 ≤ 0 = known.period in omega arith)
no_task_fault set before w (Some t) known none = none

no_row_fault : (set : List Task) (before : List WorkRow) (w : WorkRow) (ws : List WorkRow) → Each IsTask set → IsWork set (before ++ w ∷ ws) → length (before ++ w ∷ ws) ≤ 1000000 → row_fault set before w ≡ None
unfolding row_fault
no_row_fault set before w ws each work few =
    let need = need_at set before w ws work in
    let each_before = after_each set before w ws work in
    let room : nat_le 1000000 (length before) ≡ false = grind (arith, nat_tests, length-append before (w ∷ ws)) in
    rw room (no_task_fault set before w (task_at set w.task.0) (known set w.task.0 each need.task) (no_time_fault set before w need.need (last-le set before w each_before) (next-le set before w each_before)))

none_after : (set : List Task) (before ws : List WorkRow) → Each IsTask set → IsWork set (before ++ ws) → length (before ++ ws) ≤ 1000000 → first_bad_after set before ws ≡ None
none_after set before [] each work few = refl
none_after set before (w ∷ ws) each work few =
    let apart : (before ++ w ∷ []) ++ ws ≡ before ++ w ∷ ws = append_assoc before (w ∷ []) ws in
    rw (no_row_fault set before w ws each work few)
    (none_after set (before ++ w ∷ []) ws each (subst (λ rows. IsWork set rows) (sym apart) work) (subst (λ rows. length rows ≤ 1000000) (sym apart) few))

-- `Work::new` takes each list of work of at most 1,000,000 rows
pub work-accepted : (set : List Task) (rows : List WorkRow) → Each IsTask set → IsWork set rows → length rows ≤ 1000000 → first_bad set rows ≡ None
work-accepted set rows each work few = none_after set [] rows each work few
