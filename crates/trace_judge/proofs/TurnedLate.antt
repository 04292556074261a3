-- The jobs that became late by a run are those that are pending and whose deadlines came with it.
use Rattle.std.proofs.Common.{[], ◌≡◌, ℕ, ◌+◌, ◌≤◌, Bool, true, false, not, ◌&&◌, List, ◌∷◌, ◌++◌, cond, filter, map, nat_le, reverse, replicate, refl, sym, ap, ◌∙◌, subst, arith}
use Rattle.std.specs.List.{AllByRecursion, sum_by}
use Rattle.std.specs.List.Sorted.{IsPermutation}
use Rattle.std.proofs.lemmas.List.Sorted.{sum_by-IsPermutation}
use Rattle.std.proofs.lemmas.List.Sums.{sum_by-cons}
use Rattle.std.proofs.lemmas.Bool.Decides.{nat_tests}
use Rattle.std.proofs.lemmas.List.{reverse-append}
use Rattle.mc_task.specs.declared.task.JobId.{JobId}
use Rattle.mc_task.specs.declared.task.Rule.{Rule}
use Rattle.mc_task.specs.declared.task.Task.{Task}
use Rattle.mc_task.specs.TaskSet.{IsTask, task_at}
use Rattle.mc_model.specs.declared.row.How.{How}
use Rattle.mc_model.specs.declared.row.How.TheVariants.{More}
use Rattle.mc_model.specs.declared.row.Row.{Row}
use Rattle.mc_model.specs.declared.row.Row.TheVariants.{Tick, Idle}
use Rattle.mc_model.specs.declared.run.Run.{Run}
use Rattle.mc_model.specs.declared.run.Run.TheVariants as run
use Rattle.mc_model.specs.TaskNumbers.{period_in}
use Rattle.mc_model.specs.Rows.{ticks}
use Rattle.mc_model.specs.Runs.{rows_of, IsRun}
use Rattle.mc_model.specs.Late.{is_late, late}
use Rattle.mc_model.specs.Legal.{Legal}
use Rattle.mc_model.specs.Sums.{total, when}
use Rattle.mc_model.proofs.Repeats.{ticks_more, ticks_idle}
use Rattle.mc_model.proofs.Runs.{alone}
use Rattle.mc_model.proofs.Steps.{legal_earlier}
use Rattle.mc_model.proofs.Sums.{total-append, total-map, total-filter, total-same, total-add}
use Rattle.mc_model.proofs.Tasks.{known}
use Rattle.trace_judge.specs.declared.state.State.{State}
use Rattle.trace_judge.specs.Entries.{Entry}
use Rattle.trace_judge.specs.Placed.{Placed, new_one, placed, waiting, stays, is_due, gone_late}
use Rattle.trace_judge.specs.Tracks.{Tracks, entry_of}
use Rattle.trace_judge.specs.declared.turned.Turned.{Turned}
use Rattle.trace_judge.specs.Turned.{is_turned, is_turned_entry, turned_entry, turned_of, pending_placed, turned_job, AreTurned, AddLate}
use Rattle.trace_judge.proofs.Keeps.{waiting_more, gone_more, waiting_idle, gone_idle}
use Rattle.trace_judge.proofs.LateTotal.{late_total}
use Rattle.trace_judge.proofs.Placed.{waiting_is}
use Rattle.trace_judge.proofs.Verdicts.{late_is}

-- a reversed list has the same sums
total-reverse : {X : Type 0} (f : X → ℕ) → (xs : List X) → total f (reverse xs) ≡ total f xs
total-reverse f [] = refl
total-reverse f (x ∷ xs) = ap (total f) (reverse-append (x ∷ []) xs) ∙ (total-append f (reverse xs) (x ∷ []) ∙ omega (arith, total-reverse f xs))

-- std's sum over a list
total_is : {X : Type 0} (f : X → ℕ) → (xs : List X) → total f xs ≡ sum_by f xs
total_is f [] = refl
total_is f (x ∷ xs) = omega (arith, total_is f xs, sum_by-cons f x xs)

-- a list in another order has the same sums
pub total-permutation : {X : Type 0} (f : X → ℕ) → (xs ys : List X) → IsPermutation xs ys → total f ys ≡ total f xs
total-permutation f xs ys p = total_is f ys ∙ (sum_by-IsPermutation f xs ys p ∙ sym (total_is f xs))

-- nothing weighs nothing
total-zero : {X : Type 0} (xs : List X) → total (λ x. 0) xs ≡ 0
total-zero [] = refl
total-zero (x ∷ xs) = omega (arith, total-zero xs)

-- a deadline that has come by a boundary had come before, or has come since
since_then : (d t u n : ℕ) → t ≤ u → ◌≡◌ {A = ℕ} (cond (nat_le d u) n 0) (cond (nat_le d t) n 0 + cond (nat_le d u && not (nat_le d t)) n 0)
since_then d t u n h = grind (arith, nat_tests)

-- the sums over deadlines that have come split in the same way if the same jobs are pending
same_waiting : (set : List Task) (t u : ℕ) → t ≤ u → (f : Placed → ℕ) (ws : List Placed) →
    total (when (is_due set u) f) ws ≡ total (when (is_due set t) f) ws + total (when (λ x. is_turned set t u x.kept) f) ws
same_waiting set t u h f ws =
    total-same (when (is_due set u) f) (λ x. when (is_due set t) f x + when (λ x. is_turned set t u x.kept) f x) (λ x. since_then _ t u (f x) h) ws
    ∙ total-add (when (is_due set t) f) (when (λ x. is_turned set t u x.kept) f) ws

-- no job turns late from a boundary to the same boundary
none_turned : (set : List Task) (t : ℕ) (f : Placed → ℕ) (ws : List Placed) → total (when (λ x. is_turned set t t x.kept) f) ws ≡ 0
none_turned set t f ws = total-same (when (λ x. is_turned set t t x.kept) f) (λ x. 0) (λ x. grind arith) ws ∙ total-zero ws

-- if some pending jobs stay, and the others are gone late where their deadlines had come, only those that
-- stay turn late
some_stay : (set : List Task) (t u : ℕ) → t ≤ u → (st : Placed → Bool) (f : Placed → ℕ) (ws : List Placed) →
    total f (filter (λ x. not (st x) && is_due set t x) ws) + total (when (is_due set u) f) (filter st ws)
    ≡ total (when (is_due set t) f) ws + total (when (λ x. is_turned set t u x.kept) f) (filter st ws)
some_stay set t u h st f ws =
    let gone : Placed → Bool = λ x. not (st x) && is_due set t x in
    let turned : Placed → Bool = λ x. is_turned set t u x.kept in
    let each = total-same (λ x. when gone f x + when st (when (is_due set u) f) x) (λ x. when (is_due set t) f x + when st (when turned f) x) (λ x. one_stays (st x) _ t u (f x) h) ws in
    rw (total-filter f gone ws, total-filter (when (is_due set u) f) st ws, total-filter (when turned f) st ws)
    (sym (total-add (when gone f) (when st (when (is_due set u) f)) ws) ∙ (each ∙ total-add (when (is_due set t) f) (when st (when turned f)) ws))
  where
    one_stays : (s : Bool) (d t u n : ℕ) → t ≤ u →
        ◌≡◌ {A = ℕ} (cond (not s && nat_le d t) n 0 + cond s (cond (nat_le d u) n 0) 0) (cond (nat_le d t) n 0 + cond s (cond (nat_le d u && not (nat_le d t)) n 0) 0)
    one_stays true d t u n h = omega (arith, since_then d t u n h)
    one_stays false d t u n h = omega arith

-- a job is not late when it is released
new_in_time : (set : List Task) (j : JobId) (g : List Row) (f : Placed → ℕ) → 1 ≤ period_in (task_at set j.task.0) → when (is_due set (ticks g)) f (new_one j g) ≡ 0
new_in_time set j g f h = grind (arith, nat_tests, h)

-- the late jobs after one tick that ends its job or overruns
one_tick : (set : List Task) (j : JobId) (how : How) (h : List Row) (f : Placed → ℕ) →
    total f (gone_late set (Tick j how ∷ h)) + total (when (is_due set (ticks h + 1)) f) (waiting set (Tick j how ∷ h))
    ≡ (total f (gone_late set h) + total (when (is_due set (ticks h)) f) (waiting set h)) + total (when (λ x. is_turned set (ticks h) (ticks h + 1) x.kept) f) (waiting set (Tick j how ∷ h))
one_tick set j how h f =
    omega (arith, total-append f (filter (λ x. not (stays set j how x) && is_due set (ticks h) x) (waiting set h)) (gone_late set h), some_stay set (ticks h) (ticks h + 1) (omega arith) (stays set j how) f (waiting set h))

-- the late jobs after a run, by those before it
run_late : (set : List Task) (rule : Rule) (r : Run) (h : List Row) → IsRun r → Legal set rule (rows_of r ++ h) → AllByRecursion IsTask set → (f : Placed → ℕ) →
    total f (gone_late set (rows_of r ++ h)) + total (when (is_due set (ticks (rows_of r ++ h))) f) (waiting set (rows_of r ++ h))
    ≡ (total f (gone_late set h) + total (when (is_due set (ticks h)) f) (waiting set h)) + total (when (λ x. is_turned set (ticks h) (ticks (rows_of r ++ h)) x.kept) f) (waiting set (rows_of r ++ h))
run_late set rule (run.Release j true) h i l each f =
    omega (arith, new_in_time set j h f (known set j.task.0 each l.0).period, none_turned set (ticks h) f (new_one j h ∷ waiting set h))
run_late set rule (run.Release j false) h i l each f = omega (arith, none_turned set (ticks h) f (waiting set h))
run_late set rule (run.Idles n) h i l each f =
    rw (gone_idle set n h, waiting_idle set n h)
    (omega (arith, same_waiting set (ticks h) (ticks (replicate n Idle ++ h)) (omega (arith, ticks_idle n h)) f (waiting set h)))
run_late set rule (run.Ticks j More n) h i l each f =
    rw (gone_more set j n h, waiting_more set j n h)
    (omega (arith, same_waiting set (ticks h) (ticks (replicate n (Tick j More) ++ h)) (omega (arith, ticks_more j n h)) f (waiting set h)))
run_late set rule (run.Ticks j how n) h i l each f =
    subst (λ (m : ℕ). total f (gone_late set (replicate m (Tick j how) ++ h)) + total (when (is_due set (ticks (replicate m (Tick j how) ++ h))) f) (waiting set (replicate m (Tick j how) ++ h))
    ≡ (total f (gone_late set h) + total (when (is_due set (ticks h)) f) (waiting set h)) + total (when (λ x. is_turned set (ticks h) (ticks (replicate m (Tick j how) ++ h)) x.kept) f) (waiting set (replicate m (Tick j how) ++ h)))
    (sym (alone j how n i (λ e. cc))) (one_tick set j how h f)

-- what the late jobs of legal rows sum up to
late_sum : (set : List Task) (rule : Rule) (h : List Row) → Legal set rule h → (f : JobId → ℕ) →
    total f (late set h) ≡ total (λ (x : Placed). f x.kept.job) (gone_late set h) + total (when (is_due set (ticks h)) (λ (x : Placed). f x.kept.job)) (waiting set h)
late_sum set rule h l f =
    ap (total f) (late_is set h)
    ∙ (total-reverse f (map (λ (x : Placed). x.kept.job) (filter (λ x. is_late set h x.kept) (placed h)))
    ∙ (total-map f (λ (x : Placed). x.kept.job) (filter (λ x. is_late set h x.kept) (placed h))
    ∙ (total-filter (λ (x : Placed). f x.kept.job) (λ x. is_late set h x.kept) (placed h)
    ∙ late_total set rule h l (λ (x : Placed). f x.kept.job))))

-- what the entries whose jobs turned late sum up to
turned_sum : (set : List Task) (rule : Rule) (h : List Row) (s : State) (since : ℕ) → Tracks set rule h s → (f : Turned → ℕ) →
    total f (turned_of set since s.ticks s.waiting.entries) ≡ total (when (λ x. is_turned set since (ticks h) x.kept) (λ x. f (turned_job set x))) (waiting set h)
turned_sum set rule h s since t f =
    let p : Entry → Bool = is_turned_entry set since s.ticks in
    total-map f (turned_entry set) (filter p s.waiting.entries)
    ∙ (total-filter (λ e. f (turned_entry set e)) p s.waiting.entries
    ∙ (t.waiting (when p (λ e. f (turned_entry set e)))
    ∙ total-same (λ x. when p (λ e. f (turned_entry set e)) (entry_of set rule h x)) (when (λ x. is_turned set since (ticks h) x.kept) (λ x. f (turned_job set x))) (λ x. rw t.ticks refl) (waiting set h)))

-- jobs with the sums of the entries that turned late are the pending ones whose deadlines have come since
pub are_turned : (set : List Task) (rule : Rule) (h : List Row) (s : State) (since : ℕ) (ts : List Turned) → Legal set rule h → Tracks set rule h s →
    ((f : Turned → ℕ) → total f ts ≡ total f (turned_of set since s.ticks s.waiting.entries)) → AreTurned set h since ts
are_turned set rule h s since ts l t same f =
    let q : Placed → Bool = λ x. is_turned set since (ticks h) x.kept in
    let g : Placed → ℕ = λ x. f (turned_job set x) in
    let listed = total-map f (turned_job set) (filter q (pending_placed set h))
    ∙ (total-filter g q (pending_placed set h)
    ∙ ap (total (when q g)) (waiting_is set rule h l)) in
    same f ∙ (turned_sum set rule h s since t f ∙ sym listed)

-- jobs with the sums of the entries that turned late are the ones that became late by the run
pub add_late : (set : List Task) (rule : Rule) (r : Run) (h : List Row) (s : State) (since : ℕ) (ts : List Turned) → IsRun r → AllByRecursion IsTask set → since ≡ ticks h → Legal set rule (rows_of r ++ h) → Tracks set rule (rows_of r ++ h) s →
    ((f : Turned → ℕ) → total f ts ≡ total f (turned_of set since s.ticks s.waiting.entries)) → AddLate set r h ts
add_late set rule r h s since ts i each e l t same f =
    let now : total (λ (x : Turned). f x.job) ts ≡ total (when (λ x. is_turned set (ticks h) (ticks (rows_of r ++ h)) x.kept) (λ (x : Placed). f x.kept.job)) (waiting set (rows_of r ++ h)) =
    same (λ x. f x.job)
    ∙ (turned_sum set rule (rows_of r ++ h) s since t (λ x. f x.job)
    ∙ ap (λ (n : ℕ). total (when (λ x. is_turned set n (ticks (rows_of r ++ h)) x.kept) (λ (x : Placed). f x.kept.job)) (waiting set (rows_of r ++ h))) e) in
    omega (arith, late_sum set rule (rows_of r ++ h) l f, late_sum set rule h (legal_earlier set rule (rows_of r) h l) f, run_late set rule r h i l each (λ (x : Placed). f x.kept.job), now)
