-- A list of tasks has the refusal that a file of these tasks has.
use Rattle.std.proofs.Common.{◌≡◌, ℕ, ◌+◌, ◌<◌, ◌^◌, Bool, true, false, nat_le, List, [], ◌∷◌, ◌++◌, length, Option, Some, None, Result, Ok, Err, IfOk, OnOk, IfErr, IsErr, refl, ◌∙◌, ap, arith}
use Rattle.std.proofs.lemmas.List.{append-nil, append_assoc}
use Rattle.csv_records.specs.Rows.{rows_with, rows_from}
use Rattle.demand_test.specs.declared.demand.Demand.{Demand}
use Rattle.demand_test.specs.declared.fault.DemandCause.{DemandCause}
use Rattle.demand_test.specs.declared.fault.DemandCause.TheVariants.{TooMany, SameName}
use Rattle.demand_test.specs.declared.fault.RefusedTask.{RefusedTask}
use Rattle.demand_test.specs.DemandFile.{has_name, multiple_with, record_task, some_tasks, demands_in}
use Rattle.demand_test.specs.DemandList.{multiple_after, refusal_from, first_refusal, IsRecordOf, AreRecordsOf, IsFileOf, in_file}
use Rattle.demand_test.specs.Refusals.{◌>>=◌, refuse_if}
use Rattle.demand_test.specs.SoFar.{IsSoFar}
use Rattle.demand_test.proofs.ReadTasks.{IsNew, so_far-push}

-- the tasks so far are a set with one more task, if it may stand after them
pub so_far_after : (before : List Demand) (t : Demand) (multiple : ℕ) (r : Result ℕ DemandCause) → IsSoFar before multiple → length before < 128 → IsNew before t.name →
    OnOk r ((t.period < 2 ^ 32) × (t.deadline < 2 ^ 32) × (t.budget < 2 ^ 32)) → r ≡ multiple_with before t → IfOk r (λ next. IsSoFar (before ++ t ∷ []) next)
so_far_after before t multiple (Err cause) so few new small e = tt
so_far_after before t multiple (Ok next) so few new small e = so_far-push before t multiple next so few new small e

-- the task with this name
abbrev renamed : Demand → List ℕ → Demand
renamed t name = record { name = name; period = t.period; deadline = t.deadline; budget = t.budget }

-- a record says its task, if the task may stand after the tasks before it
record_step : (before : List Demand) (t : Demand) (fields : List (List ℕ)) → IsRecordOf t fields → record_task before fields ≡ (multiple_after before t >>= λ m. Ok t)
unfolding record_task
record_step before t fields is = rw (is.count, is.name, is.form, is.period, is.deadline, is.budget) (by (nat_le 128 (length before)) (has_name t.name before) t.name)
  where
    by : (a b : Bool) (n : List ℕ) →
        (refuse_if a TooMany >>= λ _. (refuse_if b SameName >>= λ _. Ok n) >>= λ name. multiple_with before (renamed t name) >>= λ _. Ok (renamed t name))
        ≡ ((refuse_if a TooMany >>= λ _. refuse_if b SameName >>= λ _. multiple_with before (renamed t n)) >>= λ m. Ok (renamed t n))
    by true b n = refl
    by false true n = refl
    by false false n = refl

-- the tasks, or the refusal if there is one
abbrev listed : List Demand → Option RefusedTask → Result (List Demand) RefusedTask
listed tasks None = Ok tasks
listed tasks (Some e) = Err e

-- the records are read as the list of their tasks
rows_same : (ts : List Demand) (left : List (List (List ℕ))) (before : List Demand) → AreRecordsOf ts left → rows_from record_task left before ≡ in_file (listed (before ++ ts) (refusal_from before ts))
rows_same [] [] before h = rw (append-nil before) refl
rows_same (t ∷ ts) (fields ∷ left) before h = rw (record_step before t fields h.0) (by (multiple_after before t) refl (rows_same ts left (before ++ t ∷ []) h.1))
  where
    by : (r : Result ℕ DemandCause) → multiple_after before t ≡ r →
        rows_from record_task left (before ++ t ∷ []) ≡ in_file (listed ((before ++ t ∷ []) ++ ts) (refusal_from (before ++ t ∷ []) ts)) →
        rows_with before (rows_from record_task left) (r >>= λ m. Ok t) ≡ in_file (listed (before ++ t ∷ ts) (refusal_from before (t ∷ ts)))
    by (Err cause) e more = let line : length before + 2 ≡ length before + 1 + 1 = omega arith in rw (e, line) refl
    by (Ok m) e more = rw e (rw (append_assoc before (t ∷ []) ts) at more)
rows_same ts left before h = absurd h

-- a file of these tasks is read as the list of them
file_same : (tasks : List Demand) (text : List ℕ) → IsFileOf tasks text → demands_in text ≡ in_file (listed tasks (first_refusal tasks))
file_same [] text is = rw (is.all, is.first) (rw (rows_same [] is.left [] is.others) refl)
file_same (t ∷ ts) text is = rw (is.all, is.first) (rw (rows_same (t ∷ ts) is.left [] is.others) (by (refusal_from [] (t ∷ ts))))
  where
    by : (r : Option RefusedTask) → (in_file (listed (t ∷ ts) r) >>= some_tasks) ≡ in_file (listed (t ∷ ts) r)
    by None = refl
    by (Some e) = refl

-- a file of tasks that are not refused is read as these tasks
pub file_taken : (tasks : List Demand) (text : List ℕ) → first_refusal tasks ≡ None → IsFileOf tasks text → demands_in text ≡ Ok tasks
file_taken tasks text none is = file_same tasks text is ∙ ap (λ r. in_file (listed tasks r)) none

-- a file of tasks that are refused has the refusal
pub file_refused : (tasks : List Demand) (r : Result (List Demand) RefusedTask) → IsErr r → IfErr r (λ e. first_refusal tasks ≡ Some e) → (text : List ℕ) → IsFileOf tasks text → demands_in text ≡ in_file r
file_refused tasks (Err e) is_err some text is = file_same tasks text is ∙ ap (λ o. in_file (listed tasks o)) some
file_refused tasks (Ok set) is_err some text is = absurd (cc)
