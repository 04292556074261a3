-- A task's pending job is its latest, so the stored need is that of the pending job.
use Rattle.std.proofs.Common.{◌≡◌, ◌≢◌, ℕ, suc, ◌+◌, ◌≤◌, Bool, true, false, List, [], ◌∷◌, Option, Some, None, length, cond, slice_get, take, nat_lt, ◌==◌, refl, sym, ap, ◌∙◌, subst, arith, eq-eqb, ne_eqb, inl, inr}
use Rattle.std.specs.List.{AllByRecursion}
use Rattle.std.proofs.lemmas.Bool.{cases_Bool, cases_eq}
use Rattle.std.proofs.lemmas.Option.{cond_some}
use Rattle.mc_task.specs.declared.task.Rule.{Rule}
use Rattle.mc_task.specs.declared.task.Task.{Task}
use Rattle.mc_task.specs.declared.task.JobId.{JobId}
use Rattle.mc_task.specs.TaskSet.{IsTask}
use Rattle.mc_model.specs.declared.row.Row.{Row}
use Rattle.mc_model.specs.declared.row.Row.TheVariants.{Release, Tick, Idle}
use Rattle.mc_model.specs.declared.work.WorkRow.{WorkRow}
use Rattle.mc_model.specs.Rows.{ticks, used, releases, same_job, next_release}
use Rattle.mc_model.specs.Holds.{Holds}
use Rattle.mc_model.specs.Pending.{KeptRelease}
use Rattle.mc_model.specs.Pending as model
use Rattle.mc_model.specs.Legal.{is_pending}
use Rattle.mc_model.specs.Core.{State}
use Rattle.mc_model.specs.Follows.{Arrival, arrivals, planned, need_of}
use Rattle.mc_model.specs.Work.{IsWork}
use Rattle.mc_model.proofs.Booleans.{eqb-refl}
use Rattle.mc_model.proofs.Jobs.{job_eq}
use Rattle.mc_model.proofs.Lists.{Each, Each-both, Each-filter}
use Rattle.mc_model.proofs.Fold.{pending, stays, Legal}
use Rattle.mc_model.proofs.Bridge.{IsBridged, bridge}
use Rattle.mc_model.proofs.Steps.{release_fits}
use Rattle.demand_law.specs.OneLive.{pending_of}
use Rattle.demand_law.proofs.OneLive.{none_live}
use Rattle.mode_core.specs.Events.{chosen_now}
use Rattle.mode_core.specs.Shape.{IsSound}
use Rattle.mode_core.proofs.CallerLemmas.{chooses}
use Rattle.timetable.specs.Needs.{rows_of, latest_need}
use Rattle.timetable.specs.Ticks.{is_last}
use Rattle.timetable.specs.Shape.{Runs, KeepsToWork}
use Rattle.timetable.proofs.RunsFollow.{added, arrival, release_rows}
use Rattle.timetable.proofs.Due.{arrival_of, due_before, due_index}
use Rattle.timetable.proofs.NeedsLemmas.{rows-none, rows-more}
use Rattle.timetable.proofs.Steps.{settled_none}

-- The latest job.

-- no later job of the same task was released
abbrev IsLatest : List Row → KeptRelease → Type 0
IsLatest h x = x.job.count ≡ releases h x.job.task.0

-- if none of these jobs is of task number k, each is of another task
others : (k : ℕ) (xs : List KeptRelease) → pending_of k xs ≡ 0 → Each (λ x. k ≢ x.job.task.0) xs
others k [] e = tt
others k (x ∷ xs) e = elim (cases_eq x.job.task.0 k) [
  | inl m ↦ absurd (omega (arith, rw (eq-eqb _ _ m) at e))
  | inr d ↦ (λ q. d (sym q), others k xs (omega (arith, rw (ne_eqb _ _ d) at e)))
]

-- after a release of another task a job is still the latest of its task
not_of : (j : JobId) (kept : Bool) (g : List Row) (x : KeptRelease) → j.task.0 ≢ x.job.task.0 → IsLatest g x → IsLatest (Release j kept ∷ g) x
not_of j kept g x d e = rw (ne_eqb j.task.0 x.job.task.0 d) (omega (arith, e))

-- a released task has no pending job, so all others are still the latest of their tasks
stay_latest : (set : List Task) (rule : Rule) (j : JobId) (kept : Bool) (g : List Row) → AllByRecursion IsTask set → Holds set rule → Legal set rule g → next_release set g j.task.0 ≤ ticks g → Each (IsLatest g) (pending set g) → Each (IsLatest (Release j kept ∷ g)) (pending set g)
stay_latest set rule j kept g s holds l soon ih =
    Each-both {P = λ x. j.task.0 ≢ x.job.task.0} {Q = IsLatest g} (λ x d e. not_of j kept g x d e) (pending set g) (others j.task.0 (pending set g) (none_live set rule g j.task.0 s holds l soon)) ih

-- each pending job is the latest of its task
latest : (set : List Task) (rule : Rule) (h : List Row) → AllByRecursion IsTask set → Holds set rule → Legal set rule h → Each (IsLatest h) (pending set h)
latest set rule [] s holds l = tt
latest set rule (Release j true ∷ g) s holds l =
    let fits = release_fits set rule j true g l.1 in
    (rw (eqb-refl j.task.0) (omega (arith, fits.count)), stay_latest set rule j true g s holds l.2 fits.soon (latest set rule g s holds l.2))
latest set rule (Release j false ∷ g) s holds l = stay_latest set rule j false g s holds l.2 (release_fits set rule j false g l.1).soon (latest set rule g s holds l.2)
latest set rule (Tick j how ∷ g) s holds l = Each-filter (IsLatest g) (stays set j how) (pending set g) (latest set rule g s holds l.2)
latest set rule (Idle ∷ g) s holds l = latest set rule g s holds l.2

-- a pending job, found by its task and number, is the latest
named : (h : List Row) (j : JobId) (xs : List KeptRelease) → is_pending xs j ≡ true → Each (IsLatest h) xs → j.count ≡ releases h j.task.0
named h j [] e a = cc
named h j (x ∷ xs) e a = elim (cases_Bool (same_job j x.job)) [
  | inl m ↦ subst (λ (i : JobId). i.count ≡ releases h i.task.0) (sym (job_eq j x.job m)) a.0
  | inr m ↦ named h j xs (rw m at e) a.1
]

-- the chosen job is the latest of its task
chosen_latest : (s : State) (j : JobId) → IsSound s → chosen_now s ≡ Some j → j.count ≡ releases s.rows j.task.0
chosen_latest s j sound e =
    let b : IsBridged s.set s.rule s.rows = bridge s.set s.rule s.rows sound.good.legal in
    let waits : is_pending (model.pending s.set s.rows) j ≡ true = (chooses s.set s.rule s.rows j sound.tasks.each sound.good.legal e).waits in
    named s.rows j (pending s.set s.rows) (subst (λ (xs : List KeptRelease). is_pending xs j ≡ true) b.same waits) (latest s.set s.rule s.rows sound.tasks.each sound.holds b.legal)

-- The rows of the work that were taken.

-- the row of the work that is an arrival of task number k
pub record OfTask (work : List WorkRow) (i k : ℕ) : Type 0 where
  pub row : WorkRow
  pub here : slice_get work i ≡ Some row
  pub task : row.task.0 ≡ k

-- a planned arrival has its row of the work
pub of_task : (set : List Task) (work : List WorkRow) (n i : ℕ) (a : Arrival) → IsWork set work → slice_get (planned work n) i ≡ Some a → OfTask work i a.task
of_task set work n i a w e = go (slice_get work i) refl (sym (due_index set work n i w) ∙ e)
  where
    go : (o : Option WorkRow) → slice_get work i ≡ o → due_before n o ≡ Some a → OfTask work i a.task
    go None m k = cc
    go (Some v) m k = let p = cond_some (nat_lt v.release n) (arrival_of v) a k in record { row = v; here = m; task = ap (λ (x : Arrival). x.task) p.1 }

-- 1 if two numbers are equal, otherwise 0
abbrev is_one : ℕ → ℕ → ℕ
is_one i k = cond (i == k) 1 0

-- a task's releases are its rows among those that were taken
taken_rows : (set : List Task) (rule : Rule) (work : List WorkRow) (n : ℕ) (h : List Row) (k : ℕ) → IsWork set work → Runs set rule work n h → releases h k ≡ rows_of k (take (length (arrivals h)) work)
taken_rows set rule work n [] k w r = sym (rows-none work k)
taken_rows set rule work n (Release j kept ∷ g) k w r =
    let ih : releases g k ≡ rows_of k (take (length (arrivals g)) work) = taken_rows set rule work n g k w r.1 in
    let x = added set rule work n g (Release j kept) r.0 in
    let v : OfTask work (length (arrivals g)) j.task.0 = of_task set work n (length (arrivals g)) (arrival j.task.0 (ticks g)) w (x.head_is ∙ release_rows set rule work g x.head j kept x.row_is) in
    let more : rows_of k (take (suc (length (arrivals g))) work) ≡ cond (v.row.task.0 == k) 1 0 + rows_of k (take (length (arrivals g)) work) = rows-more work (length (arrivals g)) k v.row v.here in
    let same : is_one v.row.task.0 k ≡ is_one j.task.0 k = ap (λ (i : ℕ). is_one i k) v.task in
    let one : length (arrivals (Release j kept ∷ g)) ≡ suc (length (arrivals g)) = omega arith in
    let sum : releases (Release j kept ∷ g) k ≡ rows_of k (take (suc (length (arrivals g))) work) = omega (arith, more, same, ih) in
    sum ∙ ap (λ (i : ℕ). rows_of k (take i work)) (sym one)
taken_rows set rule work n (row ∷ g) k w r = taken_rows set rule work n g k w r.1

-- whether the next tick of the chosen job is its last, by the stored need of its task
pub last_by_need : (s : State) (work : List WorkRow) (n taken : ℕ) (j : JobId) → IsSound s → KeepsToWork s work n taken → s.out ≡ None → chosen_now s ≡ Some j → (used s.rows j + 1 == latest_need work taken j.task.0) ≡ is_last work s.rows j
last_by_need s work n taken j sound r o e =
    let rows = settled_none work s o in
    let taken_are : taken ≡ length (arrivals s.rows) = r.taken_are ∙ ap (λ (g : List Row). length (arrivals g)) rows in
    let runs : Runs s.set s.rule work n s.rows = subst (λ (g : List Row). Runs s.set s.rule work n g) rows r.runs in
    let count : rows_of j.task.0 (take taken work) ≡ j.count = ap (λ (i : ℕ). rows_of j.task.0 (take i work)) taken_are ∙ (sym (taken_rows s.set s.rule work n s.rows j.task.0 r.schedule.is_work runs) ∙ sym (chosen_latest s j sound e)) in
    ap (λ (c : ℕ). used s.rows j + 1 == need_of work j.task.0 c) count
