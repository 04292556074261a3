-- The kept releases of a legal trace: two of one task have different counts and release times.
use Rattle.std.proofs.Common.{◌≡◌, ℕ, ◌+◌, ◌<◌, ◌≤◌, Bool, true, false, List, [], ◌∷◌, cond, filter, refl, sym, subst, arith, le_refl, eq-eqb, ne_eqb, inl, inr}
use Rattle.mc_model.proofs.Booleans.{eqb-refl}
use Rattle.std.proofs.lemmas.Bool.{cases_Bool, cases_eq}
use Rattle.mc_task.specs.declared.task.Rule.{Rule}
use Rattle.mc_task.specs.declared.task.Task.{Task}
use Rattle.mc_task.specs.declared.task.JobId.{JobId}
use Rattle.mc_model.specs.declared.row.Row.{Row}
use Rattle.mc_model.specs.declared.row.Row.TheVariants.{Release}
use Rattle.std.specs.List.{AllByRecursion}
use Rattle.mc_task.specs.TaskSet.{IsTask, task_at}
use Rattle.mc_model.specs.TaskNumbers.{period_in}
use Rattle.mc_model.specs.Pending.{KeptRelease, released, pending, is_still_pending}
use Rattle.mc_model.specs.Rows.{ticks, same_job, releases, next_release}
use Rattle.mc_model.specs.Legal.{Legal}
use Rattle.mc_model.proofs.Jobs.{same_live, is_in, same_job_is, live_eq, each_in}
use Rattle.mc_model.proofs.Lists.{Each, Each-map, Each-filter}
use Rattle.mc_model.proofs.Steps.{release_fits}
use Rattle.mc_model.proofs.Tasks.{known}
use Rattle.mc_model.proofs.Counts.{grows}

-- y is of another task than x, or was released before it
pub record Older (x y : KeptRelease) : Type 0 where
  pub count : x.job.task.0 ≡ y.job.task.0 → y.job.count < x.job.count
  pub time : x.job.task.0 ≡ y.job.task.0 → y.release < x.release

-- each kept release is newer than the later ones of its task in the list
abbrev pub Apart : List KeptRelease → Type 0
Apart [] = Unit {0}
Apart (x ∷ xs) = Each (Older x) xs × Apart xs

-- what the rows say of a kept release
record Past (set : List Task) (h : List Row) (y : KeptRelease) : Type 0 where
  count : y.job.count ≤ releases h y.job.task.0
  time : y.release + period_in (task_at set y.job.task.0) ≤ next_release set h y.job.task.0
  period : 1 ≤ period_in (task_at set y.job.task.0)

-- a release keeps the bound that a task's next release gives
time_grows : (set : List Task) (j : JobId) (kept : Bool) (g : List Row) (r k : ℕ) → next_release set g j.task.0 ≤ ticks g → r + period_in (task_at set k) ≤ next_release set g k → r + period_in (task_at set k) ≤ next_release set (Release j kept ∷ g) k
time_grows set j kept g r k soon f = elim (cases_eq j.task.0 k) [
  | inl m ↦ rw (eq-eqb _ _ m) (omega (arith, f, subst (λ i. next_release set g i ≤ ticks g) m soon))
  | inr d ↦ rw (ne_eqb _ _ d) f
]

-- a release leaves true what the rows say of a kept release
past_release : (set : List Task) (rule : Rule) (j : JobId) (kept : Bool) (g : List Row) → next_release set g j.task.0 ≤ ticks g → (y : KeptRelease) → Past set g y → Past set (Release j kept ∷ g) y
past_release set rule j kept g soon y p = record {
  count = grows _ _ _ p.count;
  time = time_grows set j kept g y.release y.job.task.0 soon p.time;
  period = p.period;
}

-- what the rows say of each kept release
past : (set : List Task) (rule : Rule) (h : List Row) → AllByRecursion IsTask set → Legal set rule h → Each (Past set h) (released h)
past set rule [] s l = tt
past set rule (Release j true ∷ g) s l =
    let fits = release_fits set rule j true g l.1 in (
      record {
        count = rw (eqb-refl j.task.0) (omega (arith, fits.count));
        time = rw (eqb-refl j.task.0) (le_refl _);
        period = (known set j.task.0 s l.0).period;
      },
      Each-map {P = Past set g} (past_release set rule j true g fits.soon) (released g) (past set rule g s l.2),
    )
past set rule (Release j false ∷ g) s l = Each-map {P = Past set g} (past_release set rule j false g (release_fits set rule j false g l.1).soon) (released g) (past set rule g s l.2)
past set rule (row ∷ g) s l = Each-map {P = Past set g} (λ y p. record { count = p.count; time = p.time; period = p.period }) (released g) (past set rule g s l.2)

-- a kept release is newer than each before it of its task
older : (set : List Task) (j : JobId) (g : List Row) → j.count ≡ releases g j.task.0 + 1 → next_release set g j.task.0 ≤ ticks g → (y : KeptRelease) → Past set g y → Older (record { job = j; release = ticks g }) y
older set j g c soon y p = record {
  count = λ e. omega (arith, c, subst (λ i. y.job.count ≤ releases g i) (sym e) p.count);
  time = λ e. omega (arith, p.period, soon, subst (λ i. y.release + period_in (task_at set y.job.task.0) ≤ next_release set g i) (sym e) p.time);
}

-- the kept releases of a legal trace are apart
released_apart : (set : List Task) (rule : Rule) (h : List Row) → AllByRecursion IsTask set → Legal set rule h → Apart (released h)
released_apart set rule [] s l = tt
released_apart set rule (Release j true ∷ g) s l =
    let fits = release_fits set rule j true g l.1 in
    (Each-map {P = Past set g} (older set j g fits.count fits.soon) (released g) (past set rule g s l.2), released_apart set rule g s l.2)
released_apart set rule (row ∷ g) s l = released_apart set rule g s l.2

-- kept releases that are apart stay apart under a filter
Apart-filter : (p : KeptRelease → Bool) (xs : List KeptRelease) → Apart xs → Apart (filter p xs)
Apart-filter p [] h = tt
Apart-filter p (x ∷ xs) h =
    elim (p x) as (λ b. Apart (cond b (x ∷ filter p xs) (filter p xs)))
    [ true ↦ (Each-filter (Older x) p xs h.0, Apart-filter p xs h.1) | false ↦ Apart-filter p xs h.1 ]

-- the pending jobs of legal rows are apart, task by task
pub pending_apart : (set : List Task) (rule : Rule) (h : List Row) → AllByRecursion IsTask set → Legal set rule h → Apart (pending set h)
pending_apart set rule h s l = Apart-filter (is_still_pending set h) (released h) (released_apart set rule h s l)

-- x is the only one of the list with its job
abbrev pub Only : KeptRelease → List KeptRelease → Type 0
Only x xs = Each (λ i. same_job x.job i.job ≡ true → i ≡ x) xs

-- each element of a list that is apart is the only one with its job
pub only : (x : KeptRelease) (xs : List KeptRelease) → Apart xs → is_in xs x ≡ true → Only x xs
only x [] a e = tt
only x (y ∷ ys) a e = elim (cases_Bool (same_live x y)) [
  | inl m ↦
      let after : Only y ys = Each-map {P = Older y} (λ i p k. let q = same_job_is y.job i.job k in absurd (omega (arith, p.count q.0, q.1))) ys a.0 in
      subst (λ (z : KeptRelease). Only z (y ∷ ys)) (sym (live_eq x y m)) (λ k. refl, after)
  | inr m ↦
      let o : Older y x = each_in (Older y) x ys (rw m at e) a.0 in
      (λ k. let q = same_job_is x.job y.job k in absurd (omega (arith, o.count (sym q.0), q.1)), only x ys a.1 (rw m at e))
]
