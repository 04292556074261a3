-- At most one release of each task is held, so that no more are held than the set has tasks.
use Rattle.std.proofs.Common.{◌≡◌, ℕ, zero, suc, ◌+◌, ◌<◌, ◌≤◌, true, List, [], ◌∷◌, Option, Some, None, length, refl, ap, arith, eq-eqb, ne_eqb, inl, inr}
use Rattle.std.proofs.lemmas.Bool.{cases_eq, cases_lt}
use Rattle.std.specs.List.{AllByRecursion}
use Rattle.mc_task.specs.declared.task.Rule.{Rule}
use Rattle.mc_task.specs.declared.task.Task.{Task}
use Rattle.mc_task.specs.declared.task.JobId.{JobId}
use Rattle.mc_task.specs.TaskSet.{AreTasks, IsTask, IsIn, task_at}
use Rattle.mc_model.specs.declared.row.Row.{Row}
use Rattle.mc_model.specs.TaskNumbers.{period_in}
use Rattle.mc_model.specs.Rows.{ticks, next_release}
use Rattle.mc_model.specs.Legal.{Legal}
use Rattle.mc_model.specs.Core.{State, Good, jobs_of, keeps, add_held, settled}
use Rattle.mc_model.proofs.Lists.{Each}
use Rattle.mc_model.proofs.Steps.{release_fits}
use Rattle.mc_model.proofs.Tasks.{known}
use Rattle.mode_core.proofs.Held.{ticks-held}
use Rattle.mode_core.proofs.Keep.{no_held}

-- how many of the jobs are of the tasks 1 to n
abbrev of_first : ℕ → List JobId → ℕ
of_first zero js = 0
of_first (suc n) js = jobs_of (suc n) js + of_first n js

-- an empty list has no job of the tasks 1 to n
of_none : (n : ℕ) → of_first n [] ≡ 0
of_none zero = refl
of_none (suc n) = omega (arith, of_none n)

-- a job of a task above n is not counted
of_beyond : (n : ℕ) (j : JobId) (js : List JobId) → n < j.task.0 → of_first n (j ∷ js) ≡ of_first n js
of_beyond zero j js h = refl
of_beyond (suc n) j js h = rw (ne_eqb j.task.0 (suc n) (omega arith), of_beyond n j js (omega arith)) (omega arith)

-- a job of one of the tasks 1 to n is counted
of_within : (n : ℕ) (j : JobId) (js : List JobId) → 1 ≤ j.task.0 → j.task.0 ≤ n → of_first n (j ∷ js) ≡ 1 + of_first n js
of_within zero j js a b = absurd (omega arith)
of_within (suc n) j js a b = elim (cases_eq j.task.0 (suc n)) [
  | inl e ↦ rw (eq-eqb _ _ e) (omega (arith, of_beyond n j js (omega arith)))
  | inr d ↦ rw (ne_eqb _ _ d) (omega (arith, of_within n j js a (omega (arith, d))))
]

-- jobs of the set are all counted
of_all : (set : List Task) (js : List JobId) → Each (λ (j : JobId). IsIn set j.task.0) js → of_first (length set) js ≡ length js
of_all set [] h = of_none (length set)
of_all set (j ∷ js) h = omega (arith, of_all set js h.1, of_within (length set) j js h.0.0 h.0.1)

-- with at most one job of each task there are no more jobs than tasks
one_each : (n : ℕ) (js : List JobId) → ((k : ℕ) → jobs_of k js ≤ 1) → of_first n js ≤ n
one_each zero js h = omega arith
one_each (suc n) js h = omega (arith, one_each n js h, h (suc n))

-- a task with a held release may not be released again at the same boundary
waits : (set : List Task) (rule : Rule) (js : List JobId) (g : List Row) (k : ℕ) → 1 ≤ period_in (task_at set k) → 1 ≤ jobs_of k js → ticks g < next_release set (add_held set rule js g) k
waits set rule [] g k p h = absurd (omega (arith, h))
waits set rule (j ∷ js) g k p h = elim (cases_eq j.task.0 k) [
  | inl e ↦ rw (eq-eqb _ _ e) (omega (arith, p, ticks-held set rule js g))
  | inr d ↦ rw (ne_eqb _ _ d) (waits set rule js g k p (omega (arith, rw (ne_eqb _ _ d) at h)))
]

-- the tasks of the held releases are in the set
held_in : (set : List Task) (rule : Rule) (js : List JobId) (g : List Row) → Legal set rule (add_held set rule js g) → Each (λ (j : JobId). IsIn set j.task.0) js
held_in set rule [] g l = tt
held_in set rule (j ∷ js) g l = (l.0, held_in set rule js g l.2)

-- each task has at most one release held
once : (set : List Task) (rule : Rule) (js : List JobId) (g : List Row) → AllByRecursion IsTask set → Legal set rule (add_held set rule js g) → (k : ℕ) → jobs_of k js ≤ 1
once set rule [] g s l k = omega arith
once set rule (j ∷ js) g s l k =
    let soon = (release_fits set rule j (keeps set rule (add_held set rule js g) j.task.0) (add_held set rule js g) l.1).soon in
    let others : jobs_of k js ≤ 1 = once set rule js g s l.2 k in
    elim (cases_eq j.task.0 k) [
      | inl e ↦ rw (eq-eqb _ _ e) (elim (cases_lt 0 (jobs_of k js)) [
        | inl h ↦ absurd (omega (arith, waits set rule js g j.task.0 (known set j.task.0 s l.0).period (rw e h), soon, ticks-held set rule js g))
        | inr h ↦ omega arith
      ])
      | inr d ↦ rw (ne_eqb _ _ d) (omega arith)
    ]

-- no more releases are held than the set has tasks
pub held_few : (s : State) → AreTasks s.set → Good s → length s.held ≤ length s.set
held_few s is good = go s.out refl
  where
    go : (o : Option JobId) → s.out ≡ o → length s.held ≤ length s.set
    go None e = omega (arith, ap length (no_held s good e))
    go (Some j) e =
        let l : Legal s.set s.rule (settled s.set s.rule true s.rows (Some j) s.held) = rw e at (good.settled true) in
        omega (arith, of_all s.set s.held (held_in s.set s.rule s.held _ l), one_each (length s.set) s.held (once s.set s.rule s.held _ is.each l))
