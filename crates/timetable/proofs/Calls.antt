-- The core refuses no call of a plan while no tick is granted; and the row that a plan adds next.
use Rattle.std.proofs.Common.{◌≡◌, ℕ, ◌<◌, ◌≤◌, ◌^◌, Bool, true, false, List, [], ◌∷◌, Option, Some, None, Result, Ok, length, cond, nat_lt, ◌==◌, slice_get, refl, ap, ◌∙◌, arith, le-ltb, lt-ltb, eq-eqb, ne_eqb}
use Rattle.mc_task.specs.declared.task.Rule.{Rule}
use Rattle.mc_task.specs.declared.task.Task.{Task}
use Rattle.mc_task.specs.declared.task.JobId.{JobId}
use Rattle.mc_model.specs.declared.row.Row.{Row}
use Rattle.mc_model.specs.declared.row.Row.TheVariants.{Tick}
use Rattle.mc_model.specs.declared.work.WorkRow.{WorkRow}
use Rattle.mc_model.specs.Rows.{ticks, next_release}
use Rattle.mc_model.specs.Core.{State, begun, places_used, next, next_after, next_job, chosen, release_row, outcome_of, jobs_of, tick_out}
use Rattle.mc_model.specs.Follows.{Arrival, arrivals, planned}
use Rattle.mc_model.proofs.Booleans.{eqb-refl}
use Rattle.mc_model.proofs.Jobs.{same_job-refl}
use Rattle.mode_core.specs.declared.answers.Granted.{Granted}
use Rattle.mode_core.specs.declared.answers.GrantFault.{GrantFault}
use Rattle.mode_core.specs.Events.{is_full, after_release, grant_refusal, grant_answer, after_grant, granted, chosen_now, after_outcome}
use Rattle.mode_core.proofs.CallerLemmas.{not_spent}
use Rattle.timetable.specs.Ticks.{tick_row}
use Rattle.timetable.specs.Shape.{first_job, row_now, next_row}
use Rattle.timetable.specs.Floor.{due_row}
use Rattle.mc_model.specs.Work.{IsWork}
use Rattle.timetable.proofs.Determined.{next_at}
use Rattle.timetable.proofs.Due.{arrival_of, due_before, due_index}

-- a core with capacity for one more row is not full
pub not_full : (s : State) → places_used s < s.places → is_full s ≡ false
not_full s r = ne_eqb (places_used s) s.places (omega arith)

-- Ticks.

-- a grant of the chosen job is not refused
may_grant : (s : State) (j : JobId) → s.out ≡ None → chosen_now s ≡ Some j → places_used s < s.places → grant_refusal s j.task.0 ≡ None
may_grant s j o c r = rw (not_full s r, o, c, eqb-refl j.task.0) refl

-- the result of a grant to the chosen job
pub given_before : (s : State) (j : JobId) (r : Result Granted GrantFault) → s.out ≡ None → chosen_now s ≡ Some j → places_used s < s.places → r ≡ grant_answer s j.task.0 → r ≡ Ok (granted s j)
given_before s j r o c p e = rw (e, may_grant s j o c p, c) refl

-- a grant of the chosen job and then its outcome add the row of its tick
pub given : (s : State) (j : JobId) (done : Bool) → s.out ≡ None → s.held ≡ [] → chosen_now s ≡ Some j → places_used s < s.places → after_outcome (after_grant s j.task.0) j done ≡ record s { rows = Tick j (outcome_of s.set s.rule s.rows j done) ∷ s.rows }
given s j done o h c r =
    rw (may_grant s j o c r, c, h, same_job-refl j, o) refl

-- Releases.

-- a release that is not too soon adds its row
pub released : (s : State) (k : ℕ) → s.places < 2 ^ 32 → s.out ≡ None → s.held ≡ [] → next_release s.set s.rows k ≤ ticks s.rows → places_used s < s.places → after_release s k ≡ record s { rows = release_row s.set s.rule (first_job s.rows k) s.rows ∷ s.rows }
released s k small o h n r =
    let first : next s k ≡ next_release s.set s.rows k = ap (λ (js : List JobId). next_after s.set s.rows js k) h in
    let soon : nat_lt (begun s) (next s k) ≡ false = le-ltb _ _ (omega (arith, first, ap tick_out o, n)) in
    let job : next_job s k ≡ first_job s.rows k = ap (λ (c : ℕ). let j : JobId = record { task = record { 0 = k }; count = c } in j) (omega (arith, ap (jobs_of k) h)) in
    rw (not_spent s k small r, soon, o, job) refl

-- The plan's next row.

-- if the work's row is due, its arrival is the planned one
pub due_planned : (set : List Task) (rule : Rule) (work : List WorkRow) (n i : ℕ) (w : WorkRow) (g : List Row) → IsWork set work → slice_get work i ≡ Some w → w.release ≡ ticks g → ticks g < n → slice_get (planned work n) i ≡ Some (arrival_of w)
due_planned set rule work n i w g k e t h =
    due_index set work n i k ∙ rw (e, lt-ltb w.release n (omega (arith, t, h))) refl

-- if a release is planned for this boundary, its row is the plan's next row
pub release_row_next : (set : List Task) (rule : Rule) (work : List WorkRow) (n : ℕ) (w : WorkRow) (g : List Row) → slice_get (planned work n) (length (arrivals g)) ≡ Some (arrival_of w) → w.release ≡ ticks g → ticks g < n → next_row set rule work n g ≡ Some (release_row set rule (first_job g w.task.0) g)
release_row_next set rule work n w g e t h =
    next_at set rule work n g _ h refl ∙ rw (e, eq-eqb w.release (ticks g) t) refl

-- if no release is planned for this boundary, a tick's row is the plan's next row
pub tick_row_next : (set : List Task) (rule : Rule) (work : List WorkRow) (n : ℕ) (g : List Row) → IsWork set work → due_row (slice_get work (length (arrivals g))) (ticks g) ≡ None → ticks g < n → next_row set rule work n g ≡ Some (tick_row set rule work g (chosen set rule g))
tick_row_next set rule work n g k d h =
    next_at set rule work n g _ h refl ∙ (ap (λ (o : Option Arrival). Some (row_now set rule work g o)) (due_index set work n (length (arrivals g)) k) ∙ here (slice_get work (length (arrivals g))) d)
  where
    here : (o : Option WorkRow) → due_row o (ticks g) ≡ None → Some (row_now set rule work g (due_before n o)) ≡ Some (tick_row set rule work g (chosen set rule g))
    here None d = refl
    here (Some w) d = go (nat_lt w.release n) (w.release == ticks g) refl d
      where
        go : (b e : Bool) → (w.release == ticks g) ≡ e → cond e (Some w) None ≡ None → Some (row_now set rule work g (cond b (Some (arrival_of w)) None)) ≡ Some (tick_row set rule work g (chosen set rule g))
        go true true m k = cc
        go true false m k = rw m refl
        go false e m k = refl
