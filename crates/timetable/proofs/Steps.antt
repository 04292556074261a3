-- Each call of a floor with a plan adds the plan's next row, or none.
use Rattle.std.proofs.Common.{◌≡◌, ℕ, ◌+◌, ◌<◌, ◌≤◌, List, [], ◌∷◌, Option, Some, None, length, slice_get, nat_lt, ◌==◌, refl, sym, ap, ◌∙◌, subst, arith, ltb-true, eqb-true, inl, inr}
use Rattle.std.proofs.lemmas.Bool.{cases_Bool}
use Rattle.std.proofs.lemmas.Option.{cond_some, none-some}
use Rattle.mc_task.specs.declared.task.Rule.{Rule}
use Rattle.mc_task.specs.declared.task.Task.{Task}
use Rattle.mc_task.specs.declared.task.JobId.{JobId}
use Rattle.mc_model.specs.declared.row.Row.{Row}
use Rattle.mc_model.specs.declared.row.Row.TheVariants.{Idle}
use Rattle.mc_model.specs.declared.work.WorkRow.{WorkRow}
use Rattle.mc_model.specs.Rows.{ticks, releases, next_release}
use Rattle.mc_model.specs.Core.{State, begun, places_used, next, next_job, released_so_far, release_row, tick_out, IsOut}
use Rattle.mc_model.specs.Follows.{arrivals, planned}
use Rattle.mode_core.specs.Events.{job_in, with_release, chosen_now}
use Rattle.mode_core.specs.Shape.{IsSound}
use Rattle.mode_core.proofs.CallerLemmas.{IsSettled, settled_words, state, no_held}
use Rattle.timetable.specs.declared.plan.Plan.TheVariants.{Rows}
use Rattle.timetable.specs.Ticks.{is_last, tick_row}
use Rattle.timetable.specs.Floor.{due_row, due_at}
use Rattle.timetable.specs.Plans.{settled_by}
use Rattle.timetable.specs.Shape.{first_job, next_row, Runs, KeepsToWork}
use Rattle.timetable.proofs.Due.{arrival_of, due_allowed, length-rows, taken-few}
use Rattle.timetable.proofs.RunsFollow.{Rest, rest_of}
use Rattle.timetable.proofs.Calls.{due_planned, release_row_next, tick_row_next}

-- the numbers of a state are those of its settled rows
pub record IsRead (work : List WorkRow) (s : State) : Type 0 where
  pub ticks : ticks (settled_by work s) ≡ begun s
  pub releases : (k : ℕ) → releases (settled_by work s) k ≡ released_so_far s k
  pub next : (k : ℕ) → next_release s.set (settled_by work s) k ≡ next s k
  pub places : length (settled_by work s) ≡ places_used s

-- the numbers of each valid core are those of its settled rows
pub read_off : (work : List WorkRow) (s : State) → IsSound s → IsRead work s
read_off work s sound =
    let w : IsSettled s.set s.rule s.rows s.out s.held (is_last work s.rows (job_in s.out)) = settled_words s.set s.rule s.rows s.out s.held (is_last work s.rows (job_in s.out)) sound.good.out in
    record { ticks = w.ticks; releases = w.releases; next = w.next; places = w.places }

-- while fewer than n ticks are begun, there is capacity for one more row
pub room_for : (s : State) (work : List WorkRow) (n taken : ℕ) → IsSound s → KeepsToWork s work n taken → begun s < n → places_used s < s.places
room_for s work n taken sound r h =
    let x = read_off work s sound in
    omega (arith, x.ticks, x.places, r.schedule.places, h, length-rows (settled_by work s), taken-few s.set s.rule work n (settled_by work s) r.schedule.is_work r.runs)

-- no more than n ticks are begun
pub within : (s : State) (work : List WorkRow) (n taken : ℕ) → IsSound s → KeepsToWork s work n taken → begun s ≤ n
within s work n taken sound r =
    let y : Rest work n (settled_by work s) = rest_of s.set s.rule work n (settled_by work s) r.schedule.is_work r.runs in
    omega (arith, (read_off work s sound).ticks, y.within)

-- Releases.

-- the row is due: the first that was not taken, released at this boundary, while fewer than n ticks are begun
pub record IsDueRow (work : List WorkRow) (n taken t : ℕ) (w : WorkRow) : Type 0 where
  pub row : slice_get work taken ≡ Some w
  pub release : w.release ≡ t
  pub soon : t < n

-- a row that `due_at` finds is due
pub due_is : (work : List WorkRow) (n taken t : ℕ) (w : WorkRow) → due_at (Rows work n) taken t ≡ Some w → IsDueRow work n taken t w
due_is work n taken t w e = elim (cases_Bool (nat_lt t n)) [
  | inl m ↦ let p = found (slice_get work taken) (rw m at e) in record { row = p.0; release = p.1; soon = ltb-true _ _ m }
  | inr m ↦ absurd (none-some w (rw m at e))
]
  where
    found : (o : Option WorkRow) → due_row o t ≡ Some w → (o ≡ Some w) × (w.release ≡ t)
    found None k = cc
    found (Some v) k = let p = cond_some (v.release == t) v w k in (ap (λ (x : WorkRow). Some x) p.1, subst (λ (x : WorkRow). x.release ≡ t) p.1 (eqb-true _ _ p.0))

-- a release adds one row after the settled ones
settled_release : (work : List WorkRow) (set : List Task) (rule : Rule) (places : ℕ) (rows : List Row) (out : Option JobId) (held : List JobId) (i : JobId) → IsOut set rule rows out held →
    settled_by work (with_release (state set rule places rows out held) out i) ≡ release_row set rule i (settled_by work (state set rule places rows out held)) ∷ settled_by work (state set rule places rows out held)
settled_release work set rule places rows None held i o = refl
settled_release work set rule places rows (Some j) held i o = refl

-- a call leaves the set, the rule and the capacity as they are
same_parts : (s : State) (o : Option JobId) (i : JobId) →
    ((with_release s o i).set ≡ s.set) × ((with_release s o i).rule ≡ s.rule) × ((with_release s o i).places ≡ s.places)
same_parts s None i = (refl, refl, refl)
same_parts s (Some j) i = (refl, refl, refl)

-- a core with the next row of its plan
extended : (s t : State) (work : List WorkRow) (n taken more : ℕ) (row : Row) → KeepsToWork s work n taken → (t.set ≡ s.set) × (t.rule ≡ s.rule) × (t.places ≡ s.places) → settled_by work t ≡ row ∷ settled_by work s → next_row s.set s.rule work n (settled_by work s) ≡ Some row →
    more ≡ length (arrivals (row ∷ settled_by work s)) → KeepsToWork t work n more
extended s t work n taken more row r same e x m = record {
  schedule = record { is_work = rw same.0 r.schedule.is_work; some = r.schedule.some; most = r.schedule.most; places = rw same.2 r.schedule.places };
  runs =
      subst (λ (ts : List Task). Runs ts t.rule work n (settled_by work t)) (sym same.0)
      (subst (λ (u : Rule). Runs s.set u work n (settled_by work t)) (sym same.1) (subst (λ (g : List Row). Runs s.set s.rule work n g) (sym e) (x, r.runs)));
  taken_are = m ∙ ap (λ (g : List Row). length (arrivals g)) (sym e);
}

-- the release that is due may come, and is the next row of the plan
pub record MayTake (s : State) (work : List WorkRow) (n taken k : ℕ) : Type 0 where
  pub soon : next s k ≤ begun s
  pub room : places_used s < s.places
  pub run : KeepsToWork (with_release s s.out (next_job s k)) work n (taken + 1)

pub may_take : (s : State) (work : List WorkRow) (n taken : ℕ) (w : WorkRow) → IsSound s → KeepsToWork s work n taken → IsDueRow work n taken (begun s) w → MayTake s work n taken w.task.0
may_take s work n taken w sound r d = record {
  soon = omega (arith, x.next w.task.0, d.release, soon);
  room = room_for s work n taken sound r d.soon;
  run = extended s (with_release s s.out (next_job s w.task.0)) work n taken (taken + 1) row r (same_parts s s.out (next_job s w.task.0)) settled_is next (omega (arith, r.taken_are));
}
  where
    h : List Row
    h = settled_by work s

    x : IsRead work s
    x = read_off work s sound

    now : w.release ≡ ticks h
    now = d.release ∙ sym x.ticks

    before : ticks h < n
    before = omega (arith, x.ticks, d.soon)

    here : slice_get (planned work n) (length (arrivals h)) ≡ Some (arrival_of w)
    here = subst (λ (i : ℕ). slice_get (planned work n) i ≡ Some (arrival_of w)) r.taken_are (due_planned s.set s.rule work n taken w h r.schedule.is_work d.row now before)

    soon : next_release s.set h w.task.0 ≤ w.release
    soon = due_allowed s.set s.rule work n h (arrival_of w) r.schedule.is_work r.runs here

    job_is : next_job s w.task.0 ≡ first_job h w.task.0
    job_is = ap (λ (c : ℕ). let j : JobId = record { task = record { 0 = w.task.0 }; count = c + 1 } in j) (sym (x.releases w.task.0))

    row : Row
    row = release_row s.set s.rule (next_job s w.task.0) h

    settled_is : settled_by work (with_release s s.out (next_job s w.task.0)) ≡ row ∷ h
    settled_is = settled_release work s.set s.rule s.places s.rows s.out s.held (next_job s w.task.0) sound.good.out

    next : next_row s.set s.rule work n h ≡ Some row
    next = release_row_next s.set s.rule work n w h here now before ∙ ap (λ (j : JobId). Some (release_row s.set s.rule j h)) (sym job_is)

-- Ticks.

-- no release is due, and fewer than n ticks are begun
pub record IsTickTime (s : State) (work : List WorkRow) (n taken : ℕ) : Type 0 where
  pub none : due_row (slice_get work taken) (begun s) ≡ None
  pub soon : begun s < n

-- with no granted tick, the rows are settled
pub settled_none : (work : List WorkRow) (s : State) → s.out ≡ None → settled_by work s ≡ s.rows
settled_none work s o = rw o refl

-- a tick is the next row of the plan
tick_next : (s : State) (work : List WorkRow) (n taken : ℕ) → KeepsToWork s work n taken → s.out ≡ None → IsTickTime s work n taken → next_row s.set s.rule work n s.rows ≡ Some (tick_row s.set s.rule work s.rows (chosen_now s))
tick_next s work n taken r o t =
    let rows : settled_by work s ≡ s.rows = settled_none work s o in
    let now : begun s ≡ ticks s.rows = omega (arith, ap tick_out o) in
    let taken_are : taken ≡ length (arrivals s.rows) = r.taken_are ∙ ap (λ (g : List Row). length (arrivals g)) rows in
    let due : due_row (slice_get work (length (arrivals s.rows))) (ticks s.rows) ≡ None = subst (λ (i : ℕ). due_row (slice_get work i) (ticks s.rows) ≡ None) taken_are (subst (λ (u : ℕ). due_row (slice_get work taken) u ≡ None) now t.none) in
    tick_row_next s.set s.rule work n s.rows r.schedule.is_work due (omega (arith, now, t.soon))

-- the tick of the chosen job is the next row of the plan
pub run_grant : (s : State) (work : List WorkRow) (n taken : ℕ) (j : JobId) → IsSound s → KeepsToWork s work n taken → s.out ≡ None → chosen_now s ≡ Some j → IsTickTime s work n taken → KeepsToWork (record s { out = chosen_now s }) work n taken
run_grant s work n taken j sound r o c t = subst (λ (x : Option JobId). KeepsToWork (record s { out = x }) work n taken) (sym c) (subst (λ (js : List JobId). KeepsToWork (record s { out = Some j; held = js }) work n taken) (sym none) made)
  where
    none : s.held ≡ []
    none = no_held s sound.good o

    row : Row
    row = tick_row s.set s.rule work s.rows (Some j)

    next : next_row s.set s.rule work n (settled_by work s) ≡ Some row
    next = subst (λ (g : List Row). next_row s.set s.rule work n g ≡ Some row) (sym (settled_none work s o)) (tick_next s work n taken r o t ∙ ap (λ (x : Option JobId). Some (tick_row s.set s.rule work s.rows x)) c)

    made : KeepsToWork (record s { out = Some j; held = [] }) work n taken
    made = extended s (record s { out = Some j; held = [] }) work n taken taken row r (refl, refl, refl) (ap (λ (g : List Row). row ∷ g) (sym (settled_none work s o))) next r.taken_are

-- an idle tick is the next row of the plan
pub run_idle : (s : State) (work : List WorkRow) (n taken : ℕ) → KeepsToWork s work n taken → s.out ≡ None → chosen_now s ≡ None → IsTickTime s work n taken → KeepsToWork (record s { rows = Idle ∷ s.rows }) work n taken
run_idle s work n taken r o c t = extended s (record s { rows = Idle ∷ s.rows }) work n taken taken Idle r (refl, refl, refl) rows next r.taken_are
  where
    rows : settled_by work (record s { rows = Idle ∷ s.rows }) ≡ Idle ∷ settled_by work s
    rows = settled_none work (record s { rows = Idle ∷ s.rows }) o ∙ ap (λ (g : List Row). Idle ∷ g) (sym (settled_none work s o))

    next : next_row s.set s.rule work n (settled_by work s) ≡ Some Idle
    next = subst (λ (g : List Row). next_row s.set s.rule work n g ≡ Some Idle) (sym (settled_none work s o)) (tick_next s work n taken r o t ∙ ap (λ (x : Option JobId). Some (tick_row s.set s.rule work s.rows x)) c)
