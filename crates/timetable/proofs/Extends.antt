-- The rows that the plan has added so far begin the trace that follows.
use Rattle.std.proofs.Common.{◌≡◌, ℕ, zero, suc, ◌+◌, ◌≤◌, List, [], ◌∷◌, ◌++◌, Option, Some, None, length, slice_get, nat_le, refl, sym, subst, arith, leb-true, leb-false, eq-eqb, ne_eqb, inl, inr, append_assoc}
use Rattle.std.proofs.lemmas.Bool.{cases_Bool, cases_eq}
use Rattle.std.specs.List.{AllByRecursion}
use Rattle.mc_task.specs.declared.task.Rule.{Rule}
use Rattle.mc_task.specs.declared.task.Task.{Task}
use Rattle.mc_task.specs.declared.task.JobId.{JobId}
use Rattle.mc_task.specs.TaskSet.{IsTask, IsIn}
use Rattle.mc_model.specs.declared.row.Row.{Row}
use Rattle.mc_model.specs.declared.work.WorkRow.{WorkRow}
use Rattle.mc_model.specs.Rows.{ticks, next_release}
use Rattle.mc_model.specs.Holds.{Fits}
use Rattle.mc_model.specs.Legal.{Legal}
use Rattle.mc_model.specs.Core.{State, chosen}
use Rattle.mc_model.specs.Follows.{Arrival, arrivals, planned, Follows}
use Rattle.mc_model.specs.Work.{IsNeed, IsWork}
use Rattle.mode_core.specs.Events.{job_in}
use Rattle.mode_core.specs.Shape.{IsSound}
use Rattle.mode_core.proofs.CallerLemmas.{none_pending, release_legal, idle_legal, tick_legal}
use Rattle.timetable.specs.Ticks.{is_last, tick_row}
use Rattle.timetable.specs.Plans.{IsTheTrace, Keeps, settled_by}
use Rattle.timetable.specs.Shape.{first_job, row_now, next_row, Runs, KeepsToWork}
use Rattle.timetable.proofs.Determined.{next_at, one_follows}
use Rattle.timetable.proofs.RunsFollow.{runs_follow}
use Rattle.timetable.proofs.Due.{due_allowed, need_at, length-rows, taken-few}
use Rattle.timetable.proofs.Latest.{OfTask, of_task}

-- rows that the plan adds, n ticks long, follow, and no other rows follow
pub only_trace : (set : List Task) (rule : Rule) (work : List WorkRow) (n : ℕ) (h : List Row) → AllByRecursion IsTask set → Fits rule → IsWork set work → 1 ≤ n → Legal set rule h → Runs set rule work n h → n ≤ ticks h → IsTheTrace set rule work n h
only_trace set rule work n h s f w p l r e =
    let follows : Follows set rule work n h = runs_follow set rule work n h s w p l r e in
    record { follows = follows; only = λ g x. one_follows set rule work n g h s f x follows }

-- a tick that the plan adds is legal
tick_row_legal : (set : List Task) (rule : Rule) (work : List WorkRow) (g : List Row) (o : Option JobId) → AllByRecursion IsTask set → Legal set rule g → chosen set rule g ≡ o → Legal set rule (tick_row set rule work g o ∷ g)
tick_row_legal set rule work g None s l e = idle_legal set rule g l (none_pending set rule g e)
tick_row_legal set rule work g (Some j) s l e = tick_legal set rule j g (is_last work g j) s l e

-- a row that the plan adds is legal
row_legal : (set : List Task) (rule : Rule) (work : List WorkRow) (n : ℕ) (g : List Row) → AllByRecursion IsTask set → IsWork set work → Legal set rule g → Runs set rule work n g → Legal set rule (row_now set rule work g (slice_get (planned work n) (length (arrivals g))) ∷ g)
row_legal set rule work n g s w l r = go (slice_get (planned work n) (length (arrivals g))) refl
  where
    tick : Legal set rule (tick_row set rule work g (chosen set rule g) ∷ g)
    tick = tick_row_legal set rule work g (chosen set rule g) s l refl

    go : (o : Option Arrival) → slice_get (planned work n) (length (arrivals g)) ≡ o → Legal set rule (row_now set rule work g o ∷ g)
    go None m = tick
    go (Some a) m = elim (cases_eq a.at (ticks g)) [
      | inl e ↦
          let v : OfTask work (length (arrivals g)) a.task = of_task set work n (length (arrivals g)) a w m in
          let need : IsNeed set v.row = need_at set work (length (arrivals g)) v.row w v.here in
          let soon : next_release set g a.task ≤ ticks g = subst (λ (t : ℕ). next_release set g a.task ≤ t) e (due_allowed set rule work n g a w r m) in
          rw (eq-eqb _ _ e) (release_legal set rule (first_job g a.task) g l (subst (IsIn set) v.task need.task) soon refl)
      | inr d ↦ rw (ne_eqb _ _ d) tick
    ]

-- the rows to the end of the plan
record ToEnd (set : List Task) (rule : Rule) (work : List WorkRow) (n : ℕ) (g : List Row) : Type 0 where
  later : List Row
  legal : Legal set rule (later ++ g)
  runs : Runs set rule work n (later ++ g)
  full : n ≤ ticks (later ++ g)

-- the plan adds rows until it has n ticks
to_end : (set : List Task) (rule : Rule) (work : List WorkRow) (n left : ℕ) (g : List Row) → AllByRecursion IsTask set → IsWork set work → Legal set rule g → Runs set rule work n g → n + length work ≤ left + length g → ToEnd set rule work n g
to_end set rule work n zero g s w l r e =
    let full : n ≤ ticks g = omega (arith, e, length-rows g, taken-few set rule work n g w r) in
    record { later = []; legal = l; runs = r; full = full }
to_end set rule work n (suc left) g s w l r e = elim (cases_Bool (nat_le n (ticks g))) [
  | inl m ↦ record { later = []; legal = l; runs = r; full = leb-true _ _ m }
  | inr m ↦
      let row : Row = row_now set rule work g (slice_get (planned work n) (length (arrivals g))) in
      let next : next_row set rule work n g ≡ Some row = next_at set rule work n g _ (leb-false _ _ m) refl in
      let x : ToEnd set rule work n (row ∷ g) = to_end set rule work n left (row ∷ g) s w (row_legal set rule work n g s w l r) (next, r) (omega (arith, e)) in
      let join : x.later ++ row ∷ g ≡ (x.later ++ row ∷ []) ++ g = sym (append_assoc x.later (row ∷ []) g) in
      record {
        later = x.later ++ row ∷ [];
        legal = subst (λ (h : List Row). Legal set rule h) join x.legal;
        runs = subst (λ (h : List Row). Runs set rule work n h) join x.runs;
        full = subst (λ (h : List Row). n ≤ ticks h) join x.full;
      }
]

-- a core whose rows are those that the plan adds keeps to the plan
pub keeps_plan : (s : State) (work : List WorkRow) (n taken : ℕ) → IsSound s → KeepsToWork s work n taken → Keeps work n taken s
keeps_plan s work n taken sound r =
    let legal : Legal s.set s.rule (settled_by work s) = sound.good.settled (is_last work s.rows (job_in s.out)) in
    let x : ToEnd s.set s.rule work n (settled_by work s) = to_end s.set s.rule work n (n + length work) (settled_by work s) sound.tasks.each r.schedule.is_work legal r.runs (omega arith) in
    record {
      begins = record {
        later = x.later;
        trace = only_trace s.set s.rule work n (x.later ++ settled_by work s) sound.tasks.each sound.fits r.schedule.is_work r.schedule.some x.legal x.runs x.full;
      };
      taken_are = r.taken_are;
    }
