-- The first row that does not fit, in the middle of a run and after later rows.
use Rattle.std.proofs.Common.{◌≡◌, ℕ, ◌+◌, ◌-◌, ◌^◌, ◌<◌, min, true, false, filter, List, [], ◌∷◌, slice_get, ◌++◌, Option, Some, None, length, replicate, option_map, refl, sym, ap, ◌∙◌, subst, arith, append_assoc}
use Rattle.std.specs.Prelude.{cond, is_some}
use Rattle.std.proofs.lemmas.List.{length-append, length-map, length-replicate, get_or-replicate}
use Rattle.std.proofs.lemmas.Option.{slice_get-get_or}
use Rattle.mc_task.specs.declared.task.Rule.{Rule}
use Rattle.mc_task.specs.declared.task.Task.{Task}
use Rattle.mc_task.specs.TaskSet.{Set}
use Rattle.mc_model.specs.declared.row.Row.{Row}
use Rattle.mc_model.specs.declared.run.Run.{Run}
use Rattle.mc_model.specs.declared.verdict.Why.{Why}
use Rattle.mc_model.specs.declared.verdict.Verdict.{Verdict}
use Rattle.mc_model.specs.declared.verdict.Verdict.TheVariants.{Illegal}
use Rattle.mc_model.specs.Late.{late}
use Rattle.mc_model.specs.Legal.{Legal}
use Rattle.mc_model.specs.Runs.{row_of, size, rows_of}
use Rattle.mc_model.specs.Verdict.{RowFault, first_unfit, verdict, verdict_of}
use Rattle.mc_model.proofs.Verdicts.{no_fault}
use Rattle.trace_judge.specs.declared.step.Misfit.{Misfit}
use Rattle.trace_judge.specs.declared.unfit.Unfit.{Unfit}
use Rattle.mc_model.specs.Pending.{is_still_pending, pending}
use Rattle.mc_model.specs.Sums.{total}
use Rattle.mc_model.proofs.Sums.{one, total-one, less_filtered}
use Rattle.trace_judge.specs.Placed.{placed, waiting}
use Rattle.trace_judge.proofs.Placed.{kept_of, pending_is, waiting_is, placed_le}
use Rattle.trace_judge.proofs.Faults.{same_length}
use Rattle.trace_judge.specs.declared.late_jobs.LateJob.{LateJob}
use Rattle.trace_judge.specs.declared.state.TaskNote.{TaskNote}
use Rattle.trace_judge.specs.declared.state.State.{State}
use Rattle.trace_judge.specs.Entries.{PendingEntries}
use Rattle.trace_judge.specs.LateJobs.{IsEarliest}
use Rattle.trace_judge.specs.Steps.{IsNew}
use Rattle.trace_judge.specs.Tracks.{Tracks, StopsAt}
use Rattle.trace_judge.specs.Watched.{Watched, Watches, HasFollowed, fitted, unfit_in, is_none}
use Rattle.trace_judge.proofs.Reading.{copies_split}
use Rattle.trace_judge.proofs.Verdicts.{fault_stays}

-- a fault from its parts
abbrev an_unfit : ℕ → Why → Unfit
an_unfit n why = record { place = n; why = why }

-- the first row that does not fit is that of the run at which the steps stop
pub stops_unfit : (set : List Task) (rule : Rule) (r : Run) (g : List Row) (n : ℕ) (m : Misfit) → n ≡ length g → StopsAt set rule r g m → unfit_in set rule (rows_of r ++ g) ≡ Some (an_unfit (n + m.after + 1) m.why)
stops_unfit set rule r g n m l s =
    let row : Row = row_of r in
    let k : List Row = replicate m.after row ++ g in
    let f : RowFault = record { place = length k + 1; why = m.why } in
    let here : first_unfit set rule (row ∷ k) ≡ Some f = rw (no_fault set rule k s.before, s.there) refl in
    let more : List Row = replicate (size r - m.after - 1) row in
    let rows : rows_of r ++ g ≡ more ++ row ∷ k = ap (λ xs. xs ++ g) (copies_split (size r) m.after row s.inside) ∙ append_assoc more (row ∷ replicate m.after row) g in
    let place : length k + 1 ≡ n + m.after + 1 = omega (arith, l, length-append (replicate m.after row) g, length-replicate m.after row) in
    ap (unfit_in set rule) rows
    ∙ (ap (option_map (λ (x : RowFault). an_unfit x.place x.why)) (fault_stays set rule f more (row ∷ k) here)
    ∙ ap (λ (p : ℕ). Some (an_unfit p m.why)) place)

-- if each row fits, the rows that fitted are all rows
pub fitted_all : (set : List Task) (rule : Rule) (h : List Row) → first_unfit set rule h ≡ None → fitted set rule h ≡ h
fitted_all set rule [] e = refl
fitted_all set rule (row ∷ g) e = ap (λ (o : Option RowFault). cond (is_some o) (fitted set rule g) (row ∷ g)) e

-- rows after one that does not fit are not among those that fitted
pub fitted_more : (set : List Task) (rule : Rule) (f : RowFault) (xs h : List Row) → first_unfit set rule h ≡ Some f → fitted set rule (xs ++ h) ≡ fitted set rule h
fitted_more set rule f [] h e = refl
fitted_more set rule f (x ∷ xs) h e = rw (fault_stays set rule f xs h e) (fitted_more set rule f xs h e)

-- the rows that fitted are those of the run before the row at which the steps stop, and the rows before the run
pub stops_fitted : (set : List Task) (rule : Rule) (r : Run) (g : List Row) (m : Misfit) → StopsAt set rule r g m → fitted set rule (rows_of r ++ g) ≡ replicate m.after (row_of r) ++ g
stops_fitted set rule r g m s =
    let row : Row = row_of r in
    let k : List Row = replicate m.after row ++ g in
    let f : RowFault = record { place = length k + 1; why = m.why } in
    let none : first_unfit set rule k ≡ None = no_fault set rule k s.before in
    let here : first_unfit set rule (row ∷ k) ≡ Some f = rw (none, s.there) refl in
    let more : List Row = replicate (size r - m.after - 1) row in
    let rows : rows_of r ++ g ≡ more ++ row ∷ k = ap (λ xs. xs ++ g) (copies_split (size r) m.after row s.inside) ∙ append_assoc more (row ∷ replicate m.after row) g in
    ap (fitted set rule) rows
    ∙ (fitted_more set rule f more (row ∷ k) here
    ∙ (ap (λ (o : Option RowFault). cond (is_some o) (fitted set rule k) (row ∷ k)) here ∙ fitted_all set rule k none))

-- the first fault of the rows has the number and the cause of the row that does not fit
known_unfit : (set : List Task) (rule : Rule) (h : List Row) (u : Unfit) (o : Option RowFault) → first_unfit set rule h ≡ o → option_map (λ (x : RowFault). an_unfit x.place x.why) o ≡ Some u → first_unfit set rule h ≡ Some (record { place = u.place; why = u.why })
known_unfit set rule h u None e k = cc
known_unfit set rule h u (Some p) e k = grind (arith, e, k)

-- the first row that does not fit stays the first after more rows
pub unfit_stays : (set : List Task) (rule : Rule) (u : Unfit) (xs h : List Row) → unfit_in set rule h ≡ Some u → unfit_in set rule (xs ++ h) ≡ Some u
unfit_stays set rule u xs h e =
    ap (option_map (λ (x : RowFault). an_unfit x.place x.why))
    (fault_stays set rule (record { place = u.place; why = u.why }) xs h (known_unfit set rule h u (first_unfit set rule h) refl e))

-- the first row that does not fit gives the verdict
pub unfit_verdict : (set : List Task) (rule : Rule) (u : Unfit) (h : List Row) → unfit_in set rule h ≡ Some u → Illegal u.place u.why ≡ verdict set rule h
unfit_verdict set rule u h e = sym (ap (λ o. verdict_of o (late set h)) (known_unfit set rule h u (first_unfit set rule h) refl e))

-- where all rows are legal there is no first row that does not fit
pub none_unfit : (set : List Task) (rule : Rule) (h : List Row) → Legal set rule h → None ≡ unfit_in set rule h
none_unfit set rule h l = sym (ap (option_map (λ (x : RowFault). an_unfit x.place x.why)) (no_fault set rule h l))

-- without a first row that does not fit there is no fault
no_first : (o : Option RowFault) → option_map (λ (x : RowFault). an_unfit x.place x.why) o ≡ None → o ≡ None
no_first None e = refl
no_first (Some f) e = cc

-- legal rows were followed, all of them
pub followed_all : (set : List Task) (rule : Rule) (h : List Row) (s : State) → Legal set rule h → Tracks set rule h s → HasFollowed h set rule s None
followed_all set rule h s l t =
    let all = fitted_all set rule h (no_fault set rule h l) in
    record {
      unfit = none_unfit set rule h l;
      legal = subst (λ (g : List Row). Legal set rule g) (sym all) l;
      tracks = subst (λ (g : List Row). Tracks set rule g s) (sym all) t;
    }

-- if no row was found that does not fit, all rows were followed
pub followed_none : (set : List Task) (rule : Rule) (h : List Row) (s : State) → HasFollowed h set rule s None → Legal set rule h × Tracks set rule h s
followed_none set rule h s w =
    subst (λ (g : List Row). Legal set rule g × Tracks set rule g s) (fitted_all set rule h (no_first (first_unfit set rule h) (sym w.unfit))) (w.legal, w.tracks)

-- the rows of a run were followed up to the one at which the steps stop
pub followed_until :
    (set : List Task) (rule : Rule) (r : Run) (g : List Row) (n : ℕ) (m : Misfit) (s : State) (u : Unfit) → n ≡ length g → u ≡ an_unfit (n + m.after + 1) m.why →
    StopsAt set rule r g m → Tracks set rule (replicate m.after (row_of r) ++ g) s → HasFollowed (rows_of r ++ g) set rule s (Some u)
followed_until set rule r g n m s u l e stop t =
    let fit = stops_fitted set rule r g m stop in
    record {
      unfit = ap (λ (x : Unfit). Some x) e ∙ sym (stops_unfit set rule r g n m l stop);
      legal = subst (λ (h : List Row). Legal set rule h) (sym fit) stop.before;
      tracks = subst (λ (h : List Row). Tracks set rule h s) (sym fit) t;
    }

-- after a row that does not fit, more rows are seen and not followed
pub followed_more : (set : List Task) (rule : Rule) (s : State) (u : Unfit) (xs h : List Row) → HasFollowed h set rule s (Some u) → HasFollowed (xs ++ h) set rule s (Some u)
followed_more set rule s u xs h w =
    let fit = fitted_more set rule _ xs h (known_unfit set rule h u (first_unfit set rule h) refl (sym w.unfit)) in
    record {
      unfit = sym (unfit_stays set rule u xs h (sym w.unfit));
      legal = subst (λ (g : List Row). Legal set rule g) (sym fit) w.legal;
      tracks = subst (λ (g : List Row). Tracks set rule g s) (sym fit) w.tracks;
    }

-- what a new state keeps is right before the first row
pub tracks_none : (set : List Task) (rule : Rule) (n : ℕ) (s : State) → n ≡ length set → IsNew n s → Tracks set rule [] s
tracks_none set rule n s e i = record {
  ticks = i.ticks;
  rows = i.rows;
  mode = i.mode;
  count = ap length i.tasks ∙ (length-replicate n none_yet ∙ e);
  tasks = λ k h. ap (λ (xs : List TaskNote). slice_get xs k) i.tasks ∙ no_note k (omega (arith, h, e));
  queues = ap (λ (h : PendingEntries). h.tasks) i.waiting ∙ e;
  waiting = λ f. ap (λ (h : PendingEntries). total f h.entries) i.waiting;
  late_jobs = record { count = i.count_zero; first = subst (λ (o : Option LateJob). IsEarliest o (λ f. 0)) (sym i.first) refl };
}
  where
    none_yet : TaskNote
    none_yet = record { releases = 0; next = 0 }

    no_note : (k : ℕ) → k < n → slice_get (replicate n none_yet) k ≡ Some none_yet
    no_note k h = slice_get-get_or (replicate n none_yet) k none_yet (omega (arith, h, length-replicate n none_yet)) ∙ ap (λ (x : TaskNote). Some x) (get_or-replicate n k none_yet none_yet h)

-- the verdict stays the same after more rows, if a row does not fit
pub verdict_stays : (set : List Task) (rule : Rule) (u : Unfit) (xs h : List Row) → unfit_in set rule h ≡ Some u → verdict set rule h ≡ verdict set rule (xs ++ h)
verdict_stays set rule u xs h e = sym (unfit_verdict set rule u h e) ∙ unfit_verdict set rule u (xs ++ h) (unfit_stays set rule u xs h e)

-- a monitor, from its parts
abbrev pub a_monitor : Set → Rule → State → Option Unfit → Watched
a_monitor set rule s u = record { set = set; rule = rule; state = s; unfit = u }

-- if a monitor has found no row that does not fit, each row fitted
pub all_fitted : (h : List Row) (m : Watched) → m.unfit ≡ None → Watches h m → fitted m.set.tasks m.rule h ≡ h
all_fitted h m e w = fitted_all m.set.tasks m.rule h (no_first (first_unfit m.set.tasks m.rule h) (sym w.unfit ∙ e))

-- of a monitor that has found no row that does not fit, what is kept follows the rows
pub tracked : (h : List Row) (m : Watched) → m.unfit ≡ None → Watches h m → Legal m.set.tasks m.rule h × Tracks m.set.tasks m.rule h m.state
tracked h m e w = subst (λ (g : List Row). Legal m.set.tasks m.rule g × Tracks m.set.tasks m.rule g m.state) (all_fitted h m e w) (w.legal, w.tracks)

-- a monitor has found no row that does not fit if each row has fitted
pub none_found : (o : Option Unfit) → is_none o ≡ true → o ≡ None
none_found None e = refl
none_found (Some u) e = cc

-- if not each row has fitted, a monitor has found a row that does not fit
pub found_one : (o : Option Unfit) → is_none o ≡ false → (u : Unfit) × (o ≡ Some u)
found_one None e = absurd (cc)
found_one (Some u) e = (u, refl)

-- if a monitor has found a row that does not fit, that row stays the first
pub stays_found : (xs h : List Row) (m : Watched) (u : Unfit) → m.unfit ≡ Some u → Watches h m → unfit_in m.set.tasks m.rule (xs ++ h) ≡ Some u
stays_found xs h m u e w = unfit_stays m.set.tasks m.rule u xs h (sym w.unfit ∙ e)

-- a monitor that has found a row that does not fit has seen the later rows, too
pub still_watches : (xs h : List Row) (m : Watched) (u : Unfit) → m.unfit ≡ Some u → Watches h m → Watches (xs ++ h) m
still_watches xs h m u e w =
    subst (λ (o : Option Unfit). HasFollowed (xs ++ h) m.set.tasks m.rule m.state o) (sym e)
    (followed_more m.set.tasks m.rule m.state u xs h (subst (λ (o : Option Unfit). HasFollowed h m.set.tasks m.rule m.state o) e w))

-- a verdict on all rows that a monitor may have seen is that on these, by its set and its rule
pub said_of : (h : List Row) (m : Watched) (v : Verdict) → Watches h m → ((k : List Row) → Watches k m → v ≡ verdict m.set.tasks m.rule k) →
    (set : List Task) (rule : Rule) → m.set.tasks ≡ set → m.rule ≡ rule → v ≡ verdict set rule h
said_of h m v w says set rule s r = says h w ∙ (ap (λ (tasks : List Task). verdict tasks m.rule h) s ∙ ap (λ (x : Rule). verdict set x h) r)

-- there are as many entries as pending jobs
pub pending_count : (set : List Task) (rule : Rule) (h : List Row) (s : State) → Legal set rule h → Tracks set rule h s → s.rows < 2 ^ 64 → min (length s.waiting.entries) (2 ^ 64 - 1) ≡ length (pending set h)
pending_count set rule h s l t room =
    let many : length (pending set h) ≡ length (waiting set h) = ap length (pending_is set rule h l) ∙ length-map (waiting set h) kept_of in
    let same : length (filter (λ x. is_still_pending set h x.kept) (placed h)) ≡ length (waiting set h) = ap length (waiting_is set rule h l) in
    omega (arith, many, same, same_length set rule h s t, total-one (filter (λ x. is_still_pending set h x.kept) (placed h)), less_filtered one (λ x. is_still_pending set h x.kept) (placed h), total-one (placed h), placed_le h, t.rows, room)
