-- The state follows a release, a tick without an overrun, an overrun, and a run: n ticks of a job that
-- continues after each, or n idle ticks.
use Rattle.std.proofs.Common.{inl, inr, ne_eqb, [], ◌≡◌, ℕ, ◌+◌, Bool, true, false, List, ◌∷◌, refl, sym, ap, ◌∙◌, arith, zero, suc, ◌<◌, ◌==◌, Some, subst, slice_get, length, ◌-◌, slice_set, length-set, ◌≤◌, not, ◌&&◌, cond, filter, map, nat_le, ◌^◌, min, Option, None, ◌++◌, replicate}
use Rattle.std.specs.Prelude.{find}
use Rattle.std.proofs.lemmas.Bool.{cases_eq}
use Rattle.std.proofs.Math.Bool.{and-false}
use Rattle.mc_task.specs.declared.task.JobId.{JobId}
use Rattle.mc_task.specs.declared.task.Rule.{Rule}
use Rattle.mc_task.specs.declared.task.Task.{Task}
use Rattle.mc_task.specs.TaskSet.{task_at}
use Rattle.mc_task.specs.Kinds.{is_virtual}
use Rattle.mc_model.specs.declared.row.Row.{Row}
use Rattle.mc_model.specs.declared.row.Row.TheVariants.{Release, Tick, Idle}
use Rattle.mc_model.specs.TaskNumbers.{period_in, is_high_in}
use Rattle.mc_model.specs.Rows.{ticks, used, releases, next_release, same_job}
use Rattle.mc_model.specs.Key.{key_of, key}
use Rattle.mc_model.specs.Legal.{Legal}
use Rattle.mc_model.specs.Sums.{total, when}
use Rattle.mc_model.specs.declared.row.How.{How}
use Rattle.mc_model.specs.Mode.{high_mode, is_over}
use Rattle.mc_model.specs.Pending.{is_end}
use Rattle.mc_model.specs.declared.row.How.TheVariants.{Over, More}
use Rattle.mc_model.proofs.Booleans.{eqb-refl}
use Rattle.mc_model.proofs.Lists.{Each, Each-all, filter_none, set_here, set_other}
use Rattle.mc_model.proofs.Sums.{one, total-append, total-map, total-filter, total-ext, total-same, total-mono}
use Rattle.mc_model.proofs.Repeats.{ticks_more, releases_more, next_more, mode_more, used_more, ticks_idle, releases_idle, next_idle, mode_idle, length_copies}
use Rattle.trace_judge.specs.declared.pending_queues.Pending.{Pending}
use Rattle.trace_judge.specs.Entries.{Entry, is_of, spent_entry, late_job_of, late_job, entries_of}
use Rattle.trace_judge.specs.declared.state.TaskNote.{TaskNote}
use Rattle.trace_judge.specs.declared.state.State.{State}
use Rattle.trace_judge.specs.Placed.{new_one, waiting, gone_late, Placed, stays, is_due}
use Rattle.trace_judge.specs.Steps.{TakesMemory, Waits, Releases, Ends, GoesOn, Rests}
use Rattle.trace_judge.specs.Tracks.{Tracks, entry_of, late_job_in}
use Rattle.trace_judge.specs.LateJobs.{CountsLateJobs, noted}
use Rattle.trace_judge.specs.Rules.{is_due_at}
use Rattle.trace_judge.specs.declared.late_jobs.LateJob.{LateJob}
use Rattle.trace_judge.specs.Switch.{moved, rekeyed, is_keyed, noted_each, Switches, Overruns, is_discarded_late}
use Rattle.trace_judge.proofs.Placed.{release_count, fresh_used, kept_of, pending_is}
use Rattle.mc_model.specs.Pending.{KeptRelease, pending}
use Rattle.mc_model.specs.declared.run.Run.{Run}
use Rattle.mc_model.specs.declared.run.Run.TheVariants as run
use Rattle.trace_judge.specs.Watched.{NeedsMemory}
use Rattle.trace_judge.proofs.Firsts.{total_removed, total_found, total_changed}
use Rattle.trace_judge.proofs.Noted.{IsSum, counts_same, counts_note, counts_all}
use Rattle.trace_judge.proofs.Faults.{apart}
use Rattle.trace_judge.proofs.Same.{list_all-true, same_all}
use Rattle.std.specs.List.{list_all}
use Rattle.trace_judge.proofs.LateTotal.{filter_true}

-- a note from its parts
abbrev pub a_note : ℕ → ℕ → TaskNote
a_note a b = record { releases = a; next = b }

pub note_eq : (a b c d : ℕ) → a ≡ b → c ≡ d → Some (a_note a c) ≡ Some (a_note b d)
note_eq a b c d x y = ap (λ (n : ℕ). Some (a_note n c)) x ∙ ap (λ (n : ℕ). Some (a_note b n)) y

-- the notes on the tasks after a release
notes_after : (set : List Task) (rule : Rule) (g : List Row) (s : State) (j : JobId) (kept : Bool) (task : Task) → Legal set rule (Release j kept ∷ g) → Tracks set rule g s → task_at set j.task.0 ≡ Some task →
    (k : ℕ) → k < length set → slice_get (slice_set s.tasks.items (j.task.0 - 1) (record { releases = j.count; next = s.ticks + period_in (Some task) })) k ≡ Some (record { releases = releases (Release j kept ∷ g) (k + 1); next = next_release set (Release j kept ∷ g) (k + 1) })
notes_after set rule g s j kept task l t at k h =
    elim (cases_eq j.task.0 (k + 1)) [
      | inl e ↦
          let here : j.task.0 - 1 ≡ k = omega (arith, e) in
          let test : (j.task.0 == k + 1) ≡ true = rw e (eqb-refl (k + 1)) in
          let count : j.count ≡ 1 + releases g (k + 1) = omega (arith, release_count set rule g j kept l, ap (releases g) e) in
          let next : s.ticks + period_in (Some task) ≡ ticks g + period_in (task_at set (k + 1)) =
          omega (arith, ap period_in at, ap (λ (n : ℕ). period_in (task_at set n)) e, t.ticks) in
          rw (here, test) (set_here s.tasks.items k (a_note j.count (s.ticks + period_in (Some task))) (omega (arith, t.count, h)) ∙ note_eq _ _ _ _ count next)
      | inr ne ↦
          let test : (j.task.0 == k + 1) ≡ false = ne_eqb j.task.0 (k + 1) ne in
          let none : releases g (k + 1) ≡ 0 + releases g (k + 1) = omega arith in
          rw test (set_other s.tasks.items (j.task.0 - 1) k (a_note j.count (s.ticks + period_in (Some task))) (λ e. ne (omega (arith, e, l.0.0)))
          ∙ (t.tasks k h ∙ ap (λ (n : ℕ). Some (a_note n (next_release set g (k + 1)))) none))
    ]

-- what is kept of a pending job, from its parts
abbrev pub a_pending : ℕ → ℕ → ℕ → Pending
a_pending r u p = record { release = r; used = u; rows_before = p }

-- an entry from its parts
abbrev pub an_entry : ℕ → JobId → Pending → Entry
an_entry k j p = (record { key = k; job = j }, p)

-- what is kept follows a release
pub keeps_release : (set : List Task) (rule : Rule) (g : List Row) (s s' : State) (j : JobId) (kept : Bool) (task : Task) → Legal set rule (Release j kept ∷ g) → Tracks set rule g s → task_at set j.task.0 ≡ Some task →
    Releases rule (Some task) j kept s s' → Tracks set rule (Release j kept ∷ g) s'
keeps_release set rule g s s' j kept task l t at r = record {
  ticks = r.ticks ∙ t.ticks;
  rows = omega (arith, r.rows, t.rows);
  mode = r.mode ∙ t.mode;
  count = ap length r.tasks ∙ (length-set s.tasks.items (j.task.0 - 1) (a_note j.count (s.ticks + period_in (Some task))) ∙ t.count);
  tasks = λ k h. ap (λ xs. slice_get xs k) r.tasks ∙ notes_after set rule g s j kept task l t at k h;
  queues = r.queues ∙ t.queues;
  waiting = λ f. added kept l r.waiting f;
  late_jobs = rw r.late_jobs t.late_jobs;
}
  where
    added : (b : Bool) → Legal set rule (Release j b ∷ g) → Waits b (record { key = key_of rule s.high_mode (Some task) s.ticks; job = j }, a_pending s.ticks 0 s.rows) s.waiting.entries s'.waiting.entries →
        (f : Entry → ℕ) → total f s'.waiting.entries ≡ total (λ x. f (entry_of set rule (Release j b ∷ g) x)) (waiting set (Release j b ∷ g))
    added false l w f = ap (total f) w ∙ t.waiting f
    added true l w f =
        let u : used g j ≡ 0 = fresh_used set rule g j true l in
        let e : f (an_entry (key_of rule s.high_mode (Some task) s.ticks) j (a_pending s.ticks 0 s.rows))
        ≡ f (entry_of set rule (Release j true ∷ g) (new_one j g)) = rw (t.mode, t.ticks, t.rows, at, u) refl in
        omega (arith, w f, e, t.waiting f)

-- the weight of an entry, with n more ticks if the entry is the job's
abbrev pub ticked_at : ℕ → JobId → (Entry → ℕ) → Entry → ℕ
ticked_at n j w e = cond (is_of j e) (w (spent_entry n e)) (w e)

-- the weight of an entry, or 0 if the entry is the job's
abbrev pub taken_at : JobId → (Entry → ℕ) → Entry → ℕ
taken_at j w e = cond (is_of j e) 0 (w e)

-- a job has used at most as many ticks as there were
pub used_le : (g : List Row) (i : JobId) → used g i ≤ ticks g
used_le [] i = omega arith
used_le (Release j kept ∷ g) i = used_le g i
used_le (Idle ∷ g) i = omega (arith, used_le g i)
used_le (Tick j how ∷ g) i = grind (arith, used_le g i)

-- if each entry weighs v, which is f after the tick for a job that stays pending and 0 for the others, the
-- entries weigh as much as f over the jobs pending after the tick
pub waits_after : (set : List Task) (rule : Rule) (g : List Row) (s : State) (j : JobId) (how : How) (f v : Entry → ℕ) → Tracks set rule g s →
    Each (λ x. v (entry_of set rule g x) ≡ cond (stays set j how x) (f (entry_of set rule (Tick j how ∷ g) x)) 0) (waiting set g) →
    total v s.waiting.entries ≡ total (λ x. f (entry_of set rule (Tick j how ∷ g) x)) (waiting set (Tick j how ∷ g))
waits_after set rule g s j how f v t h =
    t.waiting v
    ∙ (total-ext (λ x. v (entry_of set rule g x)) (when (stays set j how) (λ x. f (entry_of set rule (Tick j how ∷ g) x))) (waiting set g) h
    ∙ sym (total-filter (λ x. f (entry_of set rule (Tick j how ∷ g) x)) (stays set j how) (waiting set g)))

-- the limit of 2^64 - 1 leaves a count of ticks as it is, if the count with n more ticks is not above the limit
spent_same : (f : ℕ → ℕ) (mine : Bool) (n u : ℕ) → u + n ≤ 2 ^ 64 - 1 → cond mine (f (min (u + n) (2 ^ 64 - 1))) (f u) ≡ f (cond mine n 0 + u)
spent_same f true n u room = let e : min (u + n) (2 ^ 64 - 1) ≡ n + u = omega arith in rw e refl
spent_same f false n u room = let e : 0 + u ≡ u = omega arith in rw e refl

-- what the jobs that are gone late sum up to
abbrev pub late_sum_of : List Task → List Row → (LateJob → ℕ) → ℕ
late_sum_of set g f = total (λ x. f (late_job_in x)) (gone_late set g)

-- the function that adds up the jobs that ended or were discarded late is a sum
pub sums_of : (set : List Task) (g : List Row) → IsSum (late_sum_of set g)
sums_of set g = record { list = map late_job_in (gone_late set g); is = λ f. sym (total-map f late_job_in (gone_late set g)) }

-- a tick adds the entries of the jobs that it takes out late to the jobs that ended or were discarded late
pub lates_after : (set : List Task) (rule : Rule) (g : List Row) (s : State) (j : JobId) (how : How) (f : LateJob → ℕ) (v : Entry → ℕ) → Tracks set rule g s →
    Each (λ x. v (entry_of set rule g x) ≡ cond (not (stays set j how x) && is_due set (ticks g) x) (f (late_job_in x)) 0) (waiting set g) →
    total v s.waiting.entries + late_sum_of set g f ≡ late_sum_of set (Tick j how ∷ g) f
lates_after set rule g s j how f v t h =
    let gone : Placed → Bool = λ x. not (stays set j how x) && is_due set (ticks g) x in
    let f' : Placed → ℕ = λ x. f (late_job_in x) in
    let same = total-ext (λ x. v (entry_of set rule g x)) (when gone f') (waiting set g) h in
    omega (arith, t.waiting v, same, total-filter f' gone (waiting set g), total-append f' (filter gone (waiting set g)) (gone_late set g))

-- what is kept follows the last tick of a job
pub keeps_end : (set : List Task) (rule : Rule) (g : List Row) (s s' : State) (j : JobId) (how : How) (k : ℕ) (p : Pending) (task : Task) → Legal set rule g → Tracks set rule g s → is_end how ≡ true → is_over how ≡ false → task_at set j.task.0 ≡ Some task →
    find (is_of j) s.waiting.entries ≡ Some (record { key = k; job = j }, p) → Ends (Some task) j p s s' → Tracks set rule (Tick j how ∷ g) s'
keeps_end set rule g s s' j how k p task l t ends over at found m = record {
  ticks = omega (arith, t.ticks, m.moves.ticks);
  rows = omega (arith, m.moves.rows, t.rows);
  mode = m.mode ∙ (t.mode ∙ sym mode_same);
  count = ap length m.moves.tasks ∙ t.count;
  tasks = λ n h. ap (λ xs. slice_get xs n) m.moves.tasks ∙ t.tasks n h;
  queues = m.moves.queues ∙ t.queues;
  waiting = λ f. ap (total f) m.waiting ∙ (total_removed (is_of j) f s.waiting.entries (apart set rule g s l t j) ∙ waits_after set rule g s j how f (taken_at j f) t (Each-all (λ x. each f x) (waiting set g)));
  late_jobs = subst (λ x. CountsLateJobs x (late_sum_of set (Tick j how ∷ g))) (sym m.late_jobs) (noted_so (is_due_at (Some task) p.release s.ticks) refl);
}
  where
    mode_same : high_mode rule (Tick j how ∷ g) ≡ high_mode rule g
    mode_same = rw (over, and-false (is_virtual rule)) refl

    stays_is : (x : Placed) → stays set j how x ≡ not (same_job j x.kept.job)
    stays_is x = rw (ends, over) (grind arith)

    each : (f : Entry → ℕ) (x : Placed) → taken_at j f (entry_of set rule g x) ≡ cond (stays set j how x) (f (entry_of set rule (Tick j how ∷ g) x)) 0
    each f x = rw (stays_is x, mode_same) (by_job (same_job j x.kept.job) (used g x.kept.job))
      where
        by_job : (mine : Bool) (u : ℕ) → cond mine 0 (f (an_entry (key set rule (high_mode rule g) x.kept) x.kept.job
            (a_pending x.kept.release u x.rows_before)))
            ≡ cond (not mine) (f (an_entry (key set rule (high_mode rule g) x.kept) x.kept.job
            (a_pending x.kept.release (cond mine 1 0 + u) x.rows_before))) 0
        by_job true u = refl
        by_job false u = let e : 0 + u ≡ u = omega arith in rw e refl

    -- no entry but the job's has a weight, and that only if the job's deadline has come
    goes : (f : LateJob → ℕ) (x : Placed) →
        when (is_of j) (λ e. cond (nat_le (e.1.release + period_in (task_at set e.0.job.task.0)) (ticks g)) (f (late_job_of e)) 0) (entry_of set rule g x)
        ≡ cond (not (stays set j how x) && is_due set (ticks g) x) (f (late_job_in x)) 0
    goes f x = rw (stays_is x) (grind arith)

    adds : (f : LateJob → ℕ) → cond (is_due_at (Some task) p.release s.ticks) (f (late_job j p)) 0 + late_sum_of set g f ≡ late_sum_of set (Tick j how ∷ g) f
    adds f =
        let v : Entry → ℕ = λ e. cond (nat_le (e.1.release + period_in (task_at set e.0.job.task.0)) (ticks g)) (f (late_job_of e)) 0 in
        let c : v (record { key = k; job = j }, p) ≡ cond (is_due_at (Some task) p.release s.ticks) (f (late_job j p)) 0 = rw (at, ← t.ticks) refl in
        let found_weight = total_found (is_of j) v (record { key = k; job = j }, p) s.waiting.entries (apart set rule g s l t j) found in
        omega (arith, lates_after set rule g s j how f (when (is_of j) v) t (Each-all (λ x. goes f x) (waiting set g)), found_weight, c)

    noted_so : (b : Bool) → is_due_at (Some task) p.release s.ticks ≡ b → CountsLateJobs (cond b (noted s.late_jobs (late_job j p)) s.late_jobs) (late_sum_of set (Tick j how ∷ g))
    noted_so true e =
        counts_same (noted s.late_jobs (late_job j p)) (λ f. f (late_job j p) + late_sum_of set g f) (late_sum_of set (Tick j how ∷ g)) (λ f. rw e at (adds f))
        (counts_note s.late_jobs (late_sum_of set g) (late_job j p) (sums_of set g) t.late_jobs)
    noted_so false e =
        counts_same s.late_jobs (late_sum_of set g) (late_sum_of set (Tick j how ∷ g)) (λ f. let none = rw e at (adds f) in omega (arith, none)) t.late_jobs

-- each job has one entry after a switch, as it had before
still_apart : (set : List Task) (rule : Rule) (i : JobId) (old new : List Entry) → Switches set rule old new → total (when (is_of i) one) old ≤ 1 → total (when (is_of i) one) new ≤ 1
still_apart set rule i old new switches u =
    omega (arith, switches (when (is_of i) one), total-mono (when (is_of i) one) (moved set rule (when (is_of i) one)) old (Each-all (λ e. no_more (task_at set e.0.job.task.0) e) old), u)
  where
    no_more : (o : Option Task) (e : Entry) → cond (is_high_in o) (when (is_of i) one (rekeyed rule o e.0 e.1, e.1)) 0 ≤ when (is_of i) one e
    no_more None e = omega arith
    no_more (Some task) e = grind arith

-- what is kept follows an overrun
pub keeps_over : (set : List Task) (rule : Rule) (g : List Row) (s s' : State) (j : JobId) → Legal set rule g → Tracks set rule g s → s.ticks + 1 ≤ 2 ^ 64 - 1 → is_virtual rule ≡ true →
    Overruns set rule j s s' → Tracks set rule (Tick j Over ∷ g) s'
keeps_over set rule g s s' j l t room virtual m = record {
  ticks = omega (arith, t.ticks, m.moves.ticks);
  rows = omega (arith, m.moves.rows, t.rows);
  mode = m.mode ∙ sym mode_high;
  count = ap length m.moves.tasks ∙ t.count;
  tasks = λ n h. ap (λ xs. slice_get xs n) m.moves.tasks ∙ t.tasks n h;
  queues = m.moves.queues ∙ t.queues;
  waiting = λ f. ap (total f) m.waiting
      ∙ (total_changed (is_of j) (spent_entry 1) f m.switched (still_apart set rule j s.waiting.entries m.switched m.switches (apart set rule g s l t j))
      ∙ (m.switches (ticked_at 1 j f) ∙ waits_after set rule g s j Over f (moved set rule (ticked_at 1 j f)) t (Each-all (λ x. each f x) (waiting set g))));
  late_jobs = subst (λ x. CountsLateJobs x (late_sum_of set (Tick j Over ∷ g))) (sym m.late_jobs)
      (counts_same (noted_each (is_discarded_late set s.ticks) s.late_jobs s.waiting.entries) (λ f. total (when (is_discarded_late set s.ticks) (λ e. f (late_job_of e))) s.waiting.entries + late_sum_of set g f) (late_sum_of set (Tick j Over ∷ g))
      (λ f. lates_after set rule g s j Over f (when (is_discarded_late set s.ticks) (λ e. f (late_job_of e))) t (Each-all (λ x. gone f x) (waiting set g)))
      (counts_all (is_discarded_late set s.ticks) s.late_jobs (late_sum_of set g) s.waiting.entries (sums_of set g) t.late_jobs));
}
  where
    mode_high : high_mode rule (Tick j Over ∷ g) ≡ true
    mode_high = rw virtual refl

    -- the weight of an entry at its new key, with one more tick if the entry is the job's
    entry_moved : (f : Entry → ℕ) (n : ℕ) (i : JobId) (r u rows_before : ℕ) (o : Option Task) (h : Bool) → h ≡ true → u + 1 ≤ 2 ^ 64 - 1 →
        cond (is_high_in o) (ticked_at 1 j f (rekeyed rule o (record { key = n; job = i }) (a_pending r u rows_before), a_pending r u rows_before)) 0
        ≡ cond (is_high_in o) (f (an_entry (key_of rule h o r) i (a_pending r (cond ((j.task.0 == i.task.0) && (j.count == i.count)) 1 0 + u) rows_before))) 0
    entry_moved f n i r u rows_before None h high room = refl
    entry_moved f n i r u rows_before (Some task) h high room =
        rw high (ap (λ (v : ℕ). cond (is_high_in (Some task)) v 0)
        (spent_same (λ u. f (an_entry (key_of rule true (Some task) r) i (a_pending r u rows_before))) ((j.task.0 == i.task.0) && (j.count == i.count)) 1 u room))

    each : (f : Entry → ℕ) (x : Placed) → moved set rule (ticked_at 1 j f) (entry_of set rule g x) ≡ cond (stays set j Over x) (f (entry_of set rule (Tick j Over ∷ g) x)) 0
    each f x =
        entry_moved f (key set rule (high_mode rule g) x.kept) x.kept.job x.kept.release (used g x.kept.job) x.rows_before
        (task_at set x.kept.job.task.0) (high_mode rule (Tick j Over ∷ g)) mode_high (omega (arith, room, t.ticks, used_le g x.kept.job))

    gone : (f : LateJob → ℕ) (x : Placed) → when (is_discarded_late set s.ticks) (λ e. f (late_job_of e)) (entry_of set rule g x) ≡ cond (not (stays set j Over x) && is_due set (ticks g) x) (f (late_job_in x)) 0
    gone f x = rw t.ticks (grind arith)

-- a tick after which its job continues leaves all pending jobs
pub waiting_more : (set : List Task) (j : JobId) (n : ℕ) (g : List Row) → waiting set (replicate n (Tick j More) ++ g) ≡ waiting set g
waiting_more set j zero g = refl
waiting_more set j (suc n) g = filter_true (waiting set (replicate n (Tick j More) ++ g)) ∙ waiting_more set j n g

-- a tick after which its job continues adds no late job
pub gone_more : (set : List Task) (j : JobId) (n : ℕ) (g : List Row) → gone_late set (replicate n (Tick j More) ++ g) ≡ gone_late set g
gone_more set j zero g = refl
gone_more set j (suc n) g =
    ap (λ xs. xs ++ gone_late set (replicate n (Tick j More) ++ g)) (filter_none (λ x. false) (waiting set (replicate n (Tick j More) ++ g)) (Each-all (λ x. refl) _))
    ∙ gone_more set j n g

-- the state follows n ticks after which their job continues
pub keeps_more : (set : List Task) (rule : Rule) (g : List Row) (s s' : State) (j : JobId) (n : ℕ) → Legal set rule g → Tracks set rule g s → s.ticks + n ≤ 2 ^ 64 - 1 →
    GoesOn n j s s' → Tracks set rule (replicate n (Tick j More) ++ g) s'
keeps_more set rule g s s' j n l t room m = record {
  ticks = omega (arith, t.ticks, m.moves.ticks, ticks_more j n g);
  rows = omega (arith, m.moves.rows, t.rows, length_copies (Tick j More) n g);
  mode = m.mode ∙ (t.mode ∙ sym (mode_more rule j n g));
  count = ap length m.moves.tasks ∙ t.count;
  tasks = λ i h. ap (λ xs. slice_get xs i) m.moves.tasks ∙ (t.tasks i h ∙ note_eq _ _ _ _ (sym (releases_more j n g (i + 1))) (sym (next_more set j n g (i + 1))));
  queues = m.moves.queues ∙ t.queues;
  waiting = λ f. ap (total f) m.waiting ∙ (total_changed (is_of j) (spent_entry n) f s.waiting.entries (apart set rule g s l t j)
      ∙ (t.waiting (ticked_at n j f) ∙ (total-same _ _ (λ x. each f x) (waiting set g)
      ∙ ap (total (λ x. f (entry_of set rule (replicate n (Tick j More) ++ g) x))) (sym (waiting_more set j n g)))));
  late_jobs = rw (m.late_jobs, gone_more set j n g) t.late_jobs;
}
  where
    each : (f : Entry → ℕ) (x : Placed) → ticked_at n j f (entry_of set rule g x) ≡ f (entry_of set rule (replicate n (Tick j More) ++ g) x)
    each f x =
        rw (used_more j n g x.kept.job, mode_more rule j n g)
        (spent_same (λ u. f (an_entry (key set rule (high_mode rule g) x.kept) x.kept.job (a_pending x.kept.release u x.rows_before)))
        (same_job j x.kept.job) n (used g x.kept.job) (omega (arith, t.ticks, used_le g x.kept.job, room)))

-- idle ticks change neither the pending jobs nor those that ended or were discarded late

pub waiting_idle : (set : List Task) (n : ℕ) (g : List Row) → waiting set (replicate n Idle ++ g) ≡ waiting set g
waiting_idle set zero g = refl
waiting_idle set (suc n) g = waiting_idle set n g

pub gone_idle : (set : List Task) (n : ℕ) (g : List Row) → gone_late set (replicate n Idle ++ g) ≡ gone_late set g
gone_idle set zero g = refl
gone_idle set (suc n) g = gone_idle set n g

-- what is kept follows n idle ticks, at which nothing waits
pub keeps_rest : (set : List Task) (rule : Rule) (g : List Row) (s s' : State) (n : ℕ) → 1 ≤ n → waiting set g ≡ [] → Tracks set rule g s → Rests n s s' → Tracks set rule (replicate n Idle ++ g) s'
keeps_rest set rule g s s' n some none t m = record {
  ticks = omega (arith, t.ticks, m.moves.ticks, ticks_idle n g);
  rows = omega (arith, m.moves.rows, t.rows, length_copies Idle n g);
  mode = m.mode ∙ sym (mode_idle rule n g some);
  count = ap length m.moves.tasks ∙ t.count;
  tasks = λ i h. ap (λ xs. slice_get xs i) m.moves.tasks ∙ (t.tasks i h ∙ note_eq _ _ _ _ (sym (releases_idle n g (i + 1))) (sym (next_idle set n g (i + 1))));
  queues = m.moves.queues ∙ t.queues;
  waiting = λ f. ap (total f) m.waiting ∙ (t.waiting f ∙ (ap (total (λ x. f (entry_of set rule g x))) none ∙ sym (ap (total (λ x. f (entry_of set rule (replicate n Idle ++ g) x))) (waiting_idle set n g ∙ none))));
  late_jobs = rw (m.late_jobs, gone_idle set n g) t.late_jobs;
}

-- the entries of tracked rows have their keys
pub keyed_tracks : (set : List Task) (rule : Rule) (g : List Row) (s : State) → Tracks set rule g s → list_all (is_keyed set rule (high_mode rule g)) s.waiting.entries ≡ true
keyed_tracks set rule g s t =
    same_all s.waiting.entries (entry_of set rule g) (waiting set g) t.waiting (is_keyed set rule (high_mode rule g))
    ∙ list_all-true (λ (x : Placed). is_keyed set rule (high_mode rule g) (entry_of set rule g x)) (λ x. eqb-refl (key set rule (high_mode rule g) x.kept)) (waiting set g)

-- a task has as many entries as pending jobs
count_of : (k : ℕ) (xs : List KeptRelease) → length (filter (λ (i : KeptRelease). i.job.task.0 == k) xs) ≡ total (λ (i : KeptRelease). cond (i.job.task.0 == k) 1 0) xs
count_of k [] = refl
count_of k (x ∷ xs) = grind (arith, count_of k xs)

entries_pending : (set : List Task) (rule : Rule) (g : List Row) (s : State) (k : ℕ) → Legal set rule g → Tracks set rule g s →
    entries_of k s.waiting.entries ≡ length (filter (λ (i : KeptRelease). i.job.task.0 == k) (pending set g))
entries_pending set rule g s k l t =
    t.waiting (λ (e : Entry). cond (e.0.job.task.0 == k) 1 0)
    ∙ sym (ap (λ (xs : List KeptRelease). length (filter (λ (i : KeptRelease). i.job.task.0 == k) xs)) (pending_is set rule g l)
    ∙ (count_of k (map kept_of (waiting set g)) ∙ total-map (λ (i : KeptRelease). cond (i.job.task.0 == k) 1 0) kept_of (waiting set g)))

-- a run that needs memory by what is kept needs it by the rows
pub needs_memory : (set : List Task) (rule : Rule) (g : List Row) (s : State) (r : Run) → Legal set rule g → Tracks set rule g s → TakesMemory r s → NeedsMemory set g r
needs_memory set rule g s (run.Release j kept) l t m = (m.0, subst (λ (n : ℕ). 2 ≤ n) (entries_pending set rule g s j.task.0 l t) m.1)
needs_memory set rule g s (run.Ticks j how n) l t m = m
needs_memory set rule g s (run.Idles n) l t m = m
