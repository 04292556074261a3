-- Runs of ticks: the rows that n single ticks of the chosen job leave, and those that n idle ticks leave.
use Rattle.std.proofs.Common.{◌≡◌, ◌≢◌, ℕ, zero, suc, ◌+◌, ◌-◌, ◌<◌, ◌≤◌, Bool, true, false, ◌&&◌, ◌==◌, cond, nat_lt, List, [], ◌∷◌, ◌++◌, Option, Some, None, option_map, replicate, reverse, vec_capacity, refl, sym, ap, ◌∙◌, subst, arith, eq-eqb, ne_eqb, inl, inr}
use Rattle.std.proofs.lemmas.Bool.{cases_eq, not-false}
use Rattle.std.proofs.lemmas.Bool.Decides.{nat_tests}
use Rattle.std.specs.List.{AllByRecursion}
use Rattle.mc_task.specs.declared.task.Rule.{Rule}
use Rattle.mc_task.specs.declared.task.Task.{Task}
use Rattle.mc_task.specs.declared.task.JobId.{JobId}
use Rattle.mc_task.specs.TaskSet.{IsTask, IsIn, task_at}
use Rattle.mc_model.specs.declared.row.How.{How}
use Rattle.mc_model.specs.declared.row.How.TheVariants.{More, Stop, Over}
use Rattle.mc_model.specs.declared.row.Row.{Row}
use Rattle.mc_model.specs.declared.row.Row.TheVariants.{Tick, Idle}
use Rattle.mc_model.specs.Mode.{high_mode}
use Rattle.mc_model.specs.TaskNumbers.{low_in, own_in, is_high_in}
use Rattle.mc_model.specs.Rows.{used, same_job}
use Rattle.mc_model.specs.Pending.{KeptRelease, pending}
use Rattle.mc_model.specs.Legal.{Legal, is_empty}
use Rattle.mc_model.specs.Holds.{Holds}
use Rattle.mc_model.specs.Core.{State, Good, chosen, outcome_of, places_used, settle}
use Rattle.mc_model.proofs.Jobs.{job_eq, same_job-refl}
use Rattle.mc_model.proofs.Tasks.{known}
use Rattle.mc_model.proofs.Repeats.{ticks_more, mode_more, pending_more, used_more, ticks_idle, mode_idle, pending_idle, length_copies}
use Rattle.mc_model.proofs.Repeats
use Rattle.mode_core.specs.declared.pending.Pending.{Pending}
use Rattle.mode_core.specs.declared.answers.Boundary.{Boundary}
use Rattle.mode_core.specs.declared.answers.RunFault.TheVariants as run_fault
use Rattle.std.specs.Option.{option_or}
use Rattle.std.proofs.lemmas.Option.{same_Some}
use Rattle.mode_core.specs.declared.answers.GrantFault.{GrantFault}
use Rattle.mode_core.specs.declared.answers.GrantFault.TheVariants as grant_fault
use Rattle.mode_core.specs.declared.answers.NotOut.{NotOut}
use Rattle.mode_core.specs.declared.answers.IdleFault.{IdleFault}
use Rattle.mode_core.specs.Entries.{entry, job_of}
use Rattle.mode_core.specs.Slots.{Slots, waiting, ChangesOnly, more_by}
use Rattle.mode_core.specs.Representation.{IsTally}
use Rattle.mode_core.specs.Noted.{notes_of_rows, notes_of}
use Rattle.mode_core.specs.Shape.{IsSoundUpTo}
use Rattle.mode_core.specs.Events.{refused_if, unless, is_full, is_out, chosen_now, grant_refusal, outcome_refusal, after_grant, after_outcome, idle_refusal, after_idle}
use Rattle.mode_core.specs.Runs.{after_tick, after_ticks, after_idles, may_switch, ticks_left, boundary_of, run_refusal, idles_refusal, is_too_full, AreRunTicks, AreIdleTicks, IsLastTick, going}
use Rattle.arrivals.specs.Arrived.{arrived}
use Rattle.mode_core.specs.declared.scheduler.Core.TheInside.{Inside}
use Rattle.mode_core.specs.Shape.{state_of, IsCore}
use Rattle.mc_model.proofs.Fold.{stays}
use Rattle.mc_model.proofs.Bridge.{pending-tick}
use Rattle.demand_law.proofs.Laws.{at_most_one}
use Rattle.mode_core.proofs.ByTask.{job_of-task, job_of-filter, left}
use Rattle.mode_core.proofs.ChoiceLaw.{choice_of}
use Rattle.mode_core.proofs.CoreSteps.{same_state, core_from}
use Rattle.mode_core.proofs.Fits.{chooses, tick_legal}
use Rattle.mode_core.proofs.Keep.{no_held}
use Rattle.mode_core.proofs.Options.{neither, not_if, no_map, same-cond}
use Rattle.mode_core.proofs.Sound.{sound_with}
use Rattle.mode_core.proofs.Tally.{Ticks, ticking_job, is_it}

-- before the boundary a job goes on after its tick
goes_at : (c : Bool) (u n low own : ℕ) → low ≤ own → n + 1 < cond (c && nat_lt u low) (low - u) (own - u) → cond (u + n + 1 == own) Stop (cond (c && (u + n + 1 == low)) Over More) ≡ More
goes_at c u n low own o h = grind (arith, nat_tests)

-- at the boundary it does not
ends_at : (c : Bool) (u n low own : ℕ) → low ≤ own → u < own → n + 1 ≡ cond (c && nat_lt u low) (low - u) (own - u) → cond (u + n + 1 == own) Stop (cond (c && (u + n + 1 == low)) Over More) ≢ More
ends_at c u n low own o b h = grind (arith, nat_tests)

-- below its own budget a job is at least one tick from its boundary
some_left : (c : Bool) (u low own : ℕ) → u < own → 1 ≤ cond (c && nat_lt u low) (low - u) (own - u)
some_left c u low own b = grind (arith, nat_tests)

module _ (set : List Task) (rule : Rule) (g : List Row) (j : JobId) (tasks : AllByRecursion IsTask set) (l : Legal set rule g) (c : chosen set rule g ≡ Some j) where
  -- n more ticks of the job are counted
  used_so : (n : ℕ) → used (replicate n (Tick j More) ++ g) j ≡ used g j + n
  used_so n = used_more j n g j ∙ rw (same_job-refl j) (omega arith)

  -- the job stays the chosen one
  pub chosen_so : (n : ℕ) → chosen set rule (replicate n (Tick j More) ++ g) ≡ Some j
  chosen_so n = rw (mode_more rule j n g, pending_more set j n g) c

  -- before the boundary the job goes on after its next tick
  pub how_so : (n : ℕ) → n + 1 < ticks_left set rule g j → outcome_of set rule (replicate n (Tick j More) ++ g) j false ≡ More
  how_so n h = rw (mode_more rule j n g, used_so n) (goes_at _ _ n _ _ (known set j.task.0 tasks (chooses set rule g j tasks l c).inside).order h)

  -- the tick at the boundary is the job's last, or an overrun
  pub how_there : (n : ℕ) → n + 1 ≡ ticks_left set rule g j → outcome_of set rule (replicate n (Tick j More) ++ g) j false ≢ More
  how_there n h = rw (mode_more rule j n g, used_so n) (let w = chooses set rule g j tasks l c in ends_at _ _ n _ _ (known set j.task.0 tasks w.inside).order (omega (arith, w.own)) h)

  -- the boundary is at least one tick away
  pub left_some : 1 ≤ ticks_left set rule g j
  left_some = let w = chooses set rule g j tasks l c in some_left (may_switch set rule (high_mode rule g) j.task.0) (used g j) (low_in (task_at set j.task.0)) (own_in (task_at set j.task.0)) (omega (arith, w.own))

  -- ticks before the boundary after which the job goes on are legal
  pub legal_so : (n : ℕ) → n < ticks_left set rule g j → Legal set rule (replicate n (Tick j More) ++ g)
  legal_so zero h = l
  legal_so (suc n) h =
      subst (λ (how : How). Legal set rule (Tick j how ∷ (replicate n (Tick j More) ++ g))) (how_so n (omega (arith, h)))
      (tick_legal set rule j (replicate n (Tick j More) ++ g) false tasks (legal_so n (omega (arith, h))) (chosen_so n))

  -- the boundary is at most at the own budget
  pub within_own : (n : ℕ) → n < ticks_left set rule g j → used g j + n ≤ own_in (task_at set j.task.0)
  within_own n h = go _ _ (known set j.task.0 tasks (chooses set rule g j tasks l c).inside).order h
    where
      go : {low own : ℕ} (b : Bool) (u : ℕ) → low ≤ own → n < cond (b && nat_lt u low) (low - u) (own - u) → u + n ≤ own
      go b u o h = grind (arith, nat_tests)

-- n more ticks of the job in its entry, and none in other entries
entry_more : (h : List Row) (j : JobId) (n : ℕ) (x : KeptRelease) → same_job j x.job ≡ true → more_by n (entry h x) ≡ entry (replicate n (Tick j More) ++ h) x
entry_more h j n x m = ap (λ (u : ℕ). let p : Pending = record { job = x.job; release = x.release; used = u } in p) (sym (used_more j n h x.job ∙ rw m (omega arith)))

entry_other : (h : List Row) (j : JobId) (n : ℕ) (x : KeptRelease) → same_job j x.job ≡ false → entry h x ≡ entry (replicate n (Tick j More) ++ h) x
entry_other h j n x m = ap (λ (u : ℕ). let p : Pending = record { job = x.job; release = x.release; used = u } in p) (sym (used_more j n h x.job ∙ rw m (omega arith)))

-- the clock, the mode and the slots agree with the rows after n ticks after which the chosen job goes on
pub tally_more :
    (s new : Slots) (h : List Row) (t n : ℕ) (j : JobId) → AllByRecursion IsTask s.set → Holds s.set s.rule → chosen s.set s.rule h ≡ Some j → n < ticks_left s.set s.rule h j →
    ChangesOnly s new j.task.0 (option_map (more_by n) (waiting s j.task.0)) →
    IsTally s.set s.rule h t s.high (waiting s) → IsTally s.set s.rule (replicate n (Tick j More) ++ h) (t + n) new.high (waiting new)
tally_more s new h t n j tasks holds c left changes y = record {
  legal = legal_so s.set s.rule h j tasks y.legal c n left;
  clock_is = omega (arith, y.clock_is, ticks_more j n h);
  mode_is = changes.same_mode ∙ (y.mode_is ∙ sym (mode_more s.rule j n h));
  slots_are = λ k i. at k i (job_of k (pending s.set h)) refl ∙ ap (λ xs. option_map (entry (replicate n (Tick j More) ++ h)) (job_of k xs)) (sym (pending_more s.set j n h));
}
  where
    it : Ticks s.set h j
    it = ticking_job s.set s.rule h j (outcome_of s.set s.rule h j false) tasks holds (tick_legal s.set s.rule j h false tasks y.legal c)

    this : (o : Option KeptRelease) → job_of j.task.0 (pending s.set h) ≡ o → option_map (more_by n) (option_map (entry h) o) ≡ option_map (entry (replicate n (Tick j More) ++ h)) o
    this None e = refl
    this (Some x) e = ap (λ (p : Pending). Some p) (entry_more h j n x (is_it s.set h j j.task.0 x it e ∙ eq-eqb _ _ refl))

    other : (k : ℕ) → j.task.0 ≢ k → (o : Option KeptRelease) → job_of k (pending s.set h) ≡ o → option_map (entry h) o ≡ option_map (entry (replicate n (Tick j More) ++ h)) o
    other k d None e = refl
    other k d (Some x) e = ap (λ (p : Pending). Some p) (entry_other h j n x (is_it s.set h j k x it e ∙ ne_eqb _ _ d))

    at : (k : ℕ) → IsIn s.set k → (o : Option KeptRelease) → job_of k (pending s.set h) ≡ o → waiting new k ≡ option_map (entry (replicate n (Tick j More) ++ h)) o
    at k i o e = elim (cases_eq j.task.0 k) [
      | inl d ↦
          subst (λ (q : ℕ). waiting new q ≡ option_map (more_by n) (waiting s q)) d changes.this_task
          ∙ (ap (option_map (more_by n)) (y.slots_are k i ∙ ap (option_map (entry h)) e) ∙ this o (ap (λ (q : ℕ). job_of q (pending s.set h)) d ∙ e))
      | inr d ↦ changes.other_tasks k i (λ q. d (sym q)) ∙ (y.slots_are k i ∙ (ap (option_map (entry h)) e ∙ other k d o e))
    ]

-- the clock, the mode and the slots agree with the rows after idle ticks
pub tally_idles : (set : List Task) (rule : Rule) (h : List Row) (t n : ℕ) (m : Bool) (slots : ℕ → Option Pending) → 1 ≤ n → pending set h ≡ [] → IsTally set rule h t m slots → IsTally set rule (replicate n Idle ++ h) (t + n) false slots
tally_idles set rule h t n m slots some e y = record {
  legal = Repeats.idle_legal set rule n h y.legal (ap is_empty e);
  clock_is = omega (arith, y.clock_is, ticks_idle n h);
  mode_is = sym (mode_idle rule n h some);
  slots_are = λ k i. y.slots_are k i ∙ (ap (λ xs. option_map (entry h) (job_of k xs)) e ∙ sym (ap (λ xs. option_map (entry (replicate n Idle ++ h)) (job_of k xs)) (pending_idle set n h ∙ e)));
}

-- a single tick of the chosen job is its row
pub one_tick : (s : State) (j : JobId) (done : Bool) → chosen_now s ≡ Some j → s.out ≡ None → s.held ≡ [] → places_used s < s.places →
    after_tick s j done ≡ record s { rows = Tick j (outcome_of s.set s.rule s.rows j done) ∷ s.rows }
one_tick s j done c o e room = ap (λ (x : State). after_outcome x j done) granted ∙ (ended ∙ rw (o, e) refl)
  where
    full : is_full s ≡ false
    full = grind (arith, nat_tests)

    free : grant_refusal s j.task.0 ≡ None
    free = rw (full, o, c, eq-eqb j.task.0 j.task.0 refl) refl

    granted : after_grant s j.task.0 ≡ record s { out = Some j }
    granted = ap (λ (f : Option GrantFault). unless f (let x : State = record s { out = chosen_now s } in x) s) free ∙ ap (λ (i : Option JobId). let x : State = record s { out = i } in x) c

    ended : after_outcome (record s { out = Some j }) j done ≡ record s { rows = Tick j (outcome_of s.set s.rule s.rows j done) ∷ s.rows; out = None; held = [] }
    ended = rw (same_job-refl j, e) refl

-- n single ticks of the chosen job before its boundary are n rows after which it goes on: the law of runs
pub ticks_are : (n : ℕ) (s : State) (j : JobId) → AllByRecursion IsTask s.set → Legal s.set s.rule s.rows → chosen_now s ≡ Some j → s.out ≡ None → s.held ≡ [] →
    n < ticks_left s.set s.rule s.rows j → places_used s + n ≤ s.places → after_ticks n s j ≡ going s j n
ticks_are zero s j tasks l c o e left room = refl
ticks_are (suc n) s j tasks l c o e left room =
    ap (λ (x : State). after_tick x j false) (ticks_are n s j tasks l c o e (omega (arith, left)) (omega (arith, room)))
    ∙ (one_tick (going s j n) j false (chosen_so s.set s.rule s.rows j tasks l c n) o e (omega (arith, room, length_copies (Tick j More) n s.rows))
    ∙ ap (λ (how : How). let x : State = record s { rows = Tick j how ∷ (replicate n (Tick j More) ++ s.rows) } in x) (how_so s.set s.rule s.rows j tasks l c n (omega (arith, left))))

-- a run may be made
pub record MayRun (s : State) (j : JobId) (n : ℕ) : Type 0 where
  pub chosen : chosen_now s ≡ Some j
  pub out : s.out ≡ None
  pub left : n ≤ ticks_left s.set s.rule s.rows j
  pub room : places_used s + n ≤ s.places

-- a run that no refusal applies to may be made
pub may_run : (s : State) (j : JobId) (n : ℕ) → run_refusal s j n ≡ None → MayRun s j n
may_run s j n e =
    let p = neither _ _ e in
    let q = neither _ _ p.1 in
    let r = neither _ _ q.1 in
    let left = not_if _ _ r.0 in
    let room = not_if _ _ r.1 in
    record { chosen = go (chosen_now s) (not-false _ (not_if _ _ q.0)); out = no_map _ _ p.0; left = grind (arith, nat_tests); room = grind (arith, nat_tests) }
  where
    go : (o : Option JobId) → is_out o j ≡ true → o ≡ Some j
    go None f = cc
    go (Some i) f = ap (λ (x : JobId). Some x) (job_eq i j f)

-- more ticks leave the notes as they were
notes_more : (j : JobId) (n : ℕ) (g : List Row) → notes_of_rows (replicate n (Tick j More) ++ g) ≡ notes_of_rows g
notes_more j zero g = refl
notes_more j (suc n) g = notes_more j n g

notes_idle : (n : ℕ) (g : List Row) → notes_of_rows (replicate n Idle ++ g) ≡ notes_of_rows g
notes_idle zero g = refl
notes_idle (suc n) g = notes_idle n g

module _ {m : ℕ} (s : State) (sound : IsSoundUpTo m s) where
  module _ (j : JobId) (n : ℕ) (may : MayRun s j (n + 1)) where
    -- the ticks of a run before its last leave a sound state
    pub sound_going : IsSoundUpTo m (going s j n)
    sound_going =
        let legal = legal_so s.set s.rule s.rows j sound.tasks.each sound.good.legal may.chosen n (omega (arith, may.left)) in
        let good : Good (going s j n) = record { legal = legal; out = rw may.out (no_held s sound.good may.out); settled = λ done. rw may.out legal } in
        sound_with s (replicate n (Tick j More) ++ s.rows) s.out s.held sound good (omega (arith, may.room, length_copies (Tick j More) n s.rows))

    -- and the notes as they were
    pub notes_going : notes_of (going s j n) ≡ notes_of s
    notes_going = rw (no_held s sound.good may.out) (notes_more j n s.rows)

    -- and they are single ticks
    pub going_is : after_ticks n s j ≡ going s j n
    going_is = ticks_are n s j sound.tasks.each sound.good.legal may.chosen may.out (no_held s sound.good may.out) (omega (arith, may.left)) (omega (arith, may.room))

    -- after them one more tick may be granted
    pub last_free : grant_refusal (going s j n) j.task.0 ≡ None
    last_free =
        let c = chosen_so s.set s.rule s.rows j sound.tasks.each sound.good.legal may.chosen n in
        let room = length_copies (Tick j More) n s.rows in
        let r = may.room in
        let full : is_full (going s j n) ≡ false = grind (arith, nat_tests) in
        rw (full, may.out, c, eq-eqb j.task.0 j.task.0 refl) refl

    -- the state with the last tick of a run granted
    abbrev pub last_granted : State
    last_granted = let x : State = going s j n in record x { out = chosen_now x }

    -- the last tick may have an outcome
    pub last_out : outcome_refusal last_granted j ≡ None
    last_out = rw (chosen_so s.set s.rule s.rows j sound.tasks.each sound.good.legal may.chosen n, same_job-refl j) refl

    -- the last tick of a run is its outcome
    pub last_tick : (done : Bool) → after_tick (going s j n) j done ≡ record last_granted { rows = settle last_granted done; out = None; held = [] }
    last_tick done =
        ap (λ (f : Option GrantFault). after_outcome (unless f last_granted (going s j n)) j done) last_free
        ∙ ap (λ (f : Option NotOut). unless f (let x : State = record last_granted { rows = settle last_granted done; out = None; held = [] } in x) last_granted) last_out

-- a single idle tick is not refused if there is capacity for it and no job
idle_free : (s : State) → chosen_now s ≡ None → s.out ≡ None → places_used s < s.places → idle_refusal s ≡ None
idle_free s c o room = rw (full, o, c) refl
  where
    full : is_full s ≡ false
    full = grind (arith, nat_tests)

-- a single idle tick is its row
pub one_idle : (s : State) → chosen_now s ≡ None → s.out ≡ None → places_used s < s.places → after_idle s ≡ record s { rows = Idle ∷ s.rows }
one_idle s c o room = ap (λ (f : Option IdleFault). unless f (let x : State = record s { rows = Idle ∷ s.rows } in x) s) (idle_free s c o room)

-- if no job is chosen, none is chosen after idle ticks
chosen_idle : (set : List Task) (rule : Rule) (n : ℕ) (g : List Row) → pending set g ≡ [] → chosen set rule (replicate n Idle ++ g) ≡ None
chosen_idle set rule n g e = rw (pending_idle set n g, e) refl

-- n single idle ticks are n idle rows
pub idles_are : (n : ℕ) (s : State) → pending s.set s.rows ≡ [] → s.out ≡ None → places_used s + n ≤ s.places → after_idles n s ≡ record s { rows = replicate n Idle ++ s.rows }
idles_are zero s e o room = refl
idles_are (suc n) s e o room =
    ap after_idle (idles_are n s e o (omega (arith, room)))
    ∙ one_idle (record s { rows = replicate n Idle ++ s.rows }) (chosen_idle s.set s.rule n s.rows e) o (omega (arith, room, length_copies Idle n s.rows))

-- n idle ticks may be made
pub record MayIdle (s : State) (n : ℕ) : Type 0 where
  pub chosen : chosen_now s ≡ None
  pub out : s.out ≡ None
  pub room : places_used s + n ≤ s.places

-- idle ticks that no refusal applies to may be made
pub may_idle : (s : State) (n : ℕ) → idles_refusal s n ≡ None → MayIdle s n
may_idle s n e =
    let p = neither _ _ e in
    let q = neither _ _ p.1 in
    let room = not_if _ _ q.1 in
    record { chosen = no_map _ _ q.0; out = no_map _ _ p.0; room = grind (arith, nat_tests) }

module _ {m : ℕ} (s : State) (sound : IsSoundUpTo m s) (n : ℕ) (may : MayIdle s n) where
  -- nothing is pending
  pub idle_pending : pending s.set s.rows ≡ []
  idle_pending = choice_of s.set s.rule s.rows None (sym may.chosen)

  -- the state with the idle ticks
  abbrev pub idling : State
  idling = record s { rows = replicate n Idle ++ s.rows }

  -- idle ticks leave a sound state
  pub sound_idles : IsSoundUpTo m idling
  sound_idles =
      let legal = Repeats.idle_legal s.set s.rule n s.rows sound.good.legal (ap is_empty idle_pending) in
      let good : Good idling = record { legal = legal; out = rw may.out (no_held s sound.good may.out); settled = λ done. rw may.out legal } in
      sound_with s (replicate n Idle ++ s.rows) s.out s.held sound good (omega (arith, may.room, length_copies Idle n s.rows))

  -- and the notes as they were
  pub notes_idles : notes_of idling ≡ notes_of s
  notes_idles = rw (no_held s sound.good may.out) (notes_idle n s.rows)

  -- and they are single idle ticks
  pub idling_is : after_idles n s ≡ idling
  idling_is = idles_are n s idle_pending may.out may.room

-- the fields are a core after the ticks of a run before its last
pub core_going : {K : Type 0} {m : ℕ} (a b : Inside K) (j : JobId) (n : ℕ) → IsCore m a → MayRun (state_of a) j (n + 1) → b.log ≡ record a.log { rows = replicate n (Tick j More) ++ a.log.rows } → b.out ≡ a.out → b.held.items ≡ a.held.items → vec_capacity b.held ≡ vec_capacity a.held → b.arrivals ≡ a.arrivals → IsCore m b
core_going a b j n core may eb eo eh ec en =
    let s : State = state_of a in
    let e = same_state b (record a.log { rows = replicate n (Tick j More) ++ a.log.rows }) s.out s.held eb eo (ap reverse eh) in
    core_from b (going s j n) e (sound_going s core.sound j n may) (en ∙ (core.notes_are ∙ ap (arrived s.set) (sym (notes_going s core.sound j n may)))) (omega (arith, core.held_room, ec))

-- the fields are a core after idle ticks
pub core_idles : {K : Type 0} {m : ℕ} (a b : Inside K) (n : ℕ) → IsCore m a → MayIdle (state_of a) n → b.log ≡ record a.log { rows = replicate n Idle ++ a.log.rows } → b.out ≡ a.out → b.held.items ≡ a.held.items → vec_capacity b.held ≡ vec_capacity a.held → b.arrivals ≡ a.arrivals → IsCore m b
core_idles a b n core may eb eo eh ec en =
    let s : State = state_of a in
    let e = same_state b (record a.log { rows = replicate n Idle ++ a.log.rows }) s.out s.held eb eo (ap reverse eh) in
    core_from b (idling s core.sound n may) e (sound_idles s core.sound n may) (en ∙ (core.notes_are ∙ ap (arrived s.set) (sym (notes_idles s core.sound n may)))) (omega (arith, core.held_room, ec))

-- the entry that runs first has the ticks that its job had
pub first_used : (h : List Row) (o : Option KeptRelease) (x : Pending) → Some x ≡ option_map (entry h) o → x.used ≡ used h x.job
first_used h None x e = cc
first_used h (Some i) x e = let d : x ≡ entry h i = cc in rw d refl

-- why a run of the chosen job is refused if no tick is granted: its length alone
pub refusal_is : (s : State) (j : JobId) (n : ℕ) (b : Boundary) → s.out ≡ None → Some b ≡ boundary_of s → b.job ≡ j →
    run_refusal s j n ≡ option_or (refused_if (nat_lt b.ticks n) (run_fault.Past b.ticks)) (refused_if (is_too_full s n) run_fault.Full)
refusal_is s j n b o e q = go (chosen_now s) refl e
  where
    of_job : JobId → Boundary
    of_job i = record { job = i; ticks = ticks_left s.set s.rule s.rows i }

    go : (c : Option JobId) → chosen_now s ≡ c → Some b ≡ option_map of_job c → run_refusal s j n ≡ option_or (refused_if (nat_lt b.ticks n) (run_fault.Past b.ticks)) (refused_if (is_too_full s n) run_fault.Full)
    go None m d = cc
    go (Some i) m d =
        let is : b ≡ of_job i = same_Some b (of_job i) d in
        let same : i ≡ j = sym (ap (λ (x : Boundary). x.job) is) ∙ q in
        let ticks : b.ticks ≡ ticks_left s.set s.rule s.rows j = ap (λ (x : Boundary). x.ticks) is ∙ ap (ticks_left s.set s.rule s.rows) same in
        let chosen : chosen_now s ≡ Some j = m ∙ ap (λ (x : JobId). Some x) same in
        rw (o, chosen, same_job-refl j, ticks) refl

-- an overrun discards the pending jobs of the low tasks, and no other
pub over_discards : (set : List Task) (rule : Rule) (h : List Row) (j : JobId) → AllByRecursion IsTask set → Holds set rule → Legal set rule (Tick j Over ∷ h) →
    (k : ℕ) → job_of k (pending set (Tick j Over ∷ h)) ≡ cond (is_high_in (task_at set k)) (job_of k (pending set h)) None
over_discards set rule h j tasks holds l k =
    ap (job_of k) (pending-tick set rule j Over h l) ∙ (job_of-filter k (stays set j Over) (pending set h) (at_most_one set rule h tasks holds l.2 k) ∙ go (job_of k (pending set h)) refl)
  where
    go : (o : Option KeptRelease) → job_of k (pending set h) ≡ o → left (stays set j Over) o ≡ cond (is_high_in (task_at set k)) o None
    go None e = sym (same-cond (is_high_in (task_at set k)) None)
    go (Some x) e = ap (λ (n : ℕ). cond (is_high_in (task_at set n)) (Some x) None) (job_of-task k (pending set h) x e)

-- no single tick of a run that is not refused is refused, and none before the last ends or overruns
pub run_ticks : {m : ℕ} (s : State) (j : JobId) (n : ℕ) → IsSoundUpTo m s → run_refusal s j n ≡ None → AreRunTicks s j n
run_ticks s j n sound e = record {
  granted = λ i h. subst (λ (x : State). grant_refusal x j.task.0 ≡ None) (sym (going_is s sound j i (part i h))) (last_free s sound j i (part i h));
  more = λ i h.
      let first : i < n = omega (arith, h) in
      subst (λ (x : State). outcome_of s.set s.rule x.rows j false ≡ More) (sym (going_is s sound j i (part i first)))
      (how_so s.set s.rule s.rows j sound.tasks.each sound.good.legal may.chosen i (omega (arith, h, may.left)));
}
  where
    may : MayRun s j n
    may = may_run s j n e

    part : (i : ℕ) → i < n → MayRun s j (i + 1)
    part i h = record { chosen = may.chosen; out = may.out; left = omega (arith, may.left, h); room = omega (arith, may.room, h) }

-- no single tick of idle ticks that are not refused is refused
pub idle_ticks : {m : ℕ} (s : State) (n : ℕ) → IsSoundUpTo m s → idles_refusal s n ≡ None → AreIdleTicks s n
idle_ticks s n sound e i h =
    let may : MayIdle s n = may_idle s n e in
    let part : MayIdle s i = record { chosen = may.chosen; out = may.out; room = omega (arith, may.room, h) } in
    subst (λ (x : State). idle_refusal x ≡ None) (sym (idling_is s sound i part))
    (idle_free (idling s sound i part) (chosen_idle s.set s.rule i s.rows (idle_pending s sound i part)) may.out (omega (arith, may.room, h, length_copies Idle i s.rows)))

-- the tick at the boundary ends the job or is an overrun, if the job is not done: no longer run is one of single ticks
pub run_ends : {m : ℕ} (s : State) (j : JobId) (n : ℕ) → IsSoundUpTo m s → MayRun s j (n + 1) → n + 1 ≡ ticks_left s.set s.rule s.rows j → outcome_of s.set s.rule (after_ticks n s j).rows j false ≢ More
run_ends s j n sound may last =
    subst (λ (x : State). outcome_of s.set s.rule x.rows j false ≢ More) (sym (going_is s sound j n may))
    (how_there s.set s.rule s.rows j sound.tasks.each sound.good.legal may.chosen n last)

-- the boundary is that of the chosen job
boundary_is : (s : State) (b : Boundary) → Some b ≡ boundary_of s → (chosen_now s ≡ Some b.job) × (b.ticks ≡ ticks_left s.set s.rule s.rows b.job)
boundary_is s b e = go (chosen_now s) refl e
  where
    of_job : JobId → Boundary
    of_job i = record { job = i; ticks = ticks_left s.set s.rule s.rows i }

    go : (c : Option JobId) → chosen_now s ≡ c → Some b ≡ option_map of_job c → (chosen_now s ≡ Some b.job) × (b.ticks ≡ ticks_left s.set s.rule s.rows b.job)
    go None m d = cc
    go (Some i) m d =
        let is : b ≡ of_job i = same_Some b (of_job i) d in
        let job : b.job ≡ i = ap (λ (x : Boundary). x.job) is in
        (m ∙ ap (λ (x : JobId). Some x) (sym job), ap (λ (x : Boundary). x.ticks) is ∙ ap (ticks_left s.set s.rule s.rows) (sym job))

-- the boundary is at least one tick away
pub boundary_some : {m : ℕ} (s : State) (b : Boundary) → IsSoundUpTo m s → Some b ≡ boundary_of s → 1 ≤ b.ticks
boundary_some s b sound e =
    let is = boundary_is s b e in
    let some = left_some s.set s.rule s.rows b.job sound.tasks.each sound.good.legal is.0 in
    omega (arith, some, is.1)

-- a run up to the boundary ends the job or is an overrun
pub boundary_last : {m : ℕ} (s : State) (b : Boundary) → IsSoundUpTo m s → Some b ≡ boundary_of s → IsLastTick s b
boundary_last s b sound e free =
    let is = boundary_is s b e in
    let some = boundary_some s b sound e in
    let number : (b.ticks - 1) + 1 ≡ b.ticks = omega (arith, some) in
    run_ends s b.job (b.ticks - 1) sound (subst (λ (n : ℕ). MayRun s b.job n) (sym number) (may_run s b.job b.ticks free)) (number ∙ is.1)

-- with the whole capacity used the chosen job gets no tick
no_grant : (s : State) (j : JobId) → s.out ≡ None → chosen_now s ≡ Some j → is_full s ≡ true → grant_refusal s j.task.0 ≡ Some grant_fault.Full
no_grant s j o c full = rw (full, o, c, eq-eqb j.task.0 j.task.0 refl) refl

-- a run that is too long for the capacity alone has a single tick that is refused as too many
pub run_fills : {m : ℕ} (s : State) (j : JobId) (n : ℕ) → IsSoundUpTo m s → chosen_now s ≡ Some j → s.out ≡ None → n ≤ ticks_left s.set s.rule s.rows j → s.places < places_used s + n →
    grant_refusal (after_ticks (s.places - places_used s) s j) j.task.0 ≡ Some grant_fault.Full
run_fills s j n sound c o left long =
    subst (λ (x : State). grant_refusal x j.task.0 ≡ Some grant_fault.Full) (sym is) (no_grant (going s j i) j o chosen full)
  where
    room : places_used s ≤ s.places
    room = sound.room

    i : ℕ
    i = s.places - places_used s

    is : after_ticks i s j ≡ going s j i
    is = ticks_are i s j sound.tasks.each sound.good.legal c o (no_held s sound.good o) (omega (arith, room, left, long)) (omega (arith, room))

    chosen : chosen_now (going s j i) ≡ Some j
    chosen = chosen_so s.set s.rule s.rows j sound.tasks.each sound.good.legal c i

    full : is_full (going s j i) ≡ true
    full = eq-eqb (places_used (going s j i)) s.places (omega (arith, room, length_copies (Tick j More) i s.rows))
