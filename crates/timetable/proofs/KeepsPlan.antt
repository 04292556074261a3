-- Each of the floor's calls keeps what the floor stores of its plan, and some refusals of the core never come
-- under a plan.
use Rattle.std.proofs.Common.{◌≡◌, ℕ, ◌+◌, ◌<◌, Bool, true, false, not, List, [], ◌∷◌, Option, Some, None, Ok, Err, cond, nat_lt, ◌==◌, slice_get, option_map, refl, sym, ap, ◌∙◌, subst, arith, eqb-true, le-ltb, lt-ltb, inl, inr}
use Rattle.std.proofs.lemmas.Bool.{cases_Bool, not-false, eqb-false}
use Rattle.std.specs.Option.{option_or}
use Rattle.mc_task.specs.declared.task.JobId.{JobId}
use Rattle.mc_model.specs.declared.row.Row.TheVariants.{Idle}
use Rattle.mc_model.specs.declared.work.WorkRow.{WorkRow}
use Rattle.mc_model.specs.Rows.{used}
use Rattle.mc_model.specs.Core.{State, begun, next, next_job}
use Rattle.mc_model.proofs.Jobs.{job_eq}
use Rattle.mode_core.specs.declared.answers.Released.{Released}
use Rattle.mode_core.specs.declared.answers.Granted.{Granted}
use Rattle.mode_core.specs.declared.answers.ReleaseFault.{ReleaseFault}
use Rattle.mode_core.specs.declared.answers.ReleaseFault.TheVariants as release_fault
use Rattle.mode_core.specs.declared.answers.GrantFault.{GrantFault}
use Rattle.mode_core.specs.declared.answers.GrantFault.TheVariants as grant_fault
use Rattle.mode_core.specs.declared.answers.IdleFault.{IdleFault}
use Rattle.mode_core.specs.declared.answers.IdleFault.TheVariants as idle_fault
use Rattle.mode_core.specs.Events as core_event
use Rattle.mode_core.specs.Events.{refused_if, answer, unless, running, is_full, is_spent, is_of_task, is_out, chosen_now, job_in, granted, with_release}
use Rattle.mode_core.specs.Shape.{IsSound}
use Rattle.mode_core.proofs.CallerLemmas.{neither, not_if, no_map, not_spent, MayGrant, may_grant}
use Rattle.timetable.specs.declared.plan.Plan.{Plan}
use Rattle.timetable.specs.declared.plan.Plan.TheVariants.{Free, Rows}
use Rattle.timetable.specs.declared.needs.Needs.{Needs}
use Rattle.timetable.specs.declared.acts.PlanFault.{PlanFault}
use Rattle.timetable.specs.declared.acts.PlanFault.TheVariants as plan_fault
use Rattle.timetable.specs.Floor.{is_planned, due_at, ends_at, done_by, not_due}
use Rattle.timetable.specs.Needs.{Tracks, latest_need}
use Rattle.timetable.specs.Plans.{IsPlanFor, IsOnPlan}
use Rattle.timetable.specs.Ticks.{is_last}
use Rattle.timetable.specs.Shape.{KeepsToWork, FlagsLast, IsStoredPlan, IsStoredBy}
use Rattle.timetable.proofs.Calls.{not_full}
use Rattle.timetable.proofs.Steps.{IsDueRow, due_is, MayTake, may_take, IsTickTime, within, room_for, run_grant, run_idle}
use Rattle.timetable.proofs.Latest.{last_by_need}
use Rattle.timetable.proofs.Extends.{keeps_plan}

-- What a result says of the refusal.

-- a result that is Ok means that nothing was refused
ok_none : {T E : Type 0} → (o : Option E) (t x : T) → answer o t ≡ Ok x → (o ≡ None) × (t ≡ x)
ok_none None t x e = (refl, cc)
ok_none (Some f) t x e = cc

-- a result that is Err is the refusal
err_some : {T E : Type 0} → (o : Option E) (t : T) (f : E) → answer o t ≡ Err f → o ≡ Some f
err_some None t f e = cc
err_some (Some g) t f e = cc

-- The start.

-- before the first row, what the floor stores of its plan is right
pub stored_new : (plan : Plan) (s : State) (needs : Needs) → s.rows ≡ [] → s.out ≡ None → IsPlanFor s plan → ((work : List WorkRow) → Tracks work 0 needs) → IsStoredBy plan s 0 needs false
stored_new Free s needs rows out p t = refl
stored_new (Rows work n) s needs rows out p t = record {
  run = record { schedule = p; runs = rw (out, rows) tt; taken_are = rw (out, rows) refl };
  tracks = t work;
  flag = rw out tt;
}

-- Releases.

-- the work's row is due, and of this task
record IsDueOf (work : List WorkRow) (n taken t k : ℕ) : Type 0 where
  row : WorkRow
  found : due_at (Rows work n) taken t ≡ Some row
  due : IsDueRow work n taken t row
  task : row.task.0 ≡ k

-- if the plan refuses nothing, a row of the task is due
due_of : (work : List WorkRow) (n taken t k : ℕ) → not_due (Rows work n) (due_at (Rows work n) taken t) k ≡ None → IsDueOf work n taken t k
due_of work n taken t k e = go (due_at (Rows work n) taken t) refl e
  where
    go : (o : Option WorkRow) → due_at (Rows work n) taken t ≡ o → not_due (Rows work n) o k ≡ None → IsDueOf work n taken t k
    go None m r = cc
    go (Some w) m r = record { row = w; found = m; due = due_is work n taken t w m; task = eqb-true _ _ (not-false _ (not_if _ _ r)) }

-- the due release may come
may_of : (s : State) (work : List WorkRow) (n taken k : ℕ) → IsSound s → KeepsToWork s work n taken → IsDueOf work n taken (begun s) k → MayTake s work n taken k
may_of s work n taken k sound r d = subst (MayTake s work n taken) d.task (may_take s work n taken d.row sound r d.due)

-- a release does not change whether the granted tick is its job's last
flag_release : (work : List WorkRow) (s : State) (o : Option JobId) (i : JobId) (last : Bool) → s.out ≡ o → FlagsLast work s.rows s.out last → FlagsLast work (with_release s o i).rows (with_release s o i).out last
flag_release work s None i last e t = subst (λ (x : Option JobId). FlagsLast work (with_release s None i).rows x last) (sym e) tt
flag_release work s (Some j) i last e t = t

-- the needs after one more row of the work is noted
abbrev pub Notes : Needs → Needs → WorkRow → Type 0
Notes old new w = (work : List WorkRow) (taken : ℕ) → Tracks work taken old → slice_get work taken ≡ Some w → Tracks work (taken + 1) new

-- after the due release, what the floor stores of its plan is right
pub stored_release : (plan : Plan) (s t : State) (taken k : ℕ) (old new : Needs) (last : Bool) (w : WorkRow) (x : Released) → IsSound s → IsStoredBy plan s taken old last → due_at plan taken (begun s) ≡ Some w → not_due plan (due_at plan taken (begun s)) k ≡ None →
    core_event.release_answer s k ≡ Ok x → t ≡ core_event.after_release s k → Notes old new w → IsStoredBy plan t (taken + 1) new last
stored_release Free s t taken k old new last w x sound kept d r a e notes = cc
stored_release (Rows work n) s t taken k old new last w x sound kept d r a e notes =
    let by : IsDueOf work n taken (begun s) k = due_of work n taken (begun s) k r in
    let may : MayTake s work n taken k = may_of s work n taken k sound kept.run by in
    let row : slice_get work taken ≡ Some w = (due_is work n taken (begun s) w d).row in
    let none : core_event.release_refusal s k ≡ None = (ok_none _ _ x a).0 in
    let after : t ≡ with_release s s.out (next_job s k) = e ∙ ap (λ (o : Option ReleaseFault). unless o (with_release s s.out (next_job s k)) s) none in
    subst (λ (u : State). IsStoredPlan u work n (taken + 1) new last) (sym after) (record {
      run = may.run;
      tracks = notes work taken kept.tracks row;
      flag = flag_release work s s.out (next_job s k) last refl kept.flag;
    })

-- the refusal of a release of a task that has a granted tick
pub record IsRunning (f : ReleaseFault) : Type 0 where
  pub job : JobId
  pub is : f ≡ release_fault.Running job

-- a release that is not too soon, with capacity for its row, is refused only while its task has a granted
-- tick
only_running : (o : Option JobId) (b f : Bool) (n : ℕ) (g : ReleaseFault) → b ≡ false → f ≡ false → option_or (option_map release_fault.Running o) (option_or (refused_if b (release_fault.TooSoon n)) (refused_if f release_fault.Full)) ≡ Some g → IsRunning g
only_running None false false n g p q e = cc
only_running None b f n g p q e = cc
only_running (Some j) b f n g p q e = record { job = j; is = cc }

-- under a plan a release is refused only while its task has a granted tick
pub release_faults : (plan : Plan) (s : State) (taken k : ℕ) (needs : Needs) (last : Bool) (f : ReleaseFault) → is_planned plan ≡ true → IsSound s → IsStoredBy plan s taken needs last → not_due plan (due_at plan taken (begun s)) k ≡ None → core_event.release_answer s k ≡ Err f → IsRunning f
release_faults Free s taken k needs last f p sound kept r a = cc
release_faults (Rows work n) s taken k needs last f p sound kept r a =
    let may : MayTake s work n taken k = may_of s work n taken k sound kept.run (due_of work n taken (begun s) k r) in
    only_running (running s.out k) (nat_lt (begun s) (next s k)) (is_spent s k) (next s k) f (le-ltb _ _ may.soon) (not_spent s k (omega (arith, sound.range)) may.room) (err_some _ _ f a)

-- Ticks.

-- why a plan, of which `taken` releases were taken, refuses a tick at boundary t
abbrev pub refused : Plan → ℕ → ℕ → Option PlanFault
refused plan taken t = option_or (option_map (λ (w : WorkRow). plan_fault.Due w.task) (due_at plan taken t)) (refused_if (ends_at plan t) plan_fault.Finished)

-- a tick may come if the plan refuses nothing
tick_time : (s : State) (work : List WorkRow) (n taken : ℕ) → IsSound s → KeepsToWork s work n taken → refused (Rows work n) taken (begun s) ≡ None → IsTickTime s work n taken
tick_time s work n taken sound r e =
    let p = neither _ _ e in
    let none : due_at (Rows work n) taken (begun s) ≡ None = no_map _ _ p.0 in
    let soon : begun s < n = omega (arith, eqb-false (begun s) n (not_if _ _ p.1), within s work n taken sound r) in
    record { none = rw (lt-ltb (begun s) n soon) at none; soon = soon }

-- a grant that is not refused is to the chosen job's task
grant_task : (s : State) (k : ℕ) (j : JobId) → chosen_now s ≡ Some j → core_event.grant_refusal s k ≡ None → j.task.0 ≡ k
grant_task s k j c m =
    let p = neither _ _ (neither _ _ m).1 in
    let is : is_of_task (chosen_now s) k ≡ true = not-false _ (not_if _ _ p.0) in
    eqb-true _ _ (subst (λ (o : Option JobId). is_of_task o k ≡ true) c is)

-- after a grant to the chosen job's task, what the floor stores of its plan is right
pub stored_grant : (plan : Plan) (s t : State) (taken k need : ℕ) (needs : Needs) (last : Bool) (x : Granted) → IsSound s → IsStoredBy plan s taken needs last → refused plan taken (begun s) ≡ None →
    core_event.grant_answer s k ≡ Ok x → t ≡ core_event.after_grant s k → ((work : List WorkRow) (taken : ℕ) → Tracks work taken needs → need ≡ latest_need work taken k) → IsStoredBy plan t taken needs (x.before + 1 == need)
stored_grant Free s t taken k need needs last x sound kept r a e at = kept
stored_grant (Rows work n) s t taken k need needs last x sound kept r a e at =
    let none : core_event.grant_refusal s k ≡ None = (ok_none _ _ x a).0 in
    let may : MayGrant s = may_grant s k sound none in
    let time : IsTickTime s work n taken = tick_time s work n taken sound kept.run r in
    let after : t ≡ record s { out = chosen_now s } = e ∙ ap (λ (o : Option GrantFault). unless o (record s { out = chosen_now s }) s) none in
    let given : x ≡ granted s may.job = sym (ok_none _ _ x a).1 ∙ ap (λ (o : Option JobId). granted s (job_in o)) may.chosen in
    let task : may.job.task.0 ≡ k = grant_task s k may.job may.chosen none in
    let flag : (x.before + 1 == need) ≡ is_last work s.rows may.job =
    ap (λ (y : Granted). y.before + 1 == need) given
    ∙ (ap (λ (m : ℕ). used s.rows may.job + 1 == m) (at work taken kept.tracks ∙ ap (λ (i : ℕ). latest_need work taken i) (sym task))
    ∙ last_by_need s work n taken may.job sound kept.run may.out may.chosen) in
    subst (λ (u : State). IsStoredPlan u work n taken needs (x.before + 1 == need)) (sym after) (record {
      run = run_grant s work n taken may.job sound kept.run may.out may.chosen time;
      tracks = kept.tracks;
      flag = subst (λ (o : Option JobId). FlagsLast work s.rows o (x.before + 1 == need)) (sym may.chosen) flag;
    })

-- after an idle tick, what the floor stores of its plan is right
pub stored_idle : (plan : Plan) (s t : State) (taken : ℕ) (needs : Needs) (last : Bool) → IsSound s → IsStoredBy plan s taken needs last → refused plan taken (begun s) ≡ None →
    t ≡ core_event.after_idle s → IsStoredBy plan t taken needs last
stored_idle Free s t taken needs last sound kept r e = kept
stored_idle (Rows work n) s t taken needs last sound kept r e = subst (λ (u : State). IsStoredPlan u work n taken needs last) (sym e) (go (core_event.idle_refusal s) refl)
  where
    time : IsTickTime s work n taken
    time = tick_time s work n taken sound kept.run r

    go : (o : Option IdleFault) → core_event.idle_refusal s ≡ o → IsStoredPlan (unless o (record s { rows = Idle ∷ s.rows }) s) work n taken needs last
    go (Some f) m = kept
    go None m =
        let p = neither _ _ m in
        let q = neither _ _ p.1 in
        let out : s.out ≡ None = no_map _ _ p.0 in
        record {
          run = run_idle s work n taken kept.run out (no_map _ _ q.0) time;
          tracks = kept.tracks;
          flag = subst (λ (o : Option JobId). FlagsLast work (Idle ∷ s.rows) o last) (sym out) tt;
        }

-- under a plan no grant is refused because the core is full
pub grant_not_full : (plan : Plan) (s : State) (taken k : ℕ) (needs : Needs) (last : Bool) → is_planned plan ≡ true → IsSound s → IsStoredBy plan s taken needs last → refused plan taken (begun s) ≡ None →
    core_event.grant_answer s k ≡ Err grant_fault.Full → ⊥
grant_not_full Free s taken k needs last p sound kept r a = cc
grant_not_full (Rows work n) s taken k needs last p sound kept r a =
    no s.out (is_of_task (chosen_now s) k) (chosen_now s) (is_full s) (not_full s (room_for s work n taken sound kept.run (tick_time s work n taken sound kept.run r).soon)) (err_some _ _ grant_fault.Full a)
  where
    no : (o : Option JobId) (b : Bool) (c : Option JobId) (f : Bool) → f ≡ false → option_or (option_map grant_fault.TickOut o) (option_or (refused_if (not b) (grant_fault.NotChosen c)) (refused_if f grant_fault.Full)) ≡ Some grant_fault.Full → ⊥
    no (Some j) b c f m e = cc
    no None false c f m e = cc
    no None true c true m e = cc
    no None true c false m e = cc

-- under a plan no idle tick is refused because the core is full
pub idle_not_full : (plan : Plan) (s : State) (taken : ℕ) (needs : Needs) (last : Bool) → is_planned plan ≡ true → IsSound s → IsStoredBy plan s taken needs last → refused plan taken (begun s) ≡ None →
    core_event.idle_answer s ≡ Err idle_fault.Full → ⊥
idle_not_full Free s taken needs last p sound kept r a = cc
idle_not_full (Rows work n) s taken needs last p sound kept r a =
    no s.out (chosen_now s) (is_full s) (not_full s (room_for s work n taken sound kept.run (tick_time s work n taken sound kept.run r).soon)) (err_some _ _ idle_fault.Full a)
  where
    no : (o c : Option JobId) (f : Bool) → f ≡ false → option_or (option_map idle_fault.TickOut o) (option_or (option_map idle_fault.Pending c) (refused_if f idle_fault.Full)) ≡ Some idle_fault.Full → ⊥
    no (Some j) c f m e = cc
    no None (Some i) f m e = cc
    no None None true m e = cc
    no None None false m e = cc

-- Outcomes.

-- the granted tick is the job's
out_is : (o : Option JobId) (j : JobId) → is_out o j ≡ true → o ≡ Some j
out_is None j k = cc
out_is (Some i) j k = ap (λ (x : JobId). Some x) (job_eq i j k)

-- whether the granted tick is its job's last is what the plan says
done_is : (plan : Plan) (s : State) (taken : ℕ) (needs : Needs) (last claimed d : Bool) (j : JobId) → IsStoredBy plan s taken needs last → s.out ≡ Some j → d ≡ cond (is_planned plan) last claimed → d ≡ done_by plan s.rows j claimed
done_is Free s taken needs last claimed d j kept o e = e
done_is (Rows work n) s taken needs last claimed d j kept o e = e ∙ subst (λ (x : Option JobId). FlagsLast work s.rows x last) o kept.flag

-- an outcome with the stored flag is one with what the plan says, since a tick of another job is refused
pub same_outcome : (plan : Plan) (s : State) (taken : ℕ) (needs : Needs) (last claimed d : Bool) (j : JobId) → IsStoredBy plan s taken needs last → d ≡ cond (is_planned plan) last claimed →
    (core_event.outcome_answer s j d ≡ core_event.outcome_answer s j (done_by plan s.rows j claimed)) × (core_event.after_outcome s j d ≡ core_event.after_outcome s j (done_by plan s.rows j claimed))
same_outcome plan s taken needs last claimed d j kept e = elim (cases_Bool (is_out s.out j)) [
  | inl m ↦
      let same : d ≡ done_by plan s.rows j claimed = done_is plan s taken needs last claimed d j kept (out_is s.out j m) e in
      (ap (λ (x : Bool). core_event.outcome_answer s j x) same, ap (λ (x : Bool). core_event.after_outcome s j x) same)
  | inr m ↦ (rw m refl, rw m refl)
]

-- the core keeps to its plan
pub on_plan : (plan : Plan) (s : State) (taken : ℕ) (needs : Needs) (last : Bool) → IsSound s → IsStoredBy plan s taken needs last → IsOnPlan plan taken s
on_plan Free s taken needs last sound kept = kept
on_plan (Rows work n) s taken needs last sound kept = keeps_plan s work n taken sound kept.run
