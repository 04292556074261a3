-- Histories, call by call: what a call does, what no call changes, which tick is granted, and how a history
-- goes on.
use Rattle.std.proofs.Common.{◌≡◌, ℕ, ◌≤◌, ◌≢◌, ◌==◌, ◌-◌, List, [], ◌∷◌, ◌++◌, Bool, true, false, not, Option, Some, None, Ok, Err, cond, refl, ap, sym, ◌∙◌, subst, arith}
use Rattle.std.proofs.Common.{ne_eqb}
use Rattle.std.proofs.lemmas.Bool.{eq-eqb, eqb-true, eqb-false}
use Rattle.std.proofs.lemmas.Bool.Decides.{nat_tests}
use Rattle.std.proofs.lemmas.List.Elements.{filter-append}
use Rattle.mc_task.specs.declared.task.JobId.{JobId}
use Rattle.mc_task.specs.TaskSet.{IsIn}
use Rattle.mc_model.specs.declared.row.Row.TheVariants as row
use Rattle.mc_model.specs.Rows.{ticks}
use Rattle.mc_model.specs.Core.{State, IsOut, settle, settled, next_job, outcome_of}
use Rattle.mc_model.proofs.Booleans.{eqb-refl}
use Rattle.mode_core.specs.declared.answers.GrantFault.{GrantFault}
use Rattle.mode_core.specs.declared.answers.IdleFault.{IdleFault}
use Rattle.mode_core.specs.declared.answers.NotOut.{NotOut}
use Rattle.mode_core.specs.declared.answers.ReleaseFault.{ReleaseFault}
use Rattle.mode_core.specs.declared.answers.Released.{Released as ReleasedNow}
use Rattle.mode_core.specs.Shape.{IsSound}
use Rattle.mode_core.specs.Events
use Rattle.mode_core.specs.Events.{refused_if, running, is_of_task, job_in, chosen_now, with_release, granted}
use Rattle.mode_core.proofs.CallerLemmas.{chooses, neither, no_map}
use Rattle.timetable.specs.declared.acts.Act.{Act}
use Rattle.timetable.specs.declared.acts.ActFault.{ActFault}
use Rattle.timetable.specs.declared.acts.PlanFault.{PlanFault}
use Rattle.timetable.specs.Floor.{FloorState, floor_unless, of_core, plan_answer, release_refusal, releasing, tick_refusal, done_by}
use Rattle.turnstile.specs.History.{made_by, StartsWith}
use Rattle.executive.specs.declared.entry.Entry.{Entry}
use Rattle.executive.specs.declared.entry.Call.{Call}
use Rattle.executive.specs.declared.entry.Call.TheVariants.{Release, Take, Outcome, Idle, Look}
use Rattle.executive.specs.declared.entry.Answer.{Answer}
use Rattle.executive.specs.declared.entry.Answer.TheVariants.{Released, Taken, Settled, Idled, Next}
use Rattle.executive.specs.Histories.{MayCall, answer_to, after_call, after, IsLegalEntry, IsLegal, calls_of, seat_number}
use Rattle.executive.specs.Stands.{opening_of}
use Rattle.executive.specs.Passes.{job_then}

-- What a call does.

-- the floor with another core and another count of releases taken
abbrev pub with_core : FloorState → State → ℕ → FloorState
with_core f s n = record f { core = s; taken = n }

-- the core once the granted tick of this job has its outcome
abbrev pub core_ended : State → JobId → Bool → State
core_ended s j done = record s { rows = settled s.set s.rule done s.rows (Some j) s.held; out = None; held = [] }

-- the ways in which a call of task number k may go, each with its answer and the floor that it leaves
pub data Way (f : FloorState) (k : ℕ) : Call → Answer → FloorState → Type 0 where
  release_refused : (e : ActFault ReleaseFault) (n : ℕ) → Way f k Release (Released (Err e)) (with_core f f.core n)
  release_written : (x : ReleasedNow) (n : ℕ) → f.core.out ≡ None → Way f k Release (Released (Ok x)) (with_core f (with_release f.core None (next_job f.core k)) n)
  release_held : (x : ReleasedNow) (n : ℕ) (j : JobId) → f.core.out ≡ Some j
      → Way f k Release (Released (Ok x)) (with_core f (with_release f.core (Some j) (next_job f.core k)) n)
  grant_refused : (e : ActFault GrantFault) → Way f k Take (Taken (Err e)) f
  grant_given : (j : JobId) → f.core.out ≡ None → chosen_now f.core ≡ Some j → j.task.0 ≡ k
      → Way f k Take (Taken (Ok (granted f.core j))) (with_core f (record f.core { out = Some j }) f.taken)
  outcome_refused : (claimed : Bool) (e : NotOut) → Way f k (Outcome claimed) (Settled (Err e)) f
  outcome_written : (claimed done : Bool) (j : JobId) → f.core.out ≡ Some j → done ≡ done_by f.plan f.core.rows j claimed
      → Way f k (Outcome claimed) (Settled (Ok (outcome_of f.core.set f.core.rule f.core.rows j done))) (with_core f (core_ended f.core j done) f.taken)
  idle_refused : (e : ActFault IdleFault) → Way f k Idle (Idled (Err e)) f
  idle_written : f.core.out ≡ None → Way f k Idle (Idled (Ok (ticks f.core.rows))) (with_core f (record f.core { rows = row.Idle ∷ f.core.rows }) f.taken)
  looked : (a : Act) → Way f k Look (Next a) f

-- a test whose failure would be refused holds if nothing is refused
holds : {E : Type 0} (b : Bool) (e : E) → refused_if (not b) e ≡ None → b ≡ true
holds true e h = refl
holds false e h = absurd (cc)

-- each call goes in one of the ways
pub way : (f : FloorState) (k : ℕ) (c : Call) → Way f k c (answer_to f k c) (after_call f k c)
way f k Release = plan (release_refusal f k)
  where
    core : (o : Option ReleaseFault) (out : Option JobId) (n : ℕ) → f.core.out ≡ out → Way f k Release (Released (of_core (Events.answer o (Events.taken f.core out k))))
        (with_core f (Events.unless o (with_release f.core out (next_job f.core k)) f.core) n)
    core (Some e) out n is = release_refused _ n
    core None None n is = release_written _ n is
    core None (Some j) n is = release_held _ n j is

    plan : (o : Option PlanFault) → Way f k Release (Released (plan_answer o (Events.release_answer f.core k))) (floor_unless o (releasing f k) f)
    plan (Some e) = release_refused _ f.taken
    plan None = core (Events.release_refusal f.core k) f.core.out _ refl
way f k Take = plan (tick_refusal f)
  where
    to : (o : Option JobId) → f.core.out ≡ None → chosen_now f.core ≡ o → is_of_task o k ≡ true
        → Way f k Take (Taken (Ok (granted f.core (job_in o)))) (with_core f (record f.core { out = o }) f.taken)
    to None out is own = absurd (cc)
    to (Some j) out is own = grant_given j out is (eqb-true j.task.0 k own)

    core : (o : Option GrantFault) → Events.grant_refusal f.core k ≡ o → Way f k Take (Taken (of_core (Events.answer o (granted f.core (job_in (chosen_now f.core))))))
        (with_core f (Events.unless o (record f.core { out = chosen_now f.core }) f.core) f.taken)
    core (Some e) is = grant_refused _
    core None is = let h = neither _ _ is in to (chosen_now f.core) (no_map _ _ h.0) refl (holds _ _ (neither _ _ h.1).0)

    plan : (o : Option PlanFault) → Way f k Take (Taken (plan_answer o (Events.grant_answer f.core k)))
        (floor_unless o (with_core f (Events.after_grant f.core k) f.taken) f)
    plan (Some e) = grant_refused _
    plan None = core (Events.grant_refusal f.core k) refl
way f k (Outcome claimed) = of f.core.out refl
  where
    core : (o : Option NotOut) (j : JobId) → f.core.out ≡ Some j
        → Way f k (Outcome claimed) (Settled (Events.answer o (outcome_of f.core.set f.core.rule f.core.rows j (done_by f.plan f.core.rows j claimed))))
        (with_core f (Events.unless o (core_ended f.core j (done_by f.plan f.core.rows j claimed)) f.core) f.taken)
    core (Some e) j is = outcome_refused claimed e
    core None j is = outcome_written claimed _ j is refl

    of : (o : Option JobId) → f.core.out ≡ o → let s = record f.core { out = o } in let done = done_by f.plan f.core.rows (job_in o) claimed in
        Way f k (Outcome claimed) (Settled (Events.outcome_answer s (job_in o) done))
        (with_core f (Events.unless (Events.outcome_refusal s (job_in o)) (record s { rows = settle s done; out = None; held = [] }) f.core) f.taken)
    of None is = outcome_refused claimed _
    of (Some j) is = core _ j is
way f k Idle = plan (tick_refusal f)
  where
    core : (o : Option IdleFault) → Events.idle_refusal f.core ≡ o → Way f k Idle (Idled (of_core (Events.answer o (ticks f.core.rows))))
        (with_core f (Events.unless o (record f.core { rows = row.Idle ∷ f.core.rows }) f.core) f.taken)
    core (Some e) is = idle_refused _
    core None is = idle_written (no_map _ _ (neither _ _ is).0)

    plan : (o : Option PlanFault) → Way f k Idle (Idled (plan_answer o (Events.idle_answer f.core))) (floor_unless o (with_core f (Events.after_idle f.core) f.taken) f)
    plan (Some e) = idle_refused _
    plan None = core (Events.idle_refusal f.core) refl
way f k Look = looked _

-- a call changes neither the set nor the rule, the capacity or the plan
pub opening_call : (f : FloorState) (k : ℕ) (c : Call) → opening_of (after_call f k c) ≡ opening_of f
opening_call f k c = go (way f k c)
  where
    go : {d : Call} {a : Answer} {g : FloorState} → Way f k d a g → opening_of g ≡ opening_of f
    go (looked x) = refl
    go w = refl

-- a history changes neither the set nor the rule, the capacity or the plan
pub opening_after : (f : FloorState) (log : List Entry) → opening_of (after f log) ≡ opening_of f
opening_after f [] = refl
opening_after f (e ∷ es) = opening_after (after_call f e.task.0 e.call) es ∙ opening_call f e.task.0 e.call

-- The floor after a history that goes on.

pub after_more : (f : FloorState) (log more : List Entry) → after f (log ++ more) ≡ after (after f log) more
after_more f [] more = refl
after_more f (e ∷ es) more = after_more (after_call f e.task.0 e.call) es more

-- a legal history with one more legal entry is legal
pub legal_more : (f : FloorState) (log : List Entry) (e : Entry) → IsLegal f log → IsLegalEntry (after f log) e → IsLegal f (log ++ e ∷ [])
legal_more f [] e h l = (l, tt)
legal_more f (x ∷ xs) e h l = (h.0, legal_more (after_call f x.task.0 x.call) xs e h.1 l)

-- the later part of a legal history is legal on the floor that the earlier part leaves
pub legal_rest : (f : FloorState) (log more : List Entry) → IsLegal f (log ++ more) → IsLegal (after f log) more
legal_rest f [] more h = h
legal_rest f (x ∷ xs) more h = legal_rest (after_call f x.task.0 x.call) xs more h.1

no_rest : (xs ys : List Entry) → xs ≡ xs ++ ys → ys ≡ []
no_rest [] ys e = sym e
no_rest (x ∷ xs) ys e = no_rest xs ys (cc)

-- Which tick is granted.

-- a granted tick of one task is not one of another task
pub runs_no_other : (o : Option JobId) (j k : ℕ) → is_of_task o j ≡ true → j ≢ k → running o k ≡ None
runs_no_other None j k h ne = refl
runs_no_other (Some i) j k h ne = let no : (i.task.0 == k) ≡ false = ne_eqb i.task.0 k (λ q. ne (sym (eqb-true i.task.0 j h) ∙ q)) in rw no refl

-- a granted tick of a task is that of its job
pub runs_own : (o : Option JobId) (k : ℕ) → is_of_task o k ≡ true → running o k ≡ Some (job_in o)
runs_own None k h = absurd (cc)
runs_own (Some i) k h = rw h refl

-- if a task has a granted tick, that is the floor's granted tick
pub runs_is : (o : Option JobId) (k : ℕ) (j : JobId) → running o k ≡ Some j → (o ≡ Some j) × (is_of_task o k ≡ true)
runs_is None k j h = absurd (cc)
runs_is (Some i) k j h = go (i.task.0 == k) h
  where
    go : (b : Bool) → refused_if b i ≡ Some j → (Some i ≡ Some j) × (b ≡ true)
    go true h = (h, refl)
    go false h = absurd (cc)

-- a call of another task leaves this task's granted tick as it was
pub out_other : (f : FloorState) (k task : ℕ) (c : Call) → MayCall f task c → task ≢ k → running (after_call f task c).core.out k ≡ running f.core.out k
out_other f k task c may ne = go (way f task c) may
  where
    go : {d : Call} {a : Answer} {g : FloorState} → Way f task d a g → MayCall f task d → running g.core.out k ≡ running f.core.out k
    go (grant_given j out chosen own) may = runs_no_other (Some j) task k (eq-eqb j.task.0 task own) ne ∙ ap (λ (o : Option JobId). running o k) (sym out)
    go (outcome_written claimed done j out is) may = sym (runs_no_other f.core.out task k may ne)
    go w may = refl

-- what a call of the task does to its granted tick
pub out_own : (f : FloorState) (k : ℕ) (c : Call) → running (after_call f k c).core.out k ≡ job_then (answer_to f k c) (running f.core.out k)
out_own f k c = go (way f k c)
  where
    go : {d : Call} {a : Answer} {g : FloorState} → Way f k d a g → running g.core.out k ≡ job_then a (running f.core.out k)
    go (grant_given j out chosen own) = runs_own (Some j) k (eq-eqb j.task.0 k own)
    go w = refl

none_of_it : (b : Bool) (e : Entry) (es : List Entry) → cond b (e ∷ es) es ≡ [] → (b ≡ false) × (es ≡ [])
none_of_it true e es h = absurd (cc)
none_of_it false e es h = (refl, h)

-- calls of other tasks leave this task's granted tick as it was
pub out_stays : (k : ℕ) (f : FloorState) (more : List Entry) → IsLegal f more → calls_of k more ≡ [] → running (after f more).core.out k ≡ running f.core.out k
out_stays k f [] l none = refl
out_stays k f (e ∷ es) l none =
    let n = none_of_it (e.task.0 == k) e (calls_of k es) none in
    out_stays k (after_call f e.task.0 e.call) es l.1 n.1 ∙ out_other f k e.task.0 e.call l.0.may (eqb-false e.task.0 k n.0)

-- a history that goes on without a call of the task leaves its granted tick as it was
pub still_out : (k : ℕ) (f : FloorState) (seen log : List Entry) → StartsWith log seen → IsLegal f log → calls_of k seen ≡ calls_of k log → running (after f log).core.out k ≡ running (after f seen).core.out k
still_out k f seen log begins legal same =
    let legal' : IsLegal f (seen ++ begins.0) = subst (IsLegal f) begins.1 legal in
    let none : calls_of k begins.0 ≡ [] = no_rest (calls_of k seen) (calls_of k begins.0) (same ∙ (ap (calls_of k) begins.1 ∙ filter-append (λ (e : Entry). e.task.0 == k) seen begins.0)) in
    ap (λ (l : List Entry). running (after f l).core.out k) begins.1
    ∙ (ap (λ (g : FloorState). running g.core.out k) (after_more f seen begins.0) ∙ out_stays k (after f seen) begins.0 (legal_rest f seen begins.0 legal') none)

-- a call that a task may make on one floor is allowed on another where the task has the same granted tick or
-- none
pub may_still : (f g : FloorState) (k : ℕ) (c : Call) → running g.core.out k ≡ running f.core.out k → MayCall f k c → MayCall g k c
may_still f g k (Outcome done) e may = (runs_is g.core.out k (job_in f.core.out) (e ∙ runs_own f.core.out k may)).1
may_still f g k c e may = tt

-- if no task of the set has a granted tick, none is granted
pub none_out : (s : State) (o : Option JobId) → IsSound s → IsOut s.set s.rule s.rows o s.held → ((k : ℕ) → IsIn s.set k → running o k ≡ None) → o ≡ None
none_out s None sound is none = refl
none_out s (Some j) sound is none =
    let inside = (chooses s.set s.rule s.rows j sound.tasks.each sound.good.legal is).inside in
    let no : Some j ≡ None = sym (runs_own (Some j) j.task.0 (eqb-refl j.task.0)) ∙ none j.task.0 inside in absurd (cc)

-- the calls of a task are the entries of its seat

pub seat_of_task : (e k : ℕ) → 1 ≤ e → 1 ≤ k → (e - 1 == k - 1) ≡ (e == k)
seat_of_task e k h i = grind (arith, nat_tests)

pub own_calls : (f : FloorState) (log : List Entry) (k : ℕ) → IsLegal f log → 1 ≤ k → made_by seat_number (k - 1) log ≡ calls_of k log
own_calls f [] k l h = refl
own_calls f (e ∷ es) k l h =
    ap (λ (b : Bool). cond b (e ∷ made_by seat_number (k - 1) es) (made_by seat_number (k - 1) es)) (seat_of_task e.task.0 k l.0.in_set.0 h)
    ∙ ap (λ (l : List Entry). cond (e.task.0 == k) (e ∷ l) l) (own_calls (after_call f e.task.0 e.call) es k l.1 h)
