-- The clock, the mode and the slots agree with the rows after each row.
use Rattle.std.proofs.Common.{◌≡◌, ℕ, ◌+◌, ◌≤◌, Bool, true, false, not, ◌&&◌, ◌||◌, List, [], ◌∷◌, Option, Some, None, option_map, cond, ◌==◌, refl, sym, ap, ap₂, subst, ◌∙◌, arith, eq-eqb, ne_eqb, inl, inr}
use Rattle.std.proofs.Math.Bool.{and-false}
use Rattle.std.proofs.lemmas.Bool.{cases_eq}
use Rattle.std.proofs.lemmas.Option.{same_Some}
use Rattle.std.specs.List.{AllByRecursion}
use Rattle.mc_task.specs.declared.task.Rule.{Rule}
use Rattle.mc_task.specs.declared.task.Task.{Task}
use Rattle.mc_task.specs.declared.task.JobId.{JobId}
use Rattle.mc_task.specs.TaskSet.{IsTask, IsIn, task_at}
use Rattle.mc_model.specs.declared.row.How.{How}
use Rattle.mc_model.specs.declared.row.Row.{Row}
use Rattle.mc_model.specs.declared.row.Row.TheVariants.{Release, Tick, Idle}
use Rattle.mc_model.specs.declared.row.How.TheVariants.{More, Done, Stop, Over}
use Rattle.mc_model.specs.TaskNumbers.{is_high_in, own_in}
use Rattle.mc_model.specs.Rows.{ticks, used, same_job}
use Rattle.mc_task.specs.Kinds.{is_virtual}
use Rattle.mc_model.specs.Mode.{is_over}
use Rattle.mc_model.specs.Pending.{KeptRelease, pending, is_end}
use Rattle.mc_model.specs.Legal.{Legal, is_pending}
use Rattle.mc_model.specs.Holds.{Holds}
use Rattle.mc_model.proofs.Fold.{stays}
use Rattle.mc_model.proofs.Jobs.{is_in, each_in, same_job-refl}
use Rattle.mc_model.proofs.Live.{IsLiveOk}
use Rattle.mc_model.proofs.Bridge.{bridge, pending-tick}
use Rattle.mc_model.proofs.Steps.{release_fits, TickFits, tick_fits, idle_fits, Hows, more, done, stop, over, hows}
use Rattle.demand_law.proofs.Laws.{at_most_one, none_at_release}
use Rattle.mode_core.specs.declared.pending.Pending.{Pending}
use Rattle.mode_core.specs.Entries.{entry, job_of}
use Rattle.mode_core.specs.Slots.{Slots, job_at, ticks_at, as_pending, waiting, ChangesOnly, IsLeft, is_left, one_more}
use Rattle.mode_core.specs.Representation.{IsTally}
use Rattle.mode_core.proofs.Options.{mapped, map-cond, same-cond}
use Rattle.mode_core.proofs.ByTask.{job_of-task, job_of-none, job_of-one, left, job_of-filter, IsThere, pending_there}
use Rattle.mode_core.proofs.Fits.{each_ok}
use Rattle.mode_core.proofs.Pendings.{pending-kept, pending-dropped, pending-idle, unused}

-- the clock, the mode and the slots agree with the rows after a release that is dropped
pub tally_dropped : (set : List Task) (rule : Rule) (h : List Row) (t : ℕ) (m : Bool) (slots : ℕ → Option Pending) (j : JobId) → Legal set rule (Release j false ∷ h) → IsTally set rule h t m slots → IsTally set rule (Release j false ∷ h) t m slots
tally_dropped set rule h t m slots j l y = record {
  legal = l;
  clock_is = y.clock_is;
  mode_is = y.mode_is;
  slots_are = λ k i. y.slots_are k i ∙ ap (λ xs. option_map (entry h) (job_of k xs)) (sym (pending-dropped set rule j h l));
}

-- the ticks of a pending job are those that are counted in its slot
pending_ticks : (s : Slots) (k : ℕ) (p : Pending) → waiting s k ≡ Some p → p.used ≡ ticks_at s k
pending_ticks s k p e = let m = mapped (as_pending k (ticks_at s k)) (job_at s.jobs k) p e in ap (λ (z : Pending). z.used) (sym m.2)

-- a release that is allowed finds its task's slot free
pub slot_free : (set : List Task) (rule : Rule) (h : List Row) (t : ℕ) (m : Bool) (slots : ℕ → Option Pending) (j : JobId) (kept : Bool) → AllByRecursion IsTask set → Holds set rule → Legal set rule (Release j kept ∷ h) → IsTally set rule h t m slots → slots j.task.0 ≡ None
slot_free set rule h t m slots j kept s holds l y =
    let soon = (release_fits set rule j kept h l.1).soon in
    y.slots_are j.task.0 l.0 ∙ ap (option_map (entry h)) (job_of-none j.task.0 (pending set h) (none_at_release set rule h s holds l.2 j.task.0 soon))

-- the clock, the mode and the slots agree with the rows after a kept release, once its job is in its task's slot
pub began :
    (s new : Slots) (h : List Row) (t : ℕ) (j : JobId) → Legal s.set s.rule (Release j true ∷ h) → ChangesOnly s new j.task.0 (Some (record { job = j; release = t; used = 0 })) →
    IsTally s.set s.rule h t s.high (waiting s) → IsTally s.set s.rule (Release j true ∷ h) t new.high (waiting new)
began s new h t j l c y = record {
  legal = l;
  clock_is = y.clock_is;
  mode_is = c.same_mode ∙ y.mode_is;
  slots_are = λ k i. at k i ∙ ap (λ xs. option_map (entry h) (job_of k xs)) (sym (pending-kept s.set s.rule j h l));
}
  where
    x : KeptRelease
    x = record { job = j; release = ticks h }

    same : record { job = j; release = t; used = 0 } ≡ entry h x
    same = ap₂ {C = Pending} (λ (r u : ℕ). record { job = j; release = r; used = u }) y.clock_is (sym (unused s.set s.rule j true h l))

    at : (k : ℕ) → IsIn s.set k → waiting new k ≡ option_map (entry h) (cond (j.task.0 == k) (Some x) (job_of k (pending s.set h)))
    at k i = elim (cases_eq j.task.0 k) [
      | inl e ↦ rw (eq-eqb _ _ e) (subst (λ (n : ℕ). waiting new n ≡ Some (entry h x)) e (c.this_task ∙ ap (λ (p : Pending). Some p) same))
      | inr d ↦ rw (ne_eqb _ _ d) (c.other_tasks k i (λ q. d (sym q)) ∙ y.slots_are k i)
    ]

-- nothing is pending before an idle tick
pub quiet : (set : List Task) (rule : Rule) (h : List Row) (t : ℕ) (m : Bool) (slots : ℕ → Option Pending) → Legal set rule (Idle ∷ h) → IsTally set rule h t m slots → (k : ℕ) → IsIn set k → slots k ≡ None
quiet set rule h t m slots l y k i =
    let none : pending set h ≡ [] = (bridge set rule h l.2).same ∙ idle_fits set rule h (bridge set rule (Idle ∷ h) l).legal.1 in
    y.slots_are k i ∙ ap (λ xs. option_map (entry h) (job_of k xs)) none

-- the clock, the mode and the slots agree with the rows after an idle tick
pub tally_idle : (set : List Task) (rule : Rule) (h : List Row) (t : ℕ) (m : Bool) (slots : ℕ → Option Pending) → Legal set rule (Idle ∷ h) → IsTally set rule h t m slots → IsTally set rule (Idle ∷ h) (t + 1) false slots
tally_idle set rule h t m slots l y = record {
  legal = l;
  clock_is = ap (λ n. n + 1) y.clock_is;
  mode_is = refl;
  slots_are = λ k i. y.slots_are k i ∙ ap (λ xs. option_map (entry h) (job_of k xs)) (sym (pending-idle set rule h l));
}

-- the pending job that ticks
pub record Ticks (set : List Task) (h : List Row) (j : JobId) : Type 0 where
  pub kept : KeptRelease
  pub there : job_of j.task.0 (pending set h) ≡ Some kept
  pub inside : is_in (pending set h) kept ≡ true
  pub job : kept.job ≡ j

-- the pending job that ticks is its task's only one
pub ticking_job : (set : List Task) (rule : Rule) (h : List Row) (j : JobId) (how : How) → AllByRecursion IsTask set → Holds set rule → Legal set rule (Tick j how ∷ h) → Ticks set h j
ticking_job set rule h j how s holds l =
    let waits : is_pending (pending set h) j ≡ true = subst (λ xs. is_pending xs j ≡ true) (sym (bridge set rule h l.2).same) (tick_fits set rule j how h (bridge set rule (Tick j how ∷ h) l).legal.1).live in
    let is : IsThere (pending set h) j = pending_there (pending set h) j waits in
    let found : job_of is.kept.job.task.0 (pending set h) ≡ Some is.kept = job_of-one is.kept (pending set h) is.inside (at_most_one set rule h s holds l.2 is.kept.job.task.0) in
    record { kept = is.kept; there = subst (λ (i : JobId). job_of i.task.0 (pending set h) ≡ Some is.kept) is.job found; inside = is.inside; job = is.job }

-- the pending job that ticks has a tick of its budget left
pub ticking_own : (set : List Task) (rule : Rule) (h : List Row) (j : JobId) (how : How) → AllByRecursion IsTask set → Holds set rule → Legal set rule (Tick j how ∷ h) → used h j + 1 ≤ own_in (task_at set j.task.0)
ticking_own set rule h j how s holds l =
    let t : Ticks set h j = ticking_job set rule h j how s holds l in
    let ok : IsLiveOk set rule h t.kept = each_in (IsLiveOk set rule h) t.kept (pending set h) t.inside (each_ok set rule h s l.2) in
    subst (λ (i : JobId). used h i + 1 ≤ own_in (task_at set i.task.0)) t.job ok.own

-- the slots have counted the ticks of the pending job that ticks
pub ticking_line : (s : Slots) (h : List Row) (t : ℕ) (m : Bool) (j : JobId) (how : How) → AllByRecursion IsTask s.set → Holds s.set s.rule → Legal s.set s.rule (Tick j how ∷ h) → IsTally s.set s.rule h t m (waiting s) → used h j ≡ ticks_at s j.task.0
ticking_line s h t m j how tasks holds l y =
    let k : Ticks s.set h j = ticking_job s.set s.rule h j how tasks holds l in
    ap (used h) (sym k.job) ∙ pending_ticks s j.task.0 (entry h k.kept) (y.slots_are j.task.0 l.0 ∙ ap (option_map (entry h)) k.there)

-- the job of task number k is the job that ticks exactly if k is the task of the job that ticks
pub is_it : (set : List Task) (h : List Row) (j : JobId) (k : ℕ) (x : KeptRelease) → Ticks set h j → job_of k (pending set h) ≡ Some x → same_job j x.job ≡ (j.task.0 == k)
is_it set h j k x t e = elim (cases_eq j.task.0 k) [
  | inl m ↦ let a : t.kept ≡ x = same_Some t.kept x (sym t.there ∙ (ap (λ n. job_of n (pending set h)) m ∙ e)) in
      rw (eq-eqb _ _ m) (subst (λ (i : JobId). same_job j i ≡ true) (cc (a, t.job)) (same_job-refl j))
  | inr m ↦
      let n : (j.task.0 == x.job.task.0) ≡ false = subst (λ n. (j.task.0 == n) ≡ false) (sym (job_of-task k (pending set h) x e)) (ne_eqb _ _ m) in
      rw (n, ne_eqb _ _ m) refl
]

-- a tick that fits is an overrun only under EDF-VD
virtual_over : (set : List Task) (rule : Rule) (h : List Row) (j : JobId) (how : How) → Hows set rule h j how → (is_virtual rule && is_over how) ≡ is_over how
virtual_over set rule h j More (more a f) = and-false (is_virtual rule)
virtual_over set rule h j Done (done a) = and-false (is_virtual rule)
virtual_over set rule h j Stop (stop a) = and-false (is_virtual rule)
virtual_over set rule h j Over (over v m y e a) = rw v refl

-- a tick leaves a task's job pending exactly if it leaves the task's slot as it is
stays_left : (set : List Task) (h : List Row) (j : JobId) (how : How) (k : ℕ) (x : KeptRelease) → Ticks set h j → job_of k (pending set h) ≡ Some x → stays set j how x ≡ is_left set j.task.0 how k
stays_left set h j how k x t e =
    ap₂ (λ (b : Bool) (n : ℕ). not (is_end how && b) && (not (is_over how) || is_high_in (task_at set n))) (is_it set h j k x t e) (job_of-task k (pending set h) x e)

-- a tick adds one tick to the entry of its job, and none to other entries
one_more_tick : (h : List Row) (j : JobId) (how : How) (x : KeptRelease) (b : Bool) → same_job j x.job ≡ b → cond b (one_more (entry h x)) (entry h x) ≡ entry (Tick j how ∷ h) x
one_more_tick h j how x true m = rw m (ap (λ (u : ℕ). record { job = x.job; release = x.release; used = u }) (omega arith))
one_more_tick h j how x false m = rw m (ap (λ (u : ℕ). record { job = x.job; release = x.release; used = u }) (omega arith))

-- the slots after a tick, where its job's slot had one more and was then left or cleared
pub ticked :
    (s mid new : Slots) (h : List Row) (t : ℕ) (j : JobId) (how : How) → AllByRecursion IsTask s.set → Holds s.set s.rule → Legal s.set s.rule (Tick j how ∷ h) →
    ChangesOnly s mid j.task.0 (option_map one_more (waiting s j.task.0)) → IsLeft mid new j.task.0 how →
    IsTally s.set s.rule h t s.high (waiting s) → IsTally s.set s.rule (Tick j how ∷ h) (t + 1) new.high (waiting new)
ticked s mid new h t j how tasks holds l c leaves y = record {
  legal = l;
  clock_is = ap (λ n. n + 1) y.clock_is;
  mode_is = leaves.mode ∙ ap₂ (λ (a b : Bool). a || b) (sym (virtual_over s.set s.rule h j how (hows s.set s.rule h j how fits.how_so))) (c.same_mode ∙ y.mode_is);
  slots_are = λ k i. (rw c.same_set at (leaves.each_task k)) i ∙ (at k i (job_of k (pending s.set h)) refl ∙ ap (option_map (entry (Tick j how ∷ h))) (sym (found k)));
}
  where
    fits : TickFits s.set s.rule j how h
    fits = tick_fits s.set s.rule j how h (bridge s.set s.rule (Tick j how ∷ h) l).legal.1

    it : Ticks s.set h j
    it = ticking_job s.set s.rule h j how tasks holds l

    found : (k : ℕ) → job_of k (pending s.set (Tick j how ∷ h)) ≡ left (stays s.set j how) (job_of k (pending s.set h))
    found k = ap (job_of k) (pending-tick s.set s.rule j how h l) ∙ job_of-filter k (stays s.set j how) (pending s.set h) (at_most_one s.set s.rule h tasks holds l.2 k)

    counted : (k : ℕ) → IsIn s.set k → (x : KeptRelease) → job_of k (pending s.set h) ≡ Some x → waiting mid k ≡ Some (entry (Tick j how ∷ h) x)
    counted k i x e =
        let before = y.slots_are k i ∙ ap (option_map (entry h)) e in
        let it_is = is_it s.set h j k x it e in
        elim (cases_eq j.task.0 k) [
          | inl d ↦
              subst (λ (q : ℕ). waiting mid q ≡ option_map one_more (waiting s q)) d c.this_task
              ∙ (ap (option_map one_more) before ∙ ap (λ (p : Pending). Some p) (one_more_tick h j how x true (it_is ∙ eq-eqb _ _ d)))
          | inr d ↦ c.other_tasks k i (λ q. d (sym q)) ∙ (before ∙ ap (λ (p : Pending). Some p) (one_more_tick h j how x false (it_is ∙ ne_eqb _ _ d)))
        ]

    free : (k : ℕ) → IsIn s.set k → job_of k (pending s.set h) ≡ None → waiting mid k ≡ None
    free k i e =
        let before = y.slots_are k i ∙ ap (option_map (entry h)) e in
        elim (cases_eq j.task.0 k) [
          | inl d ↦ subst (λ (q : ℕ). waiting mid q ≡ option_map one_more (waiting s q)) d c.this_task ∙ ap (option_map one_more) before
          | inr d ↦ c.other_tasks k i (λ q. d (sym q)) ∙ before
        ]

    at : (k : ℕ) → IsIn s.set k → (o : Option KeptRelease) → job_of k (pending s.set h) ≡ o →
        cond (is_left s.set j.task.0 how k) (waiting mid k) None ≡ option_map (entry (Tick j how ∷ h)) (left (stays s.set j how) o)
    at k i None e = rw (free k i e) (same-cond (is_left s.set j.task.0 how k) None)
    at k i (Some x) e = rw (counted k i x e, ← stays_left s.set h j how k x it e) (sym (map-cond (entry (Tick j how ∷ h)) (stays s.set j how x) (Some x)))
