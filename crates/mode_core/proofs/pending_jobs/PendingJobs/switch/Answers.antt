use Rattle.std.proofs.Common.{◌≡◌, ℕ, ◌≤◌, true, List, Option, None, cond, map, filter, length, sym, subst, ap, ◌∙◌, arith}
use Rattle.std.specs.Vec.{with_items}
use Rattle.std.proofs.lemmas.List.{with_items_is}
use Rattle.mc_task.specs.TaskSet.{task_at}
use Rattle.mc_model.specs.TaskNumbers.{is_high_in}
use Rattle.ready_queue.specs.Items.{Queue, by_real}
use Rattle.ready_queue.proofs.CallerLemmas.{one_per_task}
use Rattle.mode_core.specs.declared.pending_jobs.ReleasedJob.{ReleasedJob}
use Rattle.mode_core.specs.declared.pending_jobs.PendingJobs.TheInside.{Inside}
use Rattle.mode_core.specs.Slots.{Slots, job_at, number_at, if_low, GoesHigh, NotesDiscarded}
use Rattle.mode_core.specs.Representation.{slots_of, AreQueued}
use Rattle.mode_core.proofs.Queued.{queued_high}
use Rattle.mode_core.proofs.Changes.{switched, noted_jobs}
use Rattle.mode_core.proofs.pending_jobs.PendingJobs.switch.Goals as goal

-- the slots of low tasks are cleared
abbrev Cleared : Inside → List (Option ReleasedJob) → List (Option ReleasedJob) → Type 0
Cleared a old new = (k : ℕ) → 1 ≤ k → job_at new k ≡ cond (is_high_in (task_at a.set.tasks k)) (job_at old k) None

-- the jobs of low tasks are noted
abbrev Noted : Inside → List (Option ReleasedJob) → List (Option ℕ) → Type 0
Noted a jobs numbers = (k : ℕ) → 1 ≤ k → number_at numbers k ≡ if_low a.set.tasks k (job_at jobs k)

pub note_discarded-requires : goal.note_discarded-requires
note_discarded-requires c = record {
  few = omega (arith, ap length c.deref.ensures.value, c.self.invariant.slots, c.self.invariant.tasks.few);
  each = omega (arith, ap length c.deref_mut.ensures.value, ap length c.deref.ensures.value, c.self.invariant.slots, c.self.invariant.discards);
}

pub invariant_of-self : goal.invariant_of-self
invariant_of-self c =
    let a = c.self.inside in
    let items = with_items_is a.jobs c.clear_low.new.jobs (omega (arith, c.clear_low.auto.jobs, c.deref_mut-2.ensures.len)) in
    let numbers = with_items_is a.discarded c.note_discarded.new.numbers (omega (arith, c.note_discarded.auto.numbers, c.deref_mut.ensures.len)) in
    let low : Cleared a a.jobs.items c.clear_low.new.jobs = subst (λ (js : List (Option ReleasedJob)). Cleared a js c.clear_low.new.jobs) c.deref_mut-2.ensures.value c.clear_low.ensures in
    let queued : AreQueued a.set.tasks a.rule true c.clear_low.new.jobs (map by_real (filter (λ i. i.high) a.queue.items)) =
    queued_high a.set.tasks a.rule a.high a.jobs.items c.clear_low.new.jobs a.queue.items (one_per_task a.queue.places a.queue.items c.least-first.ensures.items) c.self.invariant.queued low in
    record {
      tasks = c.self.invariant.tasks;
      fits = c.self.invariant.fits;
      slots = ap length items ∙ (c.clear_low.auto.jobs ∙ (ap length c.deref_mut-2.ensures.value ∙ c.self.invariant.slots));
      lines = c.self.invariant.lines;
      budgets = c.self.invariant.budgets;
      discards = ap length numbers ∙ (c.note_discarded.auto.numbers ∙ (ap length c.deref_mut.ensures.value ∙ c.self.invariant.discards));
      places = ap (λ (q : Queue). q.places) c.rekey_high.ensures ∙ c.self.invariant.places;
      queued = subst (λ (js : List (Option ReleasedJob)). AreQueued a.set.tasks a.rule true js c.rekey_high.new.self.items) (sym items) (subst (λ (q : Queue). AreQueued a.set.tasks a.rule true c.clear_low.new.jobs q.items) (sym c.rekey_high.ensures) queued);
    }

-- the slots after the change, with these jobs and these numbers
abbrev changed : Inside → List (Option ReleasedJob) → List (Option ℕ) → Slots
changed a jobs numbers = record (slots_of a) { high = true; jobs = jobs; discarded = numbers }

pub returns-clause-slots : goal.returns-clause-slots
returns-clause-slots c =
    let a = c.self.inside in
    let numbers = (with_items a.discarded c.note_discarded.new.numbers).items in
    let items = with_items_is a.jobs c.clear_low.new.jobs (omega (arith, c.clear_low.auto.jobs, c.deref_mut-2.ensures.len)) in
    let low : Cleared a a.jobs.items c.clear_low.new.jobs = subst (λ (js : List (Option ReleasedJob)). Cleared a js c.clear_low.new.jobs) c.deref_mut-2.ensures.value c.clear_low.ensures in
    subst (λ (s : Slots). GoesHigh s (changed a (with_items a.jobs c.clear_low.new.jobs).items numbers)) c.self.view_is
    (subst (λ (js : List (Option ReleasedJob)). GoesHigh (slots_of a) (changed a js numbers)) (sym items) (switched (slots_of a) c.clear_low.new.jobs numbers low))

pub returns-clause-discarded : goal.returns-clause-discarded
returns-clause-discarded c =
    let a = c.self.inside in
    let jobs = (with_items a.jobs c.clear_low.new.jobs).items in
    let numbers = with_items_is a.discarded c.note_discarded.new.numbers (omega (arith, c.note_discarded.auto.numbers, c.deref_mut.ensures.len)) in
    let noted : Noted a a.jobs.items c.note_discarded.new.numbers = subst (λ (js : List (Option ReleasedJob)). Noted a js c.note_discarded.new.numbers) c.deref.ensures.value c.note_discarded.ensures in
    subst (λ (s : Slots). NotesDiscarded s (changed a jobs (with_items a.discarded c.note_discarded.new.numbers).items) true) c.self.view_is
    (subst (λ (ns : List (Option ℕ)). NotesDiscarded (slots_of a) (changed a jobs ns) true) (sym numbers) (noted_jobs (slots_of a) c.note_discarded.new.numbers jobs noted))
