-- The queue's first item is that of the pending job that runs first.
use Rattle.std.proofs.Common.{◌≡◌, ℕ, ◌-◌, ◌<◌, ◌≤◌, false, List, [], ◌∷◌, Option, Some, None, option_map, length, get_or, sym, ap, subst, ◌∙◌, arith, eq-eqb, ne_eqb, inl, inr}
use Rattle.std.specs.List.{AllByRecursion}
use Rattle.std.proofs.lemmas.Bool.{cases_eq}
use Rattle.std.proofs.lemmas.Option.{same_Some, none-some}
use Rattle.std.proofs.lemmas.List.{get_or_read}
use Rattle.mc_task.specs.declared.task.TaskNo.{TaskNo}
use Rattle.mc_task.specs.TaskSet.{IsIn}
use Rattle.mc_model.specs.Core.{runs_before}
use Rattle.ready_queue.specs.declared.item.Item.{Item}
use Rattle.ready_queue.specs.Items.{before, least, item_of, AreItems, AreItemsFrom}
use Rattle.ready_queue.proofs.CallerLemmas.{one_per_task, least_item, least_others}
use Rattle.mode_core.specs.declared.pending.Pending.{Pending}
use Rattle.mode_core.specs.declared.pending_jobs.ReleasedJob.{ReleasedJob}
use Rattle.mode_core.specs.Entries.{item, kept_release_of}
use Rattle.mode_core.specs.Slots.{Slots, job_at, ticks_at, as_pending, RunsFirst}
use Rattle.mode_core.specs.Representation.{AreQueued}
use Rattle.mode_core.proofs.Options.{mapped}

-- a property of all items is one of each task's item
item_has : (P : Item → Type 0) (items : List Item) (k : ℕ) (x : Item) → AllByRecursion P items → item_of items k ≡ Some x → P x
item_has P [] k x all e = cc
item_has P (i ∷ items) k x all e = elim (cases_eq i.task.0 k) [
  | inl m ↦ subst P (same_Some i x (rw (eq-eqb _ _ m) at e)) all.0
  | inr n ↦ item_has P items k x all.1 (rw (ne_eqb _ _ n) at e)
]

-- the task of an item has a number within the queue's capacity
in_place : (above places : ℕ) (items : List Item) (k : ℕ) (x : Item) → AreItemsFrom above places items → item_of items k ≡ Some x → (above < k) × (k ≤ places)
in_place above places [] k x rise e = cc
in_place above places (i ∷ items) k x rise e = elim (cases_eq i.task.0 k) [
  | inl m ↦ (omega (arith, rise.0), omega (arith, rise.1))
  | inr n ↦ let r = in_place i.task.0 places items k x rise.2 (rw (ne_eqb _ _ n) at e) in (omega (arith, rise.0, r.0), r.1)
]

-- the pending job of an item
pub record OfItem (s : Slots) (k : ℕ) (x : Item) : Type 0 where
  pub inside : IsIn s.set k
  pub job : ReleasedJob
  pub there : job_at s.jobs k ≡ Some job
  pub made : x ≡ item s.set s.rule s.high k job.release

-- the first item has a pending job
pub of_first :
    (s : Slots) (places : ℕ) (items : List Item) (x : Item) → places ≡ length s.set → AreItems places items → AreQueued s.set s.rule s.high s.jobs items →
    least items ≡ Some x → OfItem s x.task.0 x
of_first s places items x room rise queued e =
    let found : item_of items x.task.0 ≡ Some x = least_item items x (one_per_task places items rise) e in
    let p = in_place 0 places items x.task.0 x rise found in
    let inside : IsIn s.set x.task.0 = (omega (arith, p.0), omega (arith, room, p.1)) in
    let m = mapped (λ (j : ReleasedJob). item s.set s.rule s.high x.task.0 j.release) (job_at s.jobs x.task.0) x (sym (queued x.task.0 inside) ∙ found) in
    record { inside = inside; job = m.0; there = m.1; made = sym m.2 }

-- the first item of the queue, which is of task number k, and its pending job
pub record FirstOf (s : Slots) (items : List Item) (k : ℕ) : Type 0 where
  pub item : Item
  pub least_one : least items ≡ Some item
  pub of_item : OfItem s k item

-- the task that the queue names is the task of its first item
pub first_of :
    (s : Slots) (places : ℕ) (items : List Item) (o : Option TaskNo) (t : TaskNo) → places ≡ length s.set → AreItems places items → AreQueued s.set s.rule s.high s.jobs items →
    o ≡ option_map (λ (i : Item). i.task) (least items) → o ≡ Some t → FirstOf s items t.0
first_of s places items o t room rise queued named is =
    let m = mapped (λ (i : Item). i.task) (least items) t (sym named ∙ is) in
    record { item = m.0; least_one = m.1; of_item = subst (λ (n : TaskNo). OfItem s n.0 m.0) m.2 (of_first s places items m.0 room rise queued m.1) }

-- the pending job of the queue's first item runs first
pub first_runs :
    (s : Slots) (items : List Item) (k : ℕ) (x : Item) → AreQueued s.set s.rule s.high s.jobs items → least items ≡ Some x → (o : OfItem s k x) →
    RunsFirst s (as_pending k (ticks_at s k) o.job)
first_runs s items k x queued e o = record {
  inside = o.inside;
  there = ap (option_map (as_pending k (ticks_at s k))) o.there;
  others = λ i q inside w.
      let h = mapped (as_pending i (ticks_at s i)) (job_at s.jobs i) q w in
      let other : Item = item s.set s.rule s.high i h.0.release in
      let there : item_of items i ≡ Some other = queued i inside ∙ ap (option_map (λ (j : ReleasedJob). item s.set s.rule s.high i j.release)) h.1 in
      let after : before other x ≡ false = item_has (λ (j : Item). before j x ≡ false) items i other (least_others items x e) there in
      subst (λ (p : Pending). runs_before s.set s.rule s.high (kept_release_of p) (kept_release_of (as_pending k (ticks_at s k) o.job)) ≡ false) h.2
      (subst (λ (y : Item). before other y ≡ false) o.made after);
}

-- what is read at the index of task number k is what stands in the task's slot
pub read_job : (s : Slots) (k : ℕ) (x : Item) (o : Option ReleasedJob) → length s.jobs ≡ length s.set → OfItem s k x → o ≡ get_or s.jobs (k - 1) o → o ≡ job_at s.jobs k
read_job s k x o rooms i e = let first = i.inside.0 in let last = i.inside.1 in get_or_read s.jobs (k - 1) o (omega (arith, first, last, rooms)) e None

-- the job that was read in the task's slot is the one that runs first
pub read_runs :
    (s : Slots) (items : List Item) (k n : ℕ) (j : ReleasedJob) → AreQueued s.set s.rule s.high s.jobs items → (f : FirstOf s items k) → Some j ≡ job_at s.jobs k → n ≡ ticks_at s k → RunsFirst s (as_pending k n j)
read_runs s items k n j queued f e t =
    let same : f.of_item.job ≡ j = same_Some f.of_item.job j (sym f.of_item.there ∙ sym e) in
    subst (λ (m : ℕ). RunsFirst s (as_pending k m j)) (sym t) (subst (λ (i : ReleasedJob). RunsFirst s (as_pending k (ticks_at s k) i)) same (first_runs s items k f.item queued f.least_one f.of_item))

-- the slot of the first item's task is not free
pub not_free : (s : Slots) (items : List Item) (k : ℕ) → FirstOf s items k → None ≡ job_at s.jobs k → ⊥
not_free s items k f e = none-some f.of_item.job (e ∙ f.of_item.there)
