-- The queue has the pending jobs after one task's slot changed, and after the change to high mode.
use Rattle.std.proofs.Common.{◌≡◌, ℕ, ◌-◌, ◌≤◌, Bool, true, ◌==◌, cond, List, Option, Some, None, option_map, map, filter, length, refl, sym, ap, subst, ◌∙◌, arith, eq-eqb, ne_eqb, inl, inr}
use Rattle.std.specs.Prelude.{slice_set}
use Rattle.std.proofs.lemmas.Bool.{cases_eq}
use Rattle.std.proofs.lemmas.List.{get_or-set_same, get_or-set_other}
use Rattle.mc_task.specs.declared.task.Task.{Task}
use Rattle.mc_task.specs.declared.task.Rule.{Rule}
use Rattle.mc_task.specs.TaskSet.{IsIn, task_at}
use Rattle.mc_model.specs.TaskNumbers.{is_high_in}
use Rattle.ready_queue.specs.declared.item.Item.{Item}
use Rattle.ready_queue.specs.Items.{item_of, with_item, without, by_real}
use Rattle.ready_queue.specs.Tree.{rekeyed}
use Rattle.ready_queue.proofs.CallerLemmas.{OnePerTask, item_of-with_item, item_of-without, item_of-rekeyed}
use Rattle.mode_core.specs.declared.pending_jobs.ReleasedJob.{ReleasedJob}
use Rattle.mode_core.specs.Entries.{item}
use Rattle.mode_core.specs.Slots.{job_at}
use Rattle.mode_core.specs.Representation.{AreQueued}
use Rattle.mode_core.proofs.Options.{map-cond, same-cond}

-- the item of task number k for what stands in its slot
abbrev item_for : List Task → Rule → Bool → ℕ → Option ReleasedJob → Option Item
item_for ts rule high k o = option_map (λ (x : ReleasedJob). item ts rule high k x.release) o

-- the queue has the pending jobs after a task's slot is written and the task's item changed to match
queued_set :
    (ts : List Task) (rule : Rule) (high : Bool) (jobs : List (Option ReleasedJob)) (items after : List Item) (k : ℕ) (o : Option ReleasedJob) →
    AreQueued ts rule high jobs items → IsIn ts k → k ≤ length jobs →
    ((i : ℕ) → item_of after i ≡ cond (k == i) (item_for ts rule high k o) (item_of items i)) → AreQueued ts rule high (slice_set jobs (k - 1) o) after
queued_set ts rule high jobs items after k o queued inside room found i there = elim (cases_eq k i) [
  | inl e ↦
      let here = get_or-set_same jobs (k - 1) o None (omega (arith, inside.0, room)) in
      let at_k = ap (item_for ts rule high k) (sym here) in
      let same = subst (λ (n : ℕ). item_for ts rule high k o ≡ item_for ts rule high n (job_at (slice_set jobs (k - 1) o) n)) e at_k in
      found i ∙ rw (eq-eqb _ _ e) same
  | inr d ↦
      let other = get_or-set_other jobs (k - 1) (i - 1) o None (omega (arith, inside.0, there.0, d)) in
      found i ∙ rw (ne_eqb _ _ d) (queued i there ∙ ap (item_for ts rule high i) (sym other))
]

-- the queue has the pending jobs after a job begins
pub queued_begin :
    (ts : List Task) (rule : Rule) (high : Bool) (jobs : List (Option ReleasedJob)) (items : List Item) (k : ℕ) (j : ReleasedJob) → AreQueued ts rule high jobs items →
    IsIn ts k → k ≤ length jobs → job_at jobs k ≡ None → AreQueued ts rule high (slice_set jobs (k - 1) (Some j)) (with_item (item ts rule high k j.release) items)
queued_begin ts rule high jobs items k j queued inside room free =
    let none : item_of items k ≡ None = queued k inside ∙ ap (item_for ts rule high k) free in
    queued_set ts rule high jobs items _ k (Some j) queued inside room (λ i. item_of-with_item (item ts rule high k j.release) items i none)

-- the queue has the pending jobs after a job ends
pub queued_end :
    (ts : List Task) (rule : Rule) (high : Bool) (jobs : List (Option ReleasedJob)) (items : List Item) (k : ℕ) → AreQueued ts rule high jobs items →
    IsIn ts k → k ≤ length jobs → AreQueued ts rule high (slice_set jobs (k - 1) None) (without k items)
queued_end ts rule high jobs items k queued inside room = queued_set ts rule high jobs items _ k None queued inside room (item_of-without k items)

-- the queue has the pending jobs after the mode becomes high
pub queued_high :
    (ts : List Task) (rule : Rule) (high : Bool) (jobs after : List (Option ReleasedJob)) (items : List Item) → OnePerTask items → AreQueued ts rule high jobs items →
    ((k : ℕ) → 1 ≤ k → job_at after k ≡ cond (is_high_in (task_at ts k)) (job_at jobs k) None) →
    AreQueued ts rule true after (map by_real (filter (λ i. i.high) items))
queued_high ts rule high jobs after items one queued cleared k inside =
    let is_high : Bool = is_high_in (task_at ts k) in
    item_of-rekeyed items k one
    ∙ rw (queued k inside, cleared k inside.0, map-cond (λ (x : ReleasedJob). item ts rule true k x.release) is_high (job_at jobs k))
    (elim (job_at jobs k) as (λ o. rekeyed (item_for ts rule high k o) ≡ cond is_high (item_for ts rule true k o) None)
    [ None ↦ sym (same-cond is_high None) | Some j ↦ refl ])
