use Rattle.std.proofs.Common.{[], ◌∷◌, ◌==◌, false, ◌≡◌, ◌≢◌, ℕ, ◌+◌, ◌-◌, ◌<◌, ◌≤◌, true, nat_le, List, Some, length, get_or, sym, ap, subst, ◌∙◌, eqb-true, arith}
use Rattle.std.specs.Prelude.{find, All, Contains}
use Rattle.std.specs.List.{list_any, list_all}
use Rattle.std.proofs.lemmas.Bool.Decides.{nat_tests}
use Rattle.mc_task.specs.declared.task.JobId.{JobId}
use Rattle.trace_judge.specs.declared.queue.Queued.{Queued}
use Rattle.trace_judge.specs.declared.pending_queues.Pending.{Pending}
use Rattle.trace_judge.specs.declared.pending_queues.Standing.TheVariants.{NotPending, NotLeast, Least}
use Rattle.trace_judge.specs.Heads.{no_key}
use Rattle.trace_judge.specs.Entries.{Entry, PendingEntries, is_of, Stands}
use Rattle.trace_judge.specs.Queues.{IsQueue, AreQueues, has_count, entries_from}
use Rattle.trace_judge.proofs.Firsts.{found_is, found_passes}
use Rattle.trace_judge.proofs.Ordered.{each_at}
use Rattle.trace_judge.proofs.Queues.{place_inside, found_own, none_own, below_all, head_entry, found_key}
use Rattle.trace_judge.proofs.pending_queues.PendingQueues.standing_of.Goals as goal

-- a key that some entry is below is not below all
some_below : (least key : ℕ) (es : List Entry) → least < key → list_any (λ (o : Entry). o.0.key == least) es ≡ true → list_all (λ (o : Entry). nat_le key o.0.key) es ≡ false
some_below least key [] h s = cc
some_below least key (e ∷ es) h s = grind (arith, nat_tests, some_below least key es)

-- an entry from its parts
abbrev an_entry : ℕ → ℕ → ℕ → Pending → Entry
an_entry k t c p = (record { key = k; job = record { task = record { 0 = t }; count = c } }, p)

-- the queues and the keys of their heads, the queue of the job's task, and the least key
record IsLooked (qs : List (List Queued)) (heads : List ℕ) (j : JobId) (queue : List Queued) (least : ℕ) : Type 0 where
  pub queues : AreQueues qs heads
  pub number : j.task.0 ≡ 1 + (j.task.0 - 1)
  pub inside : j.task.0 - 1 < length qs
  pub at : queue ≡ get_or qs (j.task.0 - 1) queue
  pub below : All (λ key. least ≤ key) heads
  pub there : Contains heads least

-- the entry of a job that is found
found_entry : (qs : List (List Queued)) (heads : List ℕ) (j : JobId) (queue : List Queued) (least : ℕ) (q : Queued) → IsLooked qs heads j queue least →
    find (has_count j.count) queue ≡ Some q →
    find (is_of j) (entries_from 1 qs) ≡ Some (record { key = q.key; job = j }, q.pending)
found_entry qs heads j queue least q l h =
    let count : q.count ≡ j.count = sym (eqb-true j.count q.count (found_is (has_count j.count) q queue h)) in
    found_own j qs (j.task.0 - 1) queue q l.number l.inside (ap (find (has_count j.count)) (sym l.at) ∙ h)
    ∙ ap (λ (n : ℕ). Some (an_entry q.key j.task.0 n q.pending)) count

-- no entry is below the least key
all_above : (qs : List (List Queued)) (heads : List ℕ) (j : JobId) (queue : List Queued) (least : ℕ) → IsLooked qs heads j queue least →
    list_all (λ (o : Entry). nat_le least o.0.key) (entries_from 1 qs) ≡ true
all_above qs heads j queue least l = below_all least 1 qs l.queues.each (subst (λ (ks : List ℕ). All (λ (key : ℕ). least ≤ key) ks) l.queues.heads_are l.below)

-- if the job is found at the least key, no entry has a lesser key than the job's
stands_first : (qs : List (List Queued)) (heads : List ℕ) (j : JobId) (queue : List Queued) (least : ℕ) (q : Queued) → IsLooked qs heads j queue least →
    find (has_count j.count) queue ≡ Some q →
    q.key ≡ least → Stands (entries_from 1 qs) j (Least q.pending)
stands_first qs heads j queue least q l h e = (q.key, found_entry qs heads j queue least q l h, rw e (all_above qs heads j queue least l))

-- if the job is found at another key than the least one, some entry has a lesser key than the job's
stands_after : (qs : List (List Queued)) (heads : List ℕ) (j : JobId) (queue : List Queued) (least : ℕ) (q : Queued) → IsLooked qs heads j queue least →
    find (has_count j.count) queue ≡ Some q →
    q.key ≢ least → Stands (entries_from 1 qs) j NotLeast
stands_after qs heads j queue least q l h ne =
    let f = found_entry qs heads j queue least q l h in
    let e : Entry = (record { key = q.key; job = j }, q.pending) in
    let low : nat_le least q.key ≡ true = found_passes (λ (o : Entry). nat_le least o.0.key) (is_of j) e (entries_from 1 qs) (all_above qs heads j queue least l) f in
    let less : least < q.key = grind (arith, nat_tests) in
    let key : q.key < no_key = found_key (has_count j.count) q queue (subst IsQueue (sym l.at) (each_at IsQueue qs (j.task.0 - 1) queue l.inside l.queues.each)) h in
    let there = head_entry least qs (λ m. omega (arith, less, key, m)) (subst (λ (ks : List ℕ). Contains ks least) l.queues.heads_are l.there) in
    (e, f, some_below least q.key (entries_from 1 qs) less there)

pub returns-in-None : goal.returns-in-None
returns-in-None c =
    let inside = place_inside c.args.self.now c.self.inside.queues.items c.args.job.task.0 c.self.view_is c.requires in
    subst (λ (h : PendingEntries). Stands h.entries c.args.job NotPending) c.self.view_is
    (none_own c.args.job c.self.inside.queues.items (c.args.job.task.0 - 1) c.index.result.now (omega (arith, c.requires.0)) inside
    (ap (find (has_count c.args.job.count)) (sym c.index.ensures) ∙ (sym c.find.ensures ∙ c.in-None.is)))

pub returns-then-queued-least : goal.returns-then-queued-least
returns-then-queued-least c =
    let inside = place_inside c.args.self.now c.self.inside.queues.items c.args.job.task.0 c.self.view_is c.requires in
    subst (λ (h : PendingEntries). Stands h.entries c.args.job (Least c.in-Some.queued.pending)) c.self.view_is
    (stands_first c.self.inside.queues.items c.self.inside.heads c.args.job c.index.result.now c.least.result c.in-Some.queued
    (record {
      queues = c.self.invariant;
      number = omega (arith, c.requires.0);
      inside = inside;
      at = c.index.ensures;
      below = c.least.ensures.below;
      there = c.least.ensures.there;
    })
    (sym c.find.ensures ∙ c.in-Some.is) c.if-queued-least.true)

pub returns-else-queued-least : goal.returns-else-queued-least
returns-else-queued-least c =
    let inside = place_inside c.args.self.now c.self.inside.queues.items c.args.job.task.0 c.self.view_is c.requires in
    subst (λ (h : PendingEntries). Stands h.entries c.args.job NotLeast) c.self.view_is
    (stands_after c.self.inside.queues.items c.self.inside.heads c.args.job c.index.result.now c.least.result c.in-Some.queued
    (record {
      queues = c.self.invariant;
      number = omega (arith, c.requires.0);
      inside = inside;
      at = c.index.ensures;
      below = c.least.ensures.below;
      there = c.least.ensures.there;
    })
    (sym c.find.ensures ∙ c.in-Some.is) c.if-queued-least.false)
