-- The entries of the queues.
use Rattle.std.proofs.Common.{◌≡◌, ◌≢◌, ℕ, zero, suc, ◌+◌, ◌-◌, ◌<◌, ◌≤◌, ◌==◌, Bool, true, false, nat_le, List, [], ◌∷◌, ◌++◌, Some, None, length, map, set, get_or, drop, replicate, refl, sym, ap, ◌∙◌, arith, append_assoc, Result, Ok, Err, OnErr}
use Rattle.std.specs.Prelude.{find, All, Contains}
use Rattle.std.specs.List.{AllByRecursion, list_any, list_all}
use Rattle.std.proofs.lemmas.Bool.Decides.{nat_tests}
use Rattle.std.proofs.lemmas.List.{length-map, length-set, map-set, set-get_or, drop_more, drop_all}
use Rattle.std.proofs.lemmas.List.Folds.{list_any-append, list_all-append}
use Rattle.std.proofs.Math.ListN.{get_or-map}
use Rattle.mc_task.specs.declared.task.JobId.{JobId}
use Rattle.mc_model.proofs.Booleans.{eqb-refl, or_true}
use Rattle.mc_model.specs.Sums.{total}
use Rattle.mc_model.proofs.Sums.{total-append, total-map}
use Rattle.trace_judge.specs.declared.queue.Queued.{Queued}
use Rattle.trace_judge.specs.Heads.{no_key}
use Rattle.trace_judge.specs.Firsts.{edit_first}
use Rattle.trace_judge.specs.Entries.{Entry, PendingEntries, HasQueue, IsMore, is_of}
use Rattle.trace_judge.specs.Queues.{has_count, head_key, IsQueue, AreQueues, entry_in, entries_from, pending_entries, remaining_of}
use Rattle.trace_judge.proofs.Firsts.{find_after, find_front, find-map, none-map, edit_after, edit_front, edit-map}
use Rattle.trace_judge.proofs.Ordered.{AllFrom, all_lower, head_least}

-- a job has no entry in the queues of other tasks

other_queue : (j : JobId) (k : ℕ) (q : List Queued) → j.task.0 ≢ k → list_any (is_of j) (map (entry_in k) q) ≡ false
other_queue j k [] ne = refl
other_queue j k (x ∷ q) ne = grind (arith, nat_tests, other_queue j k q)

later_queues : (j : JobId) (k : ℕ) (qs : List (List Queued)) → j.task.0 < k → list_any (is_of j) (entries_from k qs) ≡ false
later_queues j k [] h = refl
later_queues j k (q ∷ qs) h =
    let here = other_queue j k q (λ e. omega (arith, h, e)) in
    rw (list_any-append (is_of j) (map (entry_in k) q) (entries_from (k + 1) qs), here, later_queues j (k + 1) qs (omega (arith, h))) refl

-- the entries before and after the queue at index i, of task number n: none of them is of a job of the task
record IsAround (n k : ℕ) (qs : List (List Queued)) (i : ℕ) : Type 0 where
  pub before : List Entry
  pub after : List Entry
  pub whole : (r : List Queued) → entries_from k (set qs i r) ≡ before ++ (map (entry_in n) r ++ after)
  pub none_before : (j : JobId) → j.task.0 ≡ n → list_any (is_of j) before ≡ false
  pub none_after : (j : JobId) → j.task.0 ≡ n → list_any (is_of j) after ≡ false

around : (n k : ℕ) (qs : List (List Queued)) (i : ℕ) → n ≡ k + i → i < length qs → IsAround n k qs i
around n k [] i e h = absurd (omega arith)
around n k (q ∷ qs) zero e h =
    let same : k ≡ n = omega arith in record {
      before = [];
      after = entries_from (k + 1) qs;
      whole = λ r. ap (λ m. map (entry_in m) r ++ entries_from (k + 1) qs) same;
      none_before = λ j m. refl;
      none_after = λ j m. later_queues j (k + 1) qs (omega (arith, m));
    }
around n k (q ∷ qs) (suc i) e h =
    let a = around n (k + 1) qs i (omega arith) (omega arith) in record {
      before = map (entry_in k) q ++ a.before;
      after = a.after;
      whole = λ r. rw (a.whole r, append_assoc (map (entry_in k) q) a.before (map (entry_in n) r ++ a.after)) refl;
      none_before = λ j m. rw (list_any-append (is_of j) (map (entry_in k) q) a.before, other_queue j k q (λ z. omega (arith, m, z)), a.none_before j m) refl;
      none_after = a.none_after;
    }

-- the entries are those of the queue at index i, with the entries before and after that queue
now : (n : ℕ) (qs : List (List Queued)) (i : ℕ) (d : List Queued) (a : IsAround n 1 qs i) → entries_from 1 qs ≡ a.before ++ (map (entry_in n) (get_or qs i d) ++ a.after)
now n qs i d a = sym (ap (entries_from 1) (set-get_or qs i d)) ∙ a.whole (get_or qs i d)

-- in the queue of its task the job is found by its count
own : (j : JobId) (x : Queued) → is_of j (entry_in j.task.0 x) ≡ has_count j.count x
own j x = rw (eqb-refl j.task.0) refl

-- one more job in the queue at index i adds the job's entry to the entries
pub more_set : (n : ℕ) (qs : List (List Queued)) (i : ℕ) (r d : List Queued) (job : Queued) → n ≡ 1 + i → i < length qs →
    ((f : Queued → ℕ) → total f r ≡ f job + total f (get_or qs i d)) →
    IsMore (entries_from 1 (set qs i r)) (entry_in n job) (entries_from 1 qs)
more_set n qs i r d job e h more f =
    let a = around n 1 qs i e h in
    rw (a.whole r, now n qs i d a) (simp (total-append, total-map) (omega (arith, more (λ x. f (entry_in n x)))))

-- a job that is found in the queue of its task is found among the entries
pub found_own : (j : JobId) (qs : List (List Queued)) (i : ℕ) (d : List Queued) (q : Queued) → j.task.0 ≡ 1 + i → i < length qs →
    find (has_count j.count) (get_or qs i d) ≡ Some q →
    find (is_of j) (entries_from 1 qs) ≡ Some (entry_in j.task.0 q)
found_own j qs i d q e h f =
    let a = around j.task.0 1 qs i e h in
    let mine = map (entry_in j.task.0) (get_or qs i d) in
    rw (now j.task.0 qs i d a, find_after (is_of j) a.before (mine ++ a.after) (a.none_before j refl))
    (find_front (is_of j) mine a.after (entry_in j.task.0 q) (find-map (has_count j.count) (is_of j) (entry_in j.task.0) (own j) (get_or qs i d) q f))

-- a job that is not found in the queue of its task has no entry
pub none_own : (j : JobId) (qs : List (List Queued)) (i : ℕ) (d : List Queued) → j.task.0 ≡ 1 + i → i < length qs → find (has_count j.count) (get_or qs i d) ≡ None →
    list_any (is_of j) (entries_from 1 qs) ≡ false
none_own j qs i d e h f =
    let a = around j.task.0 1 qs i e h in
    let none = none-map (has_count j.count) (is_of j) (entry_in j.task.0) (own j) (get_or qs i d) f in
    rw (now j.task.0 qs i d a, list_any-append (is_of j), a.none_before j refl, list_any-append (is_of j), none, a.none_after j refl) refl

-- an edit of a job in the queue of its task is an edit of the job's first entry
pub edited_own : (j : JobId) (k : Queued → List Queued) (l : Entry → List Entry) → ((x : Queued) → map (entry_in j.task.0) (k x) ≡ l (entry_in j.task.0 x)) →
    (qs : List (List Queued)) (i : ℕ) (d : List Queued) → j.task.0 ≡ 1 + i → i < length qs →
    entries_from 1 (set qs i (edit_first (has_count j.count) k (get_or qs i d))) ≡ edit_first (is_of j) l (entries_from 1 qs)
edited_own j k l same qs i d e h =
    let a = around j.task.0 1 qs i e h in
    let mine = map (entry_in j.task.0) (get_or qs i d) in
    a.whole (edit_first (has_count j.count) k (get_or qs i d))
    ∙ (ap (λ es. a.before ++ (es ++ a.after)) (edit-map (has_count j.count) (is_of j) (entry_in j.task.0) k l (own j) same (get_or qs i d))
    ∙ sym (ap (edit_first (is_of j) l) (now j.task.0 qs i d a)
    ∙ (edit_after (is_of j) l a.before (mine ++ a.after) (a.none_before j refl)
    ∙ ap (λ es. a.before ++ es) (edit_front (is_of j) l mine a.after (a.none_after j refl)))))

-- what is below the keys of the heads is below all keys

below_queue : (least k : ℕ) (q : List Queued) → AllFrom least q → list_all (λ (o : Entry). nat_le least o.0.key) (map (entry_in k) q) ≡ true
below_queue least k [] a = refl
below_queue least k (x ∷ q) a = grind (arith, nat_tests, a.0, below_queue least k q a.1)

pub below_all : (least k : ℕ) (qs : List (List Queued)) → AllByRecursion IsQueue qs → All (λ key. least ≤ key) (map head_key qs) → list_all (λ (o : Entry). nat_le least o.0.key) (entries_from k qs) ≡ true
below_all least k [] each below = refl
below_all least k (q ∷ qs) each below =
    let here : least ≤ head_key q = below 0 no_key (omega arith) in
    let first = below_queue least k q (all_lower least (head_key q) here q (head_least q each.0)) in
    rw (list_all-append (λ (o : Entry). nat_le least o.0.key) (map (entry_in k) q), first) (below_all least (k + 1) qs each.1 (λ i d h. below (suc i) d (omega (arith, h))))

-- a key that some head has and that is not that of an empty queue is that of an entry

there_at : (key k : ℕ) (qs : List (List Queued)) (i : ℕ) → key ≢ no_key → i < length qs → get_or (map head_key qs) i key ≡ key → list_any (λ (o : Entry). o.0.key == key) (entries_from k qs) ≡ true
there_at key k [] i some h e = absurd (omega arith)
there_at key k ([] ∷ qs) zero some h e = absurd (some (sym e))
there_at key k ((x ∷ q) ∷ qs) zero some h e = rw (e, eqb-refl key) refl
there_at key k (q ∷ qs) (suc i) some h e =
    rw (list_any-append (λ (o : Entry). o.0.key == key) (map (entry_in k) q)) (or_true _ _ (there_at key (k + 1) qs i some (omega arith) e))

pub head_entry : (key : ℕ) (qs : List (List Queued)) → key ≢ no_key → Contains (map head_key qs) key → list_any (λ (o : Entry). o.0.key == key) (entries_from 1 qs) ≡ true
head_entry key qs some there = there_at key 1 qs there.0 some (omega (arith, there.1, length-map qs head_key)) there.2

-- where no head has a key there is no entry
pub none_there : (k : ℕ) (qs : List (List Queued)) → AllByRecursion IsQueue qs → All (λ key. no_key ≤ key) (map head_key qs) → entries_from k qs ≡ []
none_there k [] each below = refl
none_there k ([] ∷ qs) each below = none_there (k + 1) qs each.1 (λ i d h. below (suc i) d (omega (arith, h)))
none_there k ((x ∷ q) ∷ qs) each below = absurd (let least : no_key ≤ x.key = below 0 no_key (omega arith) in omega (arith, least, each.0.0))

-- queues without jobs

pub none_entries : (k n : ℕ) → entries_from k (replicate n []) ≡ []
none_entries k zero = refl
none_entries k (suc n) = none_entries (k + 1) n

pub none_heads : (n : ℕ) → map head_key (replicate n []) ≡ replicate n no_key
none_heads zero = refl
none_heads (suc n) = ap (λ ks. no_key ∷ ks) (none_heads n)

pub none_queues : (n : ℕ) → AllByRecursion IsQueue (replicate n [])
none_queues zero = tt
none_queues (suc n) = (tt, none_queues n)

-- lists that are queues stay queues with one queue in place of another
pub each_set : (qs : List (List Queued)) (i : ℕ) (r : List Queued) → AllByRecursion IsQueue qs → IsQueue r → AllByRecursion IsQueue (set qs i r)
each_set [] i r each q = tt
each_set (x ∷ qs) zero r each q = (q, each.1)
each_set (x ∷ qs) (suc i) r each q = (each.0, each_set qs i r each.1 q)

-- the queues stay valid with another queue in place of one, if the key of its head is written too
pub queues_set : (qs : List (List Queued)) (heads new : List ℕ) (i key : ℕ) (r : List Queued) → AreQueues qs heads → IsQueue r → new ≡ set heads i key →
    key ≡ head_key r → AreQueues (set qs i r) new
queues_set qs heads new i key r a q is at = record {
  some = omega (arith, a.some, length-set qs i r);
  few = omega (arith, a.few, length-set qs i r);
  each = each_set qs i r a.each q;
  heads_are = is ∙ (ap (λ k. set heads i k) at ∙ (ap (λ ks. set ks i (head_key r)) a.heads_are ∙ sym (map-set head_key qs i r)));
}

-- the queues stay valid with another queue in place of one, if it has the same key at its head
pub queues_same : (qs : List (List Queued)) (heads : List ℕ) (i : ℕ) (r d : List Queued) → AreQueues qs heads → IsQueue r → head_key r ≡ head_key (get_or qs i d) →
    AreQueues (set qs i r) heads
queues_same qs heads i r d a q e =
    let at : head_key r ≡ get_or heads i (head_key d) = e ∙ (sym (get_or-map head_key qs i d) ∙ sym (ap (λ ks. get_or ks i (head_key d)) a.heads_are)) in
    queues_set qs heads heads i (get_or heads i (head_key d)) r a q (sym (set-get_or heads i (head_key d))) (sym at)

-- the key of a job that is found in a queue is less than that of an empty queue
pub found_key : (p : Queued → Bool) (x : Queued) (q : List Queued) → IsQueue q → find p q ≡ Some x → x.key < no_key
found_key p x [] o h = cc
found_key p x (y ∷ q) o h = grind (arith, o.0, found_key p x q o.2)

-- the queue of a task that is held is among the queues
pub place_inside : (h : PendingEntries) (qs : List (List Queued)) (k : ℕ) → pending_entries qs ≡ h → HasQueue h k → k - 1 < length qs
place_inside h qs k view has =
    let tasks : length qs ≡ h.tasks = ap (λ (x : PendingEntries). x.tasks) view in
    omega (arith, has.0, has.1, tasks)

-- the entries from a job of the first queue on are the job's entry and those after it
in_queue : (k : ℕ) (q : List Queued) (es : List Entry) (at : ℕ) (job : Queued) → at < length q → job ≡ get_or q at job → drop at (map (entry_in k) q ++ es) ≡ entry_in k job ∷ drop (at + 1) (map (entry_in k) q ++ es)
in_queue k [] es at job h e = absurd (omega arith)
in_queue k (x ∷ q) es zero job h e = ap (λ (y : Queued). entry_in k y ∷ (map (entry_in k) q ++ es)) (sym e)
in_queue k (x ∷ q) es (suc at) job h e = let next : suc at + 1 ≡ suc (at + 1) = omega arith in rw next (in_queue k q es at job (omega (arith, h)) e)

-- the entries after the last one of a queue are those of the queues after it
past_queue : (k : ℕ) (q : List Queued) (es : List Entry) (at : ℕ) → at ≡ length q → drop at (map (entry_in k) q ++ es) ≡ es
past_queue k [] es at e = rw e refl
past_queue k (x ∷ q) es at e = rw e (past_queue k q es (length q) refl)

-- the entries of the queues from an index on are those of the queue there and of the queues after it
from_queue : (qs : List (List Queued)) (next : ℕ) (q : List Queued) → next < length qs → q ≡ get_or qs next q → entries_from (next + 1) (drop next qs) ≡ map (entry_in (next + 1)) q ++ entries_from (next + 1 + 1) (drop (next + 1) qs)
from_queue qs next q h e = ap (entries_from (next + 1)) (drop_more qs next q h ∙ ap (λ (r : List Queued). r ∷ drop (next + 1) qs) (sym e))

pub take_one : (qs : List (List Queued)) (next at : ℕ) (q : List Queued) (job : Queued) → next < length qs → q ≡ get_or qs next q → at < length q → job ≡ get_or q at job →
    remaining_of qs next at ≡ entry_in (next + 1) job ∷ remaining_of qs next (at + 1)
take_one qs next at q job h e i j =
    ap (drop at) (from_queue qs next q h e)
    ∙ (in_queue (next + 1) q (entries_from (next + 1 + 1) (drop (next + 1) qs)) at job i j
    ∙ sym (ap (λ (es : List Entry). entry_in (next + 1) job ∷ drop (at + 1) es) (from_queue qs next q h e)))

pub next_queue : (qs : List (List Queued)) (next at : ℕ) (q : List Queued) → next < length qs → q ≡ get_or qs next q → at ≡ length q → remaining_of qs next at ≡ remaining_of qs (next + 1) 0
next_queue qs next at q h e i = ap (drop at) (from_queue qs next q h e) ∙ past_queue (next + 1) q (entries_from (next + 1 + 1) (drop (next + 1) qs)) at i

-- after the last queue there are no entries
pub none_left : (qs : List (List Queued)) (next at : ℕ) → length qs ≤ next → at ≤ 0 → remaining_of qs next at ≡ []
none_left qs next at h i =
    let first : at ≡ 0 = omega (arith, i) in
    rw first (ap (entries_from (next + 1)) (drop_all next qs h))

-- what holds in any case holds if a call fails
pub on_err : {T E P : Type 0} (r : Result T E) → P → OnErr r P
on_err (Ok x) p = tt
on_err (Err e) p = p
