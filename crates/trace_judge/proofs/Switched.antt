-- The queues after an overrun: each stays a queue, and their entries are those of the high jobs at their new keys.
use Rattle.std.proofs.Common.{◌≡◌, ℕ, zero, suc, ◌+◌, ◌<◌, ◌≤◌, ◌==◌, Bool, true, false, cond, List, [], ◌∷◌, ◌++◌, Option, Some, None, length, map, take, drop, get_or, set, refl, ap, ◌∙◌, subst, arith}
use Rattle.std.specs.List.{AllByRecursion, list_all}
use Rattle.std.proofs.lemmas.Bool.Decides.{nat_tests}
use Rattle.std.proofs.lemmas.List.Folds.{list_all-append}
use Rattle.mc_task.specs.declared.task.Rule.{Rule}
use Rattle.mc_task.specs.declared.task.Task.{Task}
use Rattle.mc_task.specs.TaskSet.{task_at}
use Rattle.mc_model.specs.Key.{key_of}
use Rattle.mc_model.specs.Sums.{total}
use Rattle.mc_model.specs.TaskNumbers.{is_high_in}
use Rattle.mc_model.proofs.Booleans.{eqb-refl}
use Rattle.mc_model.proofs.Sums.{total-append}
use Rattle.trace_judge.specs.declared.queue.Queued.{Queued}
use Rattle.trace_judge.specs.Heads.{no_key}
use Rattle.trace_judge.specs.Entries.{Entry, entries_of}
use Rattle.trace_judge.specs.Queues.{IsQueue, AreKeyed, rekeyed_job, switched_queue, switched_from, entry_in, entries_from}
use Rattle.trace_judge.specs.Switch.{rekeyed, moved, is_keyed}
use Rattle.trace_judge.proofs.Ordered.{AllFrom}

-- the first elements of one list and the others of another, of one length

-- one step further, the element at the index is that of the first list
pub half_step : {X : Type 0} (ss xs : List X) (i : ℕ) (d : X) → length ss ≡ length xs → i < length xs → set (take i ss ++ drop i xs) i (get_or ss i d) ≡ take (suc i) ss ++ drop (suc i) xs
half_step [] [] i d e h = absurd (omega arith)
half_step [] (x ∷ xs) i d e h = absurd (omega (arith, e))
half_step (s ∷ ss) [] i d e h = absurd (omega arith)
half_step (s ∷ ss) (x ∷ xs) zero d e h = refl
half_step {X} (s ∷ ss) (x ∷ xs) (suc i) d e h = ap (λ (ys : List X). s ∷ ys) (half_step ss xs i d (omega (arith, e)) (omega (arith, h)))

-- the element at the index is still that of the second list
pub half_at : {X : Type 0} (ss xs : List X) (i : ℕ) (d : X) → length ss ≡ length xs → get_or (take i ss ++ drop i xs) i d ≡ get_or xs i d
half_at [] [] zero d e = refl
half_at [] [] (suc i) d e = refl
half_at [] (x ∷ xs) i d e = absurd (omega (arith, e))
half_at (s ∷ ss) [] i d e = absurd (omega (arith, e))
half_at (s ∷ ss) (x ∷ xs) zero d e = refl
half_at (s ∷ ss) (x ∷ xs) (suc i) d e = half_at ss xs i d (omega (arith, e))

-- the element that was put at an index is there
pub set_at : {X : Type 0} (xs : List X) (i : ℕ) (x d : X) → i < length xs → get_or (set xs i x) i d ≡ x
set_at [] i x d h = absurd (omega arith)
set_at (y ∷ ys) zero x d h = refl
set_at (y ∷ ys) (suc i) x d h = set_at ys i x d (omega (arith, h))

-- there are as many elements as in the second list
pub half_length : {X : Type 0} (ss xs : List X) (i : ℕ) → length ss ≡ length xs → length (take i ss ++ drop i xs) ≡ length xs
half_length [] [] zero e = refl
half_length [] [] (suc i) e = refl
half_length [] (x ∷ xs) i e = absurd (omega (arith, e))
half_length (s ∷ ss) [] i e = absurd (omega (arith, e))
half_length (s ∷ ss) (x ∷ xs) zero e = refl
half_length (s ∷ ss) (x ∷ xs) (suc i) e = omega (arith, half_length ss xs i (omega (arith, e)))

-- the keys of a task move by one distance, so jobs with a key that is not less have one after the switch
all_rekeyed : (rule : Rule) (high : Bool) (t : Option Task) (x : Queued) (qs : List Queued) → x.key ≡ key_of rule high t x.pending.release → AreKeyed rule high t qs → AllFrom x.key qs →
    AllFrom (key_of rule true t x.pending.release) (map (rekeyed_job rule t) qs)
all_rekeyed rule high t x [] e k a = tt
all_rekeyed rule high t x (y ∷ qs) e k a = (omega (arith, e, k.0, a.0), all_rekeyed rule high t x qs e k.1 a.1)

-- a queue whose jobs get their keys of high mode is a queue
pub ordered_rekeyed : (rule : Rule) (high : Bool) (t : Option Task) (qs : List Queued) → IsQueue qs → AreKeyed rule high t qs → AllByRecursion (λ (q : Queued). q.key < no_key) (map (rekeyed_job rule t) qs) →
    IsQueue (map (rekeyed_job rule t) qs)
ordered_rekeyed rule high t [] q k b = tt
ordered_rekeyed rule high t (x ∷ qs) q k b = (b.0, all_rekeyed rule high t x qs k.0 k.1 q.1, ordered_rekeyed rule high t qs q.2 k.1 b.1)

-- what the queue of task number k weighs after the switch
switched_own : (rule : Rule) (f : Entry → ℕ) (k : ℕ) (t : Option Task) (q : List Queued) →
    total f (map (entry_in k) (switched_queue rule t q)) ≡ total (λ (e : Entry). cond (is_high_in t) (f (rekeyed rule t e.0 e.1, e.1)) 0) (map (entry_in k) q)
switched_own rule f k None [] = refl
switched_own rule f k None (x ∷ q) = omega (arith, switched_own rule f k None q)
switched_own rule f k (Some t) q =
    elim (is_high_in (Some t)) as (λ b. total f (map (entry_in k) (cond b (map (rekeyed_job rule (Some t)) q) [])) ≡ total (λ (e : Entry). cond b (f (rekeyed rule (Some t) e.0 e.1, e.1)) 0) (map (entry_in k) q))
    [ true ↦ high q | false ↦ low q ]
  where
    high : (q : List Queued) → total f (map (entry_in k) (map (rekeyed_job rule (Some t)) q)) ≡ total (λ (e : Entry). f (rekeyed rule (Some t) e.0 e.1, e.1)) (map (entry_in k) q)
    high [] = refl
    high (x ∷ q) = ap (λ (n : ℕ). f (entry_in k (rekeyed_job rule (Some t) x)) + n) (high q)

    low : (q : List Queued) → 0 ≡ total (λ (e : Entry). 0) (map (entry_in k) q)
    low [] = refl
    low (x ∷ q) = omega (arith, low q)

-- an entry of task number k moves as its task says
moved_own : (set : List Task) (rule : Rule) (f : Entry → ℕ) (k : ℕ) (q : List Queued) →
    total (λ (e : Entry). cond (is_high_in (task_at set k)) (f (rekeyed rule (task_at set k) e.0 e.1, e.1)) 0) (map (entry_in k) q) ≡ total (moved set rule f) (map (entry_in k) q)
moved_own set rule f k [] = refl
moved_own set rule f k (x ∷ q) = ap (λ (n : ℕ). moved set rule f (entry_in k x) + n) (moved_own set rule f k q)

-- the entries of the switched queues are those of the high jobs at their new keys
pub switched_entries : (set : List Task) (rule : Rule) (f : Entry → ℕ) (k : ℕ) (qs : List (List Queued)) → total f (entries_from k (switched_from set rule k qs)) ≡ total (moved set rule f) (entries_from k qs)
switched_entries set rule f k [] = refl
switched_entries set rule f k (q ∷ qs) =
    let here = switched_own rule f k (task_at set k) q ∙ moved_own set rule f k q in
    omega (
      arith,
      here,
      switched_entries set rule f (k + 1) qs,
      total-append f (map (entry_in k) (switched_queue rule (task_at set k) q)) (entries_from (k + 1) (switched_from set rule (k + 1) qs)),
      total-append (moved set rule f) (map (entry_in k) q) (entries_from (k + 1) qs),
    )

-- there are as many queues as before
pub switched_length : (set : List Task) (rule : Rule) (k : ℕ) (qs : List (List Queued)) → length (switched_from set rule k qs) ≡ length qs
switched_length set rule k [] = refl
switched_length set rule k (q ∷ qs) = ap (λ (n : ℕ). suc n) (switched_length set rule (k + 1) qs)

-- the queue at an index is switched as its task says
pub switched_at : (set : List Task) (rule : Rule) (k : ℕ) (qs : List (List Queued)) (i : ℕ) (d e : List Queued) → i < length qs → get_or (switched_from set rule k qs) i d ≡ switched_queue rule (task_at set (k + i)) (get_or qs i e)
switched_at set rule k [] i d e h = absurd (omega arith)
switched_at set rule k (q ∷ qs) zero d e h = let same : k ≡ k + 0 = omega arith in ap (λ (n : ℕ). switched_queue rule (task_at set n) q) same
switched_at set rule k (q ∷ qs) (suc i) d e h =
    let same : k + 1 + i ≡ k + suc i = omega arith in
    switched_at set rule (k + 1) qs i d e (omega (arith, h)) ∙ ap (λ (n : ℕ). switched_queue rule (task_at set n) (get_or qs i e)) same

-- the jobs of a queue have their keys if its entries have
keyed_own : (set : List Task) (rule : Rule) (high : Bool) (k : ℕ) (q : List Queued) → list_all (is_keyed set rule high) (map (entry_in k) q) ≡ true → AreKeyed rule high (task_at set k) q
keyed_own set rule high k [] h = tt
keyed_own set rule high k (x ∷ q) h =
    let here : x.key ≡ key_of rule high (task_at set k) x.pending.release = grind (arith, nat_tests, h) in
    let rest : list_all (is_keyed set rule high) (map (entry_in k) q) ≡ true = grind (arith, h) in
    (here, keyed_own set rule high k q rest)

-- the jobs of each queue have their keys if all entries have
pub keyed_at : (set : List Task) (rule : Rule) (high : Bool) (k : ℕ) (qs : List (List Queued)) (i : ℕ) (d : List Queued) → i < length qs → list_all (is_keyed set rule high) (entries_from k qs) ≡ true → AreKeyed rule high (task_at set (k + i)) (get_or qs i d)
keyed_at set rule high k [] i d h all = absurd (omega arith)
keyed_at set rule high k (q ∷ qs) zero d h all =
    let both = list_all-append (is_keyed set rule high) (map (entry_in k) q) (entries_from (k + 1) qs) in
    let mine : list_all (is_keyed set rule high) (map (entry_in k) q) ≡ true = grind (arith, both, all) in
    let same : k ≡ k + 0 = omega arith in
    subst (λ (n : ℕ). AreKeyed rule high (task_at set n) q) same (keyed_own set rule high k q mine)
keyed_at set rule high k (q ∷ qs) (suc i) d h all =
    let both = list_all-append (is_keyed set rule high) (map (entry_in k) q) (entries_from (k + 1) qs) in
    let rest : list_all (is_keyed set rule high) (entries_from (k + 1) qs) ≡ true = grind (arith, both, all) in
    let same : k + 1 + i ≡ k + suc i = omega arith in
    subst (λ (n : ℕ). AreKeyed rule high (task_at set n) (get_or qs i d)) same (keyed_at set rule high (k + 1) qs i d (omega (arith, h)) rest)

-- one element further, if each of the first elements passes, and this one does
pub all_step : {X : Type 0} (P : X → Type 0) (ss : List X) (i : ℕ) (d : X) → i < length ss → AllByRecursion P (take i ss) → P (get_or ss i d) → AllByRecursion P (take (suc i) ss)
all_step P [] i d h a p = absurd (omega arith)
all_step P (s ∷ ss) zero d h a p = (p, tt)
all_step P (s ∷ ss) (suc i) d h a p = (a.0, all_step P ss i d (omega (arith, h)) a.1 p)

-- a queue of task number n has as many entries of that task as jobs
own_entries : (n : ℕ) (q : List Queued) → total (λ (e : Entry). cond (e.0.job.task.0 == n) 1 0) (map (entry_in n) q) ≡ length q
own_entries n [] = refl
own_entries n (x ∷ q) = rw (eqb-refl n) (omega (arith, own_entries n q))

-- a task has at least as many entries as jobs in its queue
pub has_entries : (n k : ℕ) (qs : List (List Queued)) (i : ℕ) (d : List Queued) → n ≡ k + i → i < length qs → length (get_or qs i d) ≤ entries_of n (entries_from k qs)
has_entries n k [] i d e h = absurd (omega arith)
has_entries n k (q ∷ qs) zero d e h =
    let same : k ≡ n = omega arith in
    let own = own_entries n q in
    rw same (omega (arith, own, total-append (λ (e : Entry). cond (e.0.job.task.0 == n) 1 0) (map (entry_in n) q) (entries_from (n + 1) qs)))
has_entries n k (q ∷ qs) (suc i) d e h =
    omega (arith, has_entries n (k + 1) qs i d (omega arith) (omega (arith, h)), total-append (λ (e : Entry). cond (e.0.job.task.0 == n) 1 0) (map (entry_in k) q) (entries_from (k + 1) qs))
