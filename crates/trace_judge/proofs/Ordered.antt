-- A queue stays in ascending order.
use Rattle.std.proofs.Common.{◌≡◌, ℕ, zero, suc, ◌+◌, ◌-◌, ◌<◌, ◌≤◌, Bool, true, false, cond, List, [], ◌∷◌, ◌++◌, length, take, drop, get_or, refl, ap, arith}
use Rattle.std.specs.List.{AllByRecursion}
use Rattle.mc_model.specs.Sums.{total}
use Rattle.mc_model.proofs.Sums.{total-append}
use Rattle.mc_model.proofs.Lists.{Each-map}
use Rattle.std.proofs.lemmas.List.{take-append-drop}
use Rattle.trace_judge.specs.declared.queue.Queued.{Queued}
use Rattle.trace_judge.specs.Heads.{no_key}
use Rattle.trace_judge.specs.Firsts.{edit_first, change_first, remove_first}
use Rattle.trace_judge.specs.Queues.{spent_job, head_key, IsQueue, IsPositionFor}

-- each job has at least this key
abbrev pub AllFrom : ℕ → List Queued → Type 0
AllFrom key qs = AllByRecursion (λ (r : Queued). key ≤ r.key) qs

-- keys that are at least a key are at least each lesser one
pub all_lower : (a b : ℕ) → a ≤ b → (qs : List Queued) → AllFrom b qs → AllFrom a qs
all_lower a b le = Each-map {P = λ (q : Queued). b ≤ q.key} (λ q h. omega (arith, le, h))

-- the element at an index has what each has
pub each_at : {X : Type 0} (P : X → Type 0) (xs : List X) (i : ℕ) (d : X) → i < length xs → AllByRecursion P xs → P (get_or xs i d)
each_at P [] i d h a = absurd (omega arith)
each_at P (x ∷ xs) zero d h a = a.0
each_at P (x ∷ xs) (suc i) d h a = each_at P xs i d (omega arith) a.1

-- each job has at least this key, with one more such job inserted
all_insert : (key : ℕ) (qs : List Queued) (i : ℕ) (job : Queued) → AllFrom key qs → key ≤ job.key → AllFrom key (take i qs ++ job ∷ drop i qs)
all_insert key qs zero job a h = (h, a)
all_insert key [] (suc i) job a h = (h, tt)
all_insert key (q ∷ qs) (suc i) job a h = (a.0, all_insert key qs i job a.1 h)

-- a queue with a job inserted at its position is a queue
pub ordered_insert : (qs : List Queued) (i : ℕ) (job : Queued) → IsQueue qs → job.key < no_key → IsPositionFor qs job.key i → IsQueue (take i qs ++ job ∷ drop i qs)
ordered_insert qs zero job q k p = (k, Each-map {P = λ (r : Queued). job.key < r.key} (λ r h. omega (arith, h)) qs p.before, q)
ordered_insert [] (suc i) job q k p = absurd (let h = p.inside in omega (arith, h))
ordered_insert (x ∷ qs) (suc i) job q k p =
    let there = each_at (λ (r : Queued). x.key ≤ r.key) (x ∷ qs) (suc i - 1) x (omega (arith, p.inside)) (omega arith, q.1) in
    let least : x.key ≤ job.key = omega (arith, there, p.after x (omega arith)) in
    let after : (d : Queued) → 1 ≤ i → (get_or qs (i - 1) d).key ≤ job.key =
    λ d h. (let e : suc i - 1 ≡ suc (i - 1) = omega (arith, h) in rw e at (p.after d (omega arith))) in
    (q.0, all_insert x.key qs i job q.1 least, ordered_insert qs i job q.2 k (record { inside = omega (arith, p.inside); after = after; before = p.before }))

-- an inserted job adds its own number to the total
pub total_insert : (f : Queued → ℕ) (qs : List Queued) (i : ℕ) (job : Queued) → total f (take i qs ++ job ∷ drop i qs) ≡ f job + total f qs
total_insert f qs i job =
    omega (arith, total-append f (take i qs) (job ∷ drop i qs), total-append f (take i qs) (drop i qs), ap (total f) (take-append-drop i qs))

-- an edit of the first job that passes a test keeps a lower bound of the keys, and their order, if the edit
-- does where that job is the head

all_edit : (p : Queued → Bool) (k : Queued → List Queued) → ((key : ℕ) (x : Queued) (qs : List Queued) → AllFrom key (x ∷ qs) → AllFrom key (k x ++ qs)) →
    (key : ℕ) (qs : List Queued) → AllFrom key qs → AllFrom key (edit_first p k qs)
all_edit p k keeps key [] a = tt
all_edit p k keeps key (x ∷ qs) a =
    elim (p x) as (λ b. AllFrom key (cond b (k x ++ qs) (x ∷ edit_first p k qs))) [ true ↦ keeps key x qs a | false ↦ (a.0, all_edit p k keeps key qs a.1) ]

ordered_edit : (p : Queued → Bool) (k : Queued → List Queued) → ((key : ℕ) (x : Queued) (qs : List Queued) → AllFrom key (x ∷ qs) → AllFrom key (k x ++ qs)) →
    ((x : Queued) (qs : List Queued) → IsQueue (x ∷ qs) → IsQueue (k x ++ qs)) → (qs : List Queued) → IsQueue qs → IsQueue (edit_first p k qs)
ordered_edit p k keeps order [] q = tt
ordered_edit p k keeps order (x ∷ qs) q =
    elim (p x) as (λ b. IsQueue (cond b (k x ++ qs) (x ∷ edit_first p k qs)))
    [ true ↦ order x qs q | false ↦ (q.0, all_edit p k keeps x.key qs q.1, ordered_edit p k keeps order qs q.2) ]

-- a queue without the first job that passes a test is a queue
pub ordered_remove : (p : Queued → Bool) (qs : List Queued) → IsQueue qs → IsQueue (remove_first p qs)
ordered_remove p = ordered_edit p (λ x. []) (λ key x qs a. a.1) (λ x qs q. q.2)

-- more ticks change no key
pub ordered_spent : (n : ℕ) (p : Queued → Bool) (qs : List Queued) → IsQueue qs → IsQueue (change_first p (spent_job n) qs)
ordered_spent n p = ordered_edit p (λ x. spent_job n x ∷ []) (λ key x qs a. a) (λ x qs q. q)

-- more ticks leave the key at the head
pub spent_head : (n : ℕ) (p : Queued → Bool) (qs : List Queued) → head_key (change_first p (spent_job n) qs) ≡ head_key qs
spent_head n p [] = refl
spent_head n p (q ∷ qs) = grind arith

-- the head's key is the least
pub head_least : (qs : List Queued) → IsQueue qs → AllFrom (head_key qs) qs
head_least [] q = tt
head_least (x ∷ qs) q = (omega arith, q.1)
