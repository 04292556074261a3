-- The tasks of a processor are some of the set's, in its order.
use Rattle.std.proofs.Common.{◌≡◌, ◌≢◌, ℕ, ◌+◌, ◌<◌, ◌≤◌, Bool, true, cond, ◌==◌, List, [], ◌∷◌, ◌++◌, length, take, get_or, Some, slice_get, refl, subst, ◌∙◌, arith, length-append, eq-eqb}
use Rattle.std.specs.List.{AllByRecursion}
use Rattle.std.proofs.lemmas.Bool.{cond_both}
use Rattle.std.proofs.lemmas.List.{take_more, length-take-le}
use Rattle.std.proofs.lemmas.Option.{same_Some}
use Rattle.mc_task.specs.declared.task.Task.{Task}
use Rattle.mc_task.specs.TaskSet.{AreTasks, IsTask, Distinct, names_of}
use Rattle.part_fit.specs.Parts.{part_of}

pub part_of-none : (ts : List Task) (n : ℕ) → part_of ts [] n ≡ []
part_of-none [] n = refl
part_of-none (t ∷ ts) n = refl

both : (b d : Bool) (u t : Task) (ys : List Task)
    → cond b (u ∷ cond d (ys ++ t ∷ []) ys) (cond d (ys ++ t ∷ []) ys) ≡ cond d (cond b (u ∷ ys) ys ++ t ∷ []) (cond b (u ∷ ys) ys)
both true true u t ys = refl
both b d u t ys = refl

-- one more task that is placed on processor p comes after the tasks of p, and changes no other processor's
pub part_of-more : (ts : List Task) (of : List ℕ) (n p : ℕ) (t : Task) → slice_get ts (length of) ≡ Some t
    → part_of ts (of ++ p ∷ []) n ≡ cond (p == n) (part_of ts of n ++ t ∷ []) (part_of ts of n)
part_of-more [] of n p t h = absurd (cc h)
part_of-more (u ∷ ts) [] n p t h = rw (part_of-none ts n, same_Some u t h) refl
part_of-more (u ∷ ts) (q ∷ of) n p t h = rw (part_of-more ts of n p t h) (both (q == n) (p == n) u t (part_of ts of n))

-- a processor's tasks among the first i + 1 are those among the first i, and the task at index i if it is there
pub part_of-next : (ts : List Task) (of : List ℕ) (n i : ℕ) (t : Task) → slice_get ts i ≡ Some t → i < length of
    → part_of ts (take (i + 1) of) n ≡ cond (get_or of i 0 == n) (part_of ts (take i of) n ++ t ∷ []) (part_of ts (take i of) n)
part_of-next ts of n i t task inside =
    rw (take_more of i 0 inside) (part_of-more ts (take i of) n (get_or of i 0) t (rw (length-take-le i of (omega arith)) task))

-- a property of no tasks, which stays as the next task of the set is taken or left out, holds of a
-- processor's tasks
part_of-keeps : (R : List Task → List Task → Type 0) → ((ts : List Task) → R ts []) → ((t : Task) (ts us : List Task) → R ts us → R (t ∷ ts) (t ∷ us))
    → ((t : Task) (ts us : List Task) → R ts us → R (t ∷ ts) us) → (ts : List Task) (of : List ℕ) (n : ℕ) → R ts (part_of ts of n)
part_of-keeps R none taken left [] of n = none []
part_of-keeps R none taken left (t ∷ ts) [] n = none (t ∷ ts)
part_of-keeps R none taken left (t ∷ ts) (p ∷ ps) n =
    let rest = part_of-keeps R none taken left ts ps n in
    cond_both (p == n) (t ∷ part_of ts ps n) (part_of ts ps n) (R (t ∷ ts)) (λ on. taken t ts _ rest) (λ off. left t ts _ rest)

part_of-each : (P : Task → Type 0) (ts : List Task) (of : List ℕ) (n : ℕ) → AllByRecursion P ts → AllByRecursion P (part_of ts of n)
part_of-each P = part_of-keeps (λ ts us. AllByRecursion P ts → AllByRecursion P us) (λ ts h. tt) (λ t ts us rest h. (h.0, rest h.1)) (λ t ts us rest h. rest h.1)

pub part_of-names : (P : List ℕ → Type 0) (ts : List Task) (of : List ℕ) (n : ℕ) → AllByRecursion P (names_of ts) → AllByRecursion P (names_of (part_of ts of n))
part_of-names P =
    part_of-keeps (λ ts us. AllByRecursion P (names_of ts) → AllByRecursion P (names_of us)) (λ ts h. tt) (λ t ts us rest h. (h.0, rest h.1)) (λ t ts us rest h. rest h.1)

part_of-distinct : (ts : List Task) (of : List ℕ) (n : ℕ) → Distinct (names_of ts) → Distinct (names_of (part_of ts of n))
part_of-distinct [] of n h = tt
part_of-distinct (t ∷ ts) [] n h = tt
part_of-distinct (t ∷ ts) (p ∷ ps) n h =
    let rest = part_of-distinct ts ps n h.1 in
    cond_both (p == n) (t ∷ part_of ts ps n) (part_of ts ps n) (λ us. Distinct (names_of us)) (λ on. (part_of-names (λ m. t.name ≢ m) ts ps n h.0, rest)) (λ off. rest)

part_of-length : (ts : List Task) (of : List ℕ) (n : ℕ) → length (part_of ts of n) ≤ length ts
part_of-length = part_of-keeps (λ ts us. length us ≤ length ts) (λ ts. omega arith) (λ t ts us rest. omega arith) (λ t ts us rest. omega arith)

-- a processor's tasks are a set, if there are any
pub part_of-AreTasks : (set : List Task) (of : List ℕ) (n : ℕ) → AreTasks set → 1 ≤ length (part_of set of n) → AreTasks (part_of set of n)
part_of-AreTasks set of n is some = record {
  some = some;
  few = omega (arith, part_of-length set of n, is.few);
  each = part_of-each IsTask set of n is.each;
  names = part_of-distinct set of n is.names;
}

-- a processor's tasks with the next task of the set are a set
pub with_next-AreTasks : (set : List Task) (of : List ℕ) (n : ℕ) (t : Task) → AreTasks set → slice_get set (length of) ≡ Some t → AreTasks (part_of set of n ++ t ∷ [])
with_next-AreTasks set of n t is task =
    let here : part_of set (of ++ n ∷ []) n ≡ part_of set of n ++ t ∷ [] = part_of-more set of n n t task ∙ rw (eq-eqb n n refl) refl in
    subst AreTasks here (part_of-AreTasks set (of ++ n ∷ []) n is (rw here (omega (arith, length-append (part_of set of n) (t ∷ [])))))
