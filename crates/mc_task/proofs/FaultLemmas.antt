-- A set of tasks has no fault.
use Rattle.std.proofs.Common.{◌≡◌, ◌≢◌, ℕ, ◌+◌, ◌≤◌, Bool, true, false, ◌==◌, ◌||◌, nat_lt, List, [], ◌∷◌, ◌++◌, length, None, refl, arith}
use Rattle.std.specs.Bool.{Decides}
use Rattle.std.specs.List.{AllByRecursion}
use Rattle.std.specs.Str.{bytes_eq}
use Rattle.std.proofs.lemmas.Bool.Decides.{nat_tests}
use Rattle.std.proofs.lemmas.Slice.Eq.{bytes_eq-Decides}
use Rattle.mc_task.specs.declared.task.Task.{Task}
use Rattle.mc_task.specs.declared.task.Level.{Level}
use Rattle.mc_task.specs.declared.task.Level.TheVariants.{Low, High}
use Rattle.mc_task.specs.TaskSet.{AreTasks, IsTask, InOrder, Distinct, names_of}
use Rattle.mc_task.specs.Faults.{out_of_order, number_fault_from, named_from, same_name_from, first_fault}

-- no task of the list has this name
abbrev IsNewTo : List ℕ → List Task → Type 0
IsNewTo name ts = AllByRecursion (λ u. u.name ≢ name) ts

not_same : (b : Bool) (a c : List ℕ) → Decides b (a ≡ c) → a ≢ c → b ≡ false
not_same true a c decides differ = absurd (differ (decides.0 refl))
not_same false a c decides differ = refl

-- a name that no task of the list has is not found
named_from-new : (k : ℕ) (name : List ℕ) (ts : List Task) → IsNewTo name ts → named_from k name ts ≡ None
named_from-new k name [] new = refl
named_from-new k name (t ∷ ts) new = rw (not_same (bytes_eq t.name name) t.name name (bytes_eq-Decides t.name name) new.0, named_from-new (k + 1) name ts new.1)

-- no name of the list is that of a task before the list
abbrev AreNewTo : List (List ℕ) → List Task → Type 0
AreNewTo names before = AllByRecursion (λ name. IsNewTo name before) names

new_to_more : (before : List Task) (t : Task) (name : List ℕ) → IsNewTo name before → t.name ≢ name → IsNewTo name (before ++ t ∷ [])
new_to_more [] t name new differ = (differ, tt)
new_to_more (u ∷ before) t name new differ = (new.0, new_to_more before t name new.1 differ)

are_new_to_more : (before : List Task) (t : Task) (names : List (List ℕ)) → AreNewTo names before → AllByRecursion (λ m. t.name ≢ m) names → AreNewTo names (before ++ t ∷ [])
are_new_to_more before t [] new differ = tt
are_new_to_more before t (name ∷ names) new differ = (new_to_more before t name new.0 differ.0, are_new_to_more before t names new.1 differ.1)

-- if all names differ, no task has the name of a task before it
no_same_name : (before ts : List Task) → AreNewTo (names_of ts) before → Distinct (names_of ts) → same_name_from before ts ≡ None
no_same_name before [] new distinct = refl
no_same_name before (t ∷ ts) new distinct =
    rw (named_from-new 1 t.name before new.0) (no_same_name (before ++ t ∷ []) ts (are_new_to_more before t (names_of ts) new.1 distinct.0) distinct.1)

in_order : (l : Level) (low high : ℕ) → InOrder l low high → out_of_order l low high ≡ false
in_order Low low high h = grind (arith, nat_tests)
in_order High low high h = grind (arith, nat_tests)

no_zero : (period low high : ℕ) → 1 ≤ period → 1 ≤ low → 1 ≤ high → ((period == 0 || low == 0) || high == 0) ≡ false
no_zero period low high a b c = grind (arith, nat_tests)

no_number_fault : (before : ℕ) (ts : List Task) → AllByRecursion IsTask ts → number_fault_from before ts ≡ None
no_number_fault before [] each = refl
no_number_fault before (t ∷ ts) each =
    rw (no_zero t.period t.low t.high (each.0.period.0) (each.0.low.0) (each.0.high.0), in_order t.level t.low t.high each.0.budgets, no_number_fault (before + 1) ts each.1)

nothing_before : (names : List (List ℕ)) → AreNewTo names []
nothing_before [] = tt
nothing_before (name ∷ names) = (tt, nothing_before names)

-- the tasks of a set have no fault, so `TaskSet::new` takes them
pub first_fault-set : (ts : List Task) → AreTasks ts → first_fault ts ≡ None
first_fault-set ts set =
    let some : (length ts == 0) ≡ false = grind (arith, nat_tests, set.some) in
    let few : nat_lt 128 (length ts) ≡ false = grind (arith, nat_tests, set.few) in
    rw (some, few, no_number_fault 0 ts set.each, no_same_name [] ts (nothing_before (names_of ts)) set.names)
