-- Tasks of a list without a fault are valid tasks.
use Rattle.std.proofs.Common.{All, ◌≡◌, ℕ, suc, ◌+◌, ◌≤◌, Bool, true, false, ◌==◌, ◌||◌, nat_lt, cond, List, [], ◌∷◌, ◌++◌, ◌≢◌, Option, Some, None, option_map, refl, sym, ◌∙◌, append_assoc, arith, length}
use Rattle.std.specs.Str.{bytes_eq}
use Rattle.std.proofs.lemmas.Bool.Decides.{nat_tests}
use Rattle.std.proofs.lemmas.Bool.{false≢true}
use Rattle.std.proofs.lemmas.Slice.Eq.{bytes_eq-Decides}
use Rattle.std.specs.List.{AllByRecursion}
use Rattle.std.specs.Option.{option_or}
use Rattle.mc_task.specs.declared.task.Task.{Task}
use Rattle.mc_task.specs.declared.task.Level.{Level}
use Rattle.mc_task.specs.declared.task.Level.TheVariants.{Low, High}
use Rattle.mc_task.specs.declared.set.SetFault.{SetFault}
use Rattle.mc_task.specs.declared.set.SetFault.TheVariants.{Empty, TooMany}
use Rattle.mc_task.specs.TaskSet.{IsTask, AreTasks, InOrder, Distinct, names_of}
use Rattle.mc_task.specs.Faults.{out_of_order, number_fault, number_fault_from, first_fault, same_name_from, named_from}

parts : (a b : Option SetFault) → option_or a b ≡ None → (a ≡ None) × (b ≡ None)
parts None b h = (refl, h)
parts (Some e) b h = absurd (cc)

chosen : (x y : Bool) (e f : SetFault) (rest : Option SetFault) → cond x (Some e) (cond y (Some f) rest) ≡ None → (x ≡ false) × (y ≡ false) × (rest ≡ None)
chosen true y e f rest h = absurd (cc)
chosen false true e f rest h = absurd (cc)
chosen false false e f rest h = (refl, refl, h)

-- a property of all elements, said element by element
pub each_of_all : {X : Type 0} (P : X → Type 0) (xs : List X) → All P xs → AllByRecursion P xs
each_of_all P [] h = tt
each_of_all P (x ∷ xs) h = (h 0 x (omega arith), each_of_all P xs (λ k d lt. h (suc k) d (omega arith)))

none_chosen : (b : Bool) (n : ℕ) (rest : Option ℕ) → cond b (Some n) rest ≡ None → b ≡ false
none_chosen true n rest h = absurd (cc)
none_chosen false n rest h = refl

none_rest : (b : Bool) (n : ℕ) (rest : Option ℕ) → cond b (Some n) rest ≡ None → rest ≡ None
none_rest true n rest h = absurd (cc)
none_rest false n rest h = h

none_mapped : {A B : Type 0} (f : A → B) (o : Option A) → option_map f o ≡ None → o ≡ None
none_mapped f None h = refl
none_mapped f (Some x) h = absurd (cc)

differs : (a b : List ℕ) → bytes_eq a b ≡ false → a ≢ b
differs a b h e = false≢true (sym h ∙ (bytes_eq-Decides a b).1 e)

-- a name that no task of a list has differs from the name of each task in it
not_there : (n : ℕ) (name : List ℕ) (u : Task) (xs ys : List Task) → named_from n name (xs ++ u ∷ ys) ≡ None → bytes_eq u.name name ≡ false
not_there n name u [] ys h = none_chosen (bytes_eq u.name name) n _ h
not_there n name u (x ∷ xs) ys h = not_there (n + 1) name u xs ys (none_rest (bytes_eq x.name name) n _ h)

-- in a list without two equal names, no later task has the name of this one
fresh : (u : Task) (xs ys ts : List Task) → same_name_from (xs ++ u ∷ ys) ts ≡ None → AllByRecursion (λ n. u.name ≢ n) (names_of ts)
fresh u xs ys [] h = tt
fresh u xs ys (t ∷ ts) h =
    let p = parts _ _ h in
    let other : bytes_eq u.name t.name ≡ false = not_there 1 t.name u xs ys (none_mapped _ _ (p.0)) in
    (differs u.name t.name other, fresh u xs (ys ++ t ∷ []) ts (rw append_assoc at (p.1)))

distinct : (before ts : List Task) → same_name_from before ts ≡ None → Distinct (names_of ts)
distinct before [] h = tt
distinct before (t ∷ ts) h =
    let p = parts _ _ h in
    (fresh t before [] ts (p.1), distinct (before ++ t ∷ []) ts (p.1))

-- budgets that are not out of order are in order
in_order : (l : Level) (low high : ℕ) → out_of_order l low high ≡ false → InOrder l low high
in_order Low low high h = grind (arith, nat_tests, h)
in_order High low high h = grind (arith, nat_tests, h)

in_order_from : (before : ℕ) (ts : List Task) → number_fault_from before ts ≡ None → AllByRecursion (λ t. InOrder t.level t.low t.high) ts
in_order_from before [] h = tt
in_order_from before (t ∷ ts) h =
    let p = parts (number_fault (before + 1) t) (number_fault_from (before + 1) ts) h in
    let q = chosen ((t.period == 0 || t.low == 0) || t.high == 0) (out_of_order t.level t.low t.high) _ _ None (p.0) in
    (in_order t.level t.low t.high (q.1), in_order_from (before + 1) ts (p.1))

-- what a list without a fault has: 1 to 128 tasks, none of them with a fault of its numbers or with the name
-- of another
record Faultless (ts : List Task) : Type 0 where
  some : 1 ≤ length ts
  few : length ts ≤ 128
  numbers : number_fault_from 0 ts ≡ None
  names : same_name_from [] ts ≡ None

faultless : (ts : List Task) → first_fault ts ≡ None → Faultless ts
faultless ts h =
    let p = chosen (length ts == 0) (nat_lt 128 (length ts)) Empty (TooMany (length ts)) (option_or (number_fault_from 0 ts) (same_name_from [] ts)) h in
    let q = parts (number_fault_from 0 ts) (same_name_from [] ts) (p.2) in
    let some : 1 ≤ length ts = grind (arith, nat_tests, p.0) in
    let few : length ts ≤ 128 = grind (arith, nat_tests, p.1) in
    record { some = some; few = few; numbers = q.0; names = q.1 }

-- each task of a list without a fault has its budgets in order
pub each_in_order : (ts : List Task) → first_fault ts ≡ None → AllByRecursion (λ t. InOrder t.level t.low t.high) ts
each_in_order ts h = in_order_from 0 ts ((faultless ts h).numbers)

pub AreTasks-each : (ts : List Task) → AllByRecursion IsTask ts → first_fault ts ≡ None → AreTasks ts
AreTasks-each ts each h =
    let f = faultless ts h in
    record { some = f.some; few = f.few; each = each; names = distinct [] ts (f.names) }

pub AreTasks-right : (ts : List Task) → All IsTask ts → first_fault ts ≡ None → AreTasks ts
AreTasks-right ts each h = AreTasks-each ts (each_of_all IsTask ts each) h
