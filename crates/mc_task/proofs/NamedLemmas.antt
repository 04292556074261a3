-- Tasks and their names: a task of a set is found by its name, and what is found is a task.
use Rattle.std.proofs.Common.{◌≡◌, ◌≢◌, ℕ, zero, suc, ◌+◌, ◌-◌, ◌≤◌, ◌<◌, Bool, true, false, ◌==◌, cond, List, [], ◌∷◌, length, Option, Some, IsTrue, slice_get, refl, ap, ◌∙◌, subst, arith}
use Rattle.std.specs.List.{AllByRecursion}
use Rattle.std.specs.Str.{bytes_eq}
use Rattle.std.proofs.lemmas.Bool.Decides.{nat_tests}
use Rattle.std.proofs.lemmas.Slice.Eq.{bytes_eq-Decides}
use Rattle.mc_task.specs.declared.task.Task.{Task}
use Rattle.mc_task.specs.NameForm.{is_name}
use Rattle.mc_task.specs.TaskSet.{IsTask, AreTasks, IsIn, Distinct, names_of, task_at, name_in}
use Rattle.mc_task.specs.Faults.{named, named_from}

found_cases : (b : Bool) (n : ℕ) (rest : Option ℕ) (size k : ℕ) → cond b (Some n) rest ≡ Some k → (rest ≡ Some k → (n + 1 ≤ k) × (k < n + 1 + size)) → (n ≤ k) × (k < n + (size + 1))
found_cases true n rest size k h later = let same : n ≡ k = cc in (omega arith, omega arith)
found_cases false n rest size k h later = let at : (n + 1 ≤ k) × (k < n + 1 + size) = later h in (omega arith, omega arith)

-- a name that is found in a list whose first task has number n is found at a number of the list
found_from : (n : ℕ) (name : List ℕ) (ts : List Task) (k : ℕ) → named_from n name ts ≡ Some k → (n ≤ k) × (k < n + length ts)
found_from n name [] k h = absurd (cc)
found_from n name (t ∷ ts) k h =
    let at = found_cases (bytes_eq t.name name) n (named_from (n + 1) name ts) (length ts) k h (λ e. found_from (n + 1) name ts k e) in
    (at.0, omega arith)

-- a name that is found is that of a task of the set
pub found : (name : List ℕ) (ts : List Task) (k : ℕ) → named name ts ≡ Some k → IsIn ts k
found name ts k h = let at = found_from 1 name ts k h in (omega arith, omega arith)

unequal : (a b : List ℕ) → a ≢ b → bytes_eq a b ≡ false
unequal a b h = by (bytes_eq a b) refl
  where
    by : (t : Bool) → bytes_eq a b ≡ t → t ≡ false
    by true e = absurd (h ((bytes_eq-Decides a b).0 e))
    by false e = refl

-- a name that differs from all names of a list differs from the name at each index
apart : (name : List ℕ) (ts : List Task) (i : ℕ) → AllByRecursion (λ m. name ≢ m) (names_of ts) → i < length ts → name ≢ name_in (slice_get ts i)
apart name [] i h inside = absurd (omega arith)
apart name (t ∷ ts) zero h inside = h.0
apart name (t ∷ ts) (suc i) h inside = apart name ts i h.1 (omega arith)

-- task k of a list whose first task has number n has this name, and is the first task with it
pub record IsFound (ts : List Task) (n : ℕ) (name : List ℕ) (k : ℕ) : Type 0 where
  pub number : named_from n name ts ≡ Some k
  pub form : IsTrue (is_name name)

found_at : (n : ℕ) (ts : List Task) (i : ℕ) → Distinct (names_of ts) → AllByRecursion IsTask ts → i < length ts → IsFound ts n (name_in (slice_get ts i)) (n + i)
found_at n [] i d each inside = absurd (omega arith)
found_at n (t ∷ ts) zero d each inside =
    let same : bytes_eq t.name t.name ≡ true = (bytes_eq-Decides t.name t.name).1 refl in
    let first : n ≡ n + 0 = omega arith in
    record {
      number = ap (λ (b : Bool). cond b (Some n) (named_from (n + 1) t.name ts)) same ∙ ap Some first;
      form = each.0.name;
    }
found_at n (t ∷ ts) (suc i) d each inside =
    let rest = found_at (n + 1) ts i d.1 each.1 (omega arith) in
    let other : bytes_eq t.name (name_in (slice_get ts i)) ≡ false = unequal t.name (name_in (slice_get ts i)) (apart t.name ts i d.0 (omega arith)) in
    let place : n + 1 + i ≡ n + suc i = omega arith in
    record {
      number = ap (λ (b : Bool). cond b (Some n) (named_from (n + 1) (name_in (slice_get ts i)) ts)) other ∙ (rest.number ∙ ap Some place);
      form = rest.form;
    }

pub found_by_name : (set : List Task) (k : ℕ) → AreTasks set → IsIn set k → IsFound set 1 (name_in (task_at set k)) k
found_by_name set k s task =
    let some : k == 0 ≡ false = grind (arith, nat_tests, task.0) in
    let at : 1 + (k - 1) ≡ k = omega (arith, task.0) in
    let found = found_at 1 set (k - 1) s.names s.each (omega (arith, task.0, task.1)) in
    rw some (subst (λ (m : ℕ). IsFound set 1 (name_in (slice_get set (k - 1))) m) at found)

-- a name that is that of task k is found as task k
pub found_task : (set : List Task) (k : ℕ) (name : List ℕ) → AreTasks set → IsIn set k → name_in (task_at set k) ≡ name → named name set ≡ Some k
found_task set k name s task same = subst (λ (n : List ℕ). named n set ≡ Some k) same (found_by_name set k s task).number
