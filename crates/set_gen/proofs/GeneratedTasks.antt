-- The generated tasks, one by one, and the set of them.
use Rattle.std.proofs.Common.{◌≡◌, ◌≢◌, ℕ, zero, suc, ◌+◌, ◌-◌, ◌*◌, ◌/◌, ◌%◌, ◌^◌, ◌<◌, ◌≤◌, Bool, true, false, cond, List, ◌∷◌, map, length, Some, IsTrue, refl, ap, sym, ◌∙◌, arith, decimal}
use Prim.Native.Nat.{◌∣◌}
use Rattle.std.specs.List.{range_with_len, AllByRecursion, list_all}
use Rattle.std.proofs.lemmas.Bool.Decides.{nat_tests}
use Rattle.std.proofs.lemmas.Fmt.{decimal_injective, decimal_by_steps, decimal_nonempty, length-decimal-le}
use Rattle.std.proofs.lemmas.List.Folds.{list_all-append}
use Rattle.std.proofs.Math.Nat.{div-le_self, div-mul-le_self}
use Rattle.std.proofs.lemmas.Nat.{le-div}
use Rattle.std.proofs.lemmas.List.FromFn.{length-map-range_with_len}
use Rattle.rand_pcg.specs.Lcg.{Lcg}
use Rattle.mc_task.specs.NameForm.{is_name, is_name_byte}
use Rattle.mc_task.specs.declared.task.Task.{Task}
use Rattle.mc_task.specs.TaskSet.{IsTask, AreTasks, Distinct, names_of, task_at}
use Rattle.mc_model.proofs.Tasks.{task_at-in}
use Rattle.set_gen.specs.Words.{word, rest}
use Rattle.set_gen.specs.GeneratedSet.{period, is_odd, task_name, high_task, low_task, generated_task, generated_set}
use Rattle.set_gen.proofs.Periods.{IsPeriod, period-IsPeriod}
use Rattle.set_gen.proofs.Draws.{words_for, high_tasks, low_tasks}
use Rattle.mc_model.proofs.Ranges.{each-map-range, slice_get-map-range}

-- what holds of a high task and of a low one, by their numbers, holds of the generated task
pub by_parity : (P : Task → Type 0) (words : Lcg) (n i : ℕ)
    → (is_odd i ≡ true → P (high_task (task_name i) (period (word words)) (high_tasks n) (word (rest words))))
    → (is_odd i ≡ false → P (low_task (task_name i) (period (word words)) (low_tasks n)))
    → P (generated_task words n i)
unfolding generated_task
by_parity P words n i high low = go (is_odd i) refl
  where
    go : (b : Bool) → is_odd i ≡ b → P (cond b (high_task (task_name i) (period (word words)) (high_tasks n) (word (rest words))) (low_task (task_name i) (period (word words)) (low_tasks n)))
    go true e = high e
    go false e = low e

-- the name of a generated task
pub generated_task-name : (words : Lcg) (n i : ℕ) → (generated_task words n i).name ≡ task_name i
generated_task-name words n i = by_parity (λ t. t.name ≡ task_name i) words n i (λ e. unfold high_task in refl) (λ e. unfold low_task in refl)

letters : (ds : List ℕ) → list_all is_name_byte ds ≡ true → 0 < length ds → length ds ≤ 10 → IsTrue (is_name (116 ∷ ds))
letters ds all some few = rw all (grind (arith, nat_tests))

digit : (b : ℕ) → b < 10 → is_name_byte (48 + b) ≡ true
digit b h = grind (arith, nat_tests)

digits : (n : ℕ) → n < 2 ^ 64 → list_all is_name_byte (decimal n) ≡ true
digits = decimal_by_steps (λ m ds. list_all is_name_byte ds ≡ true)
    (λ m l. rw (digit m l) refl)
    (λ m ds l h. rw (list_all-append, h, digit (m % 10) (omega arith)) refl)

-- `t` and the digits of a number are a name
pub task_name-is_name : (i : ℕ) → i < 2 ^ 32 → IsTrue (is_name (task_name i))
unfolding task_name
task_name-is_name i h =
    let wide : i < 2 ^ 64 = omega arith in
    letters (decimal i) (digits i wide) (decimal_nonempty i wide) (length-decimal-le 10 i (omega arith) (omega arith) wide)

-- names of different numbers differ
task_name-differ : (i j : ℕ) → i < j → j < 2 ^ 32 → task_name i ≢ task_name j
unfolding task_name
task_name-differ i j less small e =
    let same : i ≡ j = decimal_injective i j (omega arith) (omega arith) (cc) in
    omega arith

high-IsTask : (name : List ℕ) (p k w : ℕ) → IsTrue (is_name name) → IsPeriod p → 1 ≤ k → k ≤ 16 → IsTask (high_task name p k w)
unfolding high_task
high-IsTask name p k w is period some few =
    let share : 3 ≤ p / (4 * k) = le-div 3 p (4 * k) (omega arith) (omega arith) in
    let within : p / (4 * k) ≤ p = div-le_self p (4 * k) in
    let three : (3 * p) / (4 * k) ≤ 3 * p = div-le_self (3 * p) (4 * k) in
    let order : p / (4 * k) ≤ (3 * p) / (4 * k) = le-div (p / (4 * k)) (3 * p) (4 * k) (omega arith) (omega (arith, div-mul-le_self p (4 * k))) in
    record {
      name = is;
      period = (omega arith, omega arith);
      low = (omega arith, omega arith);
      high = (omega arith, omega arith);
      budgets = omega arith;
    }

low-IsTask : (name : List ℕ) (p m : ℕ) → IsTrue (is_name name) → IsPeriod p → 1 ≤ m → m ≤ 16 → IsTask (low_task name p m)
unfolding low_task
low-IsTask name p m is period some few =
    let share : 3 ≤ p / (2 * m) = le-div 3 p (2 * m) (omega arith) (omega arith) in
    let within : p / (2 * m) ≤ p = div-le_self p (2 * m) in
    record {
      name = is;
      period = (omega arith, omega arith);
      low = (omega arith, omega arith);
      high = (omega arith, omega arith);
      budgets = refl;
    }

-- each generated task is valid
pub generated_task-IsTask : (words : Lcg) (n i : ℕ) → 2 ≤ n → n ≤ 32 → i < 2 ^ 32 → IsTask (generated_task words n i)
generated_task-IsTask words n i some few small =
    let name = task_name-is_name i small in
    let length = period-IsPeriod (word words) in
    by_parity IsTask words n i
    (λ e. high-IsTask (task_name i) (period (word words)) (high_tasks n) (word (rest words)) name length (omega arith) (omega arith))
    (λ e. low-IsTask (task_name i) (period (word words)) (low_tasks n) name length (omega arith) (omega arith))

-- the period of a generated task
pub generated_task-period : (words : Lcg) (n i : ℕ) → (generated_task words n i).period ≡ period (word words)
generated_task-period words n i = by_parity (λ t. t.period ≡ period (word words)) words n i (λ e. unfold high_task in refl) (λ e. unfold low_task in refl)

-- tasks with names of different numbers have different names
distinct : (f : ℕ → Task) (a n : ℕ) → a + n < 2 ^ 32 → ((i : ℕ) → (f i).name ≡ task_name i) → Distinct (names_of (map f (range_with_len a n)))
distinct f a zero small named = tt
distinct f a (suc n) small named = (others (a + 1) n (omega arith) (omega arith), distinct f (a + 1) n (omega arith) named)
  where
    others : (b m : ℕ) → a < b → b + m < 2 ^ 32 → AllByRecursion (λ name. (f a).name ≢ name) (names_of (map f (range_with_len b m)))
    others b zero less most = tt
    others b (suc m) less most = (λ same. task_name-differ a b less (omega arith) (sym (named a) ∙ same ∙ named b), others (b + 1) m (omega arith) (omega arith))

-- the generated set is a set of n tasks
pub generated_set-length : (words : Lcg) (n : ℕ) → length (generated_set words n) ≡ n
unfolding generated_set
generated_set-length words n = length-map-range_with_len (λ i. generated_task (words_for words i) n i) 1 n

pub generated_set-each : (P : Task → Type 0) (words : Lcg) (n : ℕ) → ((i : ℕ) → 1 ≤ i → i ≤ n → P (generated_task (words_for words i) n i)) → AllByRecursion P (generated_set words n)
unfolding generated_set
generated_set-each P words n h = each-map-range P (λ i. generated_task (words_for words i) n i) 1 n (λ i first last. h i first (omega arith))

-- the periods of the generated set divide 20000
pub generated_set-divides : (words : Lcg) (n : ℕ) → AllByRecursion (λ t. t.period ∣ 20000) (generated_set words n)
generated_set-divides words n =
    generated_set-each (λ t. t.period ∣ 20000) words n
    (λ i first last. rw (generated_task-period (words_for words i) n i) (period-IsPeriod (word (words_for words i))).divides)

pub generated_set-AreTasks : (words : Lcg) (n : ℕ) → 2 ≤ n → n ≤ 32 → AreTasks (generated_set words n)
unfolding generated_set
generated_set-AreTasks words n some few =
    let count : length (generated_set words n) ≡ n = generated_set-length words n in
    record {
      some = omega arith;
      few = omega arith;
      each = generated_set-each IsTask words n (λ i first last. generated_task-IsTask (words_for words i) n i some few (omega arith));
      names = distinct (λ i. generated_task (words_for words i) n i) 1 n (omega arith) (λ i. generated_task-name (words_for words i) n i);
    }

-- task number i of the generated set
pub generated_set-at : (words : Lcg) (n i : ℕ) → 1 ≤ i → i ≤ n → task_at (generated_set words n) i ≡ Some (generated_task (words_for words i) n i)
unfolding generated_set
generated_set-at words n i first last =
    let e : 1 + (i - 1) ≡ i = omega arith in
    task_at-in (generated_set words n) i first ∙ slice_get-map-range (λ j. generated_task (words_for words j) n j) 1 n (i - 1) (omega arith)
    ∙ ap (λ j. Some (generated_task (words_for words j) n j)) e

-- the parity of a number
pub odd : (i : ℕ) → i % 2 ≡ 1 → is_odd i ≡ true
unfolding is_odd
odd i e = grind (arith, nat_tests)

pub even : (i : ℕ) → i % 2 ≢ 1 → is_odd i ≡ false
unfolding is_odd
even i e = grind (arith, nat_tests)
