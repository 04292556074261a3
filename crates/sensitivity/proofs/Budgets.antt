-- A set with another budget of one task.
use Rattle.std.proofs.Common.{◌≡◌, ℕ, zero, suc, [], ◌∷◌, ◌++◌, ◌-◌, ◌*◌, ◌^◌, ◌≤◌, refl, sym, subst, ◌∙◌, arith, true, List, Some, length, slice_get}
use Rattle.std.specs.Prelude.{is_some}
use Rattle.std.proofs.Math.Nat.{mul-le-mul_right}
use Rattle.mc_task.specs.declared.task.Task.{Task}
use Rattle.mc_task.specs.declared.task.Level.{Level}
use Rattle.mc_task.specs.declared.task.Level.TheVariants as level
use Rattle.mc_task.specs.TaskSet.{IsTask, IsTickCount, InOrder, task_at}
use Rattle.mc_model.specs.Loads.{by_level, product, load, low_low, high_low, high_high, load_ll, load_hl, load_hh}
use Rattle.mc_model.specs.Test.{published, rule_of}
use Rattle.mc_model.proofs.Walk.{IsTask-at}
use Rattle.load_sum.specs.declared.loads.Loads.{Loads}
use Rattle.load_sum.specs.Belong.{BelongTo}
use Rattle.sensitivity.specs.declared.budget.Budget.{Budget}
use Rattle.sensitivity.specs.declared.budget.Budget.TheVariants.{Low, High}
use Rattle.sensitivity.specs.Budgets.{with_budget, changed, set_with, Has, least_of, most_of, LessIsAdmitted, LessLoadIsAdmitted, StaysASet}
use Rattle.sensitivity.specs.Changes.{AreSmall, IsPart, DifferBy}
use Rattle.sensitivity.proofs.Admitted.{looser-admitted}
use Rattle.sensitivity.proofs.Changes.{changed-AreTasks, Keeps, at-index, product-changed, load-less, load-part, load-small, AreSums-from_BelongTo, changed-BelongTo}

by_level-most : (l : Level) (a b m : ℕ) → a ≤ m → b ≤ m → by_level l a b ≤ m
by_level-most level.Low a b m low high = low
by_level-most level.High a b m low high = high

by_level-grows : (l : Level) (a b c d : ℕ) → a ≤ c → b ≤ d → by_level l a b ≤ by_level l c d
by_level-grows level.Low a b c d low high = low
by_level-grows level.High a b c d low high = high

by_level-count : (l : Level) (a b : ℕ) → IsTickCount a → IsTickCount b → IsTickCount (by_level l a b)
by_level-count level.Low a b low high = low
by_level-count level.High a b low high = high

low-order : (l : Level) (b high : ℕ) → b ≤ by_level l 4294967295 high → InOrder l b (by_level l b high)
low-order level.Low b high most = refl
low-order level.High b high most = most

pub with_budget-Keeps : (which : Budget) (b : ℕ) → Keeps (with_budget which b)
with_budget-Keeps Low b = record { name = λ t. refl; period = λ t. refl }
with_budget-Keeps High b = record { name = λ t. refl; period = λ t. refl }

-- a task with a budget that it may have is a task
pub with_budget-IsTask : (which : Budget) (b : ℕ) (t : Task) → IsTask t → Has which t → least_of which t ≤ b → b ≤ most_of which t → IsTask (with_budget which b t)
with_budget-IsTask Low b t is own least most =
    let top = by_level-most t.level 4294967295 t.high 4294967295 (omega arith) (let high = is.high.1 in omega (arith, high)) in
    let count : IsTickCount b = (least, omega (arith, top, most)) in
    record {
      name = is.name;
      period = is.period;
      low = count;
      high = by_level-count t.level b t.high count is.high;
      budgets = low-order t.level b t.high most;
    }
with_budget-IsTask High b t is own least most =
    let low = is.low.0 in
    record {
      name = is.name;
      period = is.period;
      low = is.low;
      high = (omega (arith, low, least), omega (arith, most));
      budgets = subst (λ l. InOrder l t.low b) (sym own) least;
    }

low_low-grows : (which : Budget) (t : Task) (r s : ℕ) → r ≤ s → low_low (with_budget which r t) ≤ low_low (with_budget which s t)
low_low-grows Low t r s h = by_level-grows t.level r 0 s 0 h (omega arith)
low_low-grows High t r s h = omega arith

high_low-grows : (which : Budget) (t : Task) (r s : ℕ) → r ≤ s → high_low (with_budget which r t) ≤ high_low (with_budget which s t)
high_low-grows Low t r s h = by_level-grows t.level 0 r 0 s (omega arith) h
high_low-grows High t r s h = omega arith

high_high-grows : (which : Budget) (t : Task) (r s : ℕ) → r ≤ s → high_high (with_budget which r t) ≤ high_high (with_budget which s t)
high_high-grows Low t r s h = by_level-grows t.level 0 (by_level t.level r t.high) 0 (by_level t.level s t.high) (omega arith) (by_level-grows t.level r t.high s t.high h (omega arith))
high_high-grows High t r s h = by_level-grows t.level 0 r 0 s (omega arith) h

-- law: loads that are no greater than admitted ones are admitted
pub less-load-admitted : LessLoadIsAdmitted
less-load-admitted n a b c x y z low high_low high h = looser-admitted n n a b c x y z (omega arith) low high_low high h

-- a load over the product of the periods is no more with a lower budget
less : (budget : Task → ℕ) (which : Budget) (set : List Task) (i : ℕ) (t : Task) (r s : ℕ) → slice_get set i ≡ Some t
    → budget (with_budget which r t) ≤ budget (with_budget which s t)
    → load budget (product (changed (with_budget which r) i set)) (changed (with_budget which r) i set)
    ≤ load budget (product (changed (with_budget which s) i set)) (changed (with_budget which s) i set)
less budget which set i t r s at grows =
    let kr = with_budget-Keeps which r in
    let ks = with_budget-Keeps which s in
    rw (product-changed (with_budget which r) i set kr, product-changed (with_budget which s) i set ks)
    (load-less budget (product set) (with_budget which r) (with_budget which s) i set t kr ks at grows)

-- law: a set that is admitted with some budget of a task is admitted with each lower one
pub less-admitted : LessIsAdmitted
unfolding published
less-admitted which set k t r s is le h =
    let at = at-index set k t is in
    let i : ℕ = k - 1 in
    let small = set_with which set k r in
    let large = set_with which set k s in
    let same : product large ≡ product small = product-changed (with_budget which s) i set (with_budget-Keeps which s) ∙ sym (product-changed (with_budget which r) i set (with_budget-Keeps which r)) in
    subst (λ n. is_some (rule_of n (load_ll small) (load_hl small) (load_hh small)) ≡ true) same
    (less-load-admitted (product large) (load_ll large) (load_hl large) (load_hh large) (load_ll small) (load_hl small) (load_hh small)
    (less low_low which set i t r s at (low_low-grows which t r s le)) (less high_low which set i t r s at (high_low-grows which t r s le))
    (less high_high which set i t r s at (high_high-grows which t r s le)) h)

-- the loads of a set are small
budget-small : (set : List Task) (budget : Task → ℕ) (loads : Loads) → BelongTo set loads → ((t : Task) → IsTask t → budget t ≤ 2 ^ 32)
    → load budget loads.lcm set ≤ 2 ^ 39 * loads.lcm
budget-small set budget loads b most =
    let all = load-small budget loads.lcm set most b.set.each in
    let few : length set * (2 ^ 32 * loads.lcm) ≤ 128 * (2 ^ 32 * loads.lcm) = mul-le-mul_right (2 ^ 32 * loads.lcm) b.set.few in
    omega (arith, all, few)

pub AreSmall-of : (set : List Task) (loads : Loads) → BelongTo set loads → AreSmall loads
AreSmall-of set loads b =
    let sums = AreSums-from_BelongTo set loads b in
    record {
      above = b.above;
      within = b.within;
      low_low = rw sums.low_low (budget-small set low_low loads b (λ x is. by_level-most x.level x.low 0 (2 ^ 32) (let low = is.low.1 in omega (arith, low)) (omega arith)));
      high_low = rw sums.high_low (budget-small set high_low loads b (λ x is. by_level-most x.level 0 x.low (2 ^ 32) (omega arith) (let low = is.low.1 in omega (arith, low))));
      high_high = rw sums.high_high (budget-small set high_high loads b (λ x is. by_level-most x.level 0 x.high (2 ^ 32) (omega arith) (let high = is.high.1 in omega (arith, high))));
    }

-- what a task of the set asks for is a part of the loads
pub IsPart-of : (set : List Task) (k : ℕ) (t : Task) (loads : Loads) → BelongTo set loads → task_at set k ≡ Some t → IsPart t loads
IsPart-of set k t loads b is =
    let at = at-index set k t is in
    let sums = AreSums-from_BelongTo set loads b in
    let task = IsTask-at set (k - 1) t b.set.each at in
    record {
      period = (let some = task.period.0 in omega (arith, some));
      low_low = rw sums.low_low (load-part low_low loads.lcm (k - 1) set t at);
      high_low = rw sums.high_low (load-part high_low loads.lcm (k - 1) set t at);
      high_high = rw sums.high_high (load-part high_high loads.lcm (k - 1) set t at);
    }

-- law: a set is one with each other budget that the task may have
pub stays-a-set : StaysASet
stays-a-set which set k t b are is own least most =
    let at = at-index set k t is in
    let task = IsTask-at set (k - 1) t are.each at in
    changed-AreTasks (with_budget which b) (k - 1) set t (with_budget-Keeps which b) at are (with_budget-IsTask which b t task own least most)

-- the loads with the change belong to the set with the budget
pub set_with-BelongTo : (which : Budget) (b k : ℕ) (set : List Task) (t : Task) (old new : Loads) → BelongTo set old → task_at set k ≡ Some t → Has which t
    → least_of which t ≤ b → b ≤ most_of which t → DifferBy t (with_budget which b t) old new → BelongTo (set_with which set k b) new
set_with-BelongTo which b k set t old new belong is own least most differ =
    let at = at-index set k t is in
    let task = IsTask-at set (k - 1) t belong.set.each at in
    changed-BelongTo (with_budget which b) (k - 1) set t old new (with_budget-Keeps which b) at (with_budget-IsTask which b t task own least most) belong differ

-- what each element has at its index, and one more at the end, each element of the longer list has
pub each_more : {X : Type 0} (P : ℕ → X → Type 0) (xs : List X) (x : X) → ((i : ℕ) (y : X) → slice_get xs i ≡ Some y → P i y) → P (length xs) x
    → (i : ℕ) (y : X) → slice_get (xs ++ x ∷ []) i ≡ Some y → P i y
each_more P [] x each here zero y at = let same : x ≡ y = cc at in subst (P 0) same here
each_more P [] x each here (suc i) y at = absurd (cc at)
each_more P (z ∷ zs) x each here zero y at = each 0 y at
each_more P (z ∷ zs) x each here (suc i) y at = each_more (λ j w. P (suc j) w) zs x (λ j w e. each (suc j) w e) here i y at
