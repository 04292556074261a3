-- The capacity that `live_capacity` computes is not used up before its ticks have begun, since the periods
-- limit the releases.
use Rattle.std.proofs.Common.{◌≡◌, ℕ, zero, suc, ◌+◌, ◌*◌, ◌/◌, ◌<◌, ◌≤◌, ◌==◌, Bool, true, false, cond, List, [], ◌∷◌, Some, None, length, slice_get, drop, refl, ap, sym, ◌∙◌, subst, arith, eqb-true, ne_eqb, le_trans}
use Rattle.std.proofs.Common.{suc-mul}
use Rattle.std.proofs.Math.Nat.{le-div_iff_mul-le}
use Rattle.mc_model.proofs.Walk.{IsTask-at, drop_at}
use Rattle.std.proofs.lemmas.List.{drop_all}
use Rattle.std.specs.List.{AllByRecursion}
use Rattle.mc_task.specs.declared.task.Rule.{Rule}
use Rattle.mc_task.specs.declared.task.Task.{Task}
use Rattle.mc_task.specs.TaskSet.{IsTask, task_at}
use Rattle.mc_model.specs.declared.row.Row.{Row}
use Rattle.mc_model.specs.declared.row.Row.TheVariants as row
use Rattle.mc_model.specs.TaskNumbers.{period_in}
use Rattle.mc_model.specs.Rows.{ticks, releases, next_release}
use Rattle.mc_model.specs.Legal.{Legal}
use Rattle.mc_model.specs.Sums.{total}
use Rattle.mc_model.specs.Core.{State, places_used, tick_out}
use Rattle.mc_model.proofs.Steps.{release_fits}
use Rattle.mc_model.proofs.NumberedSums.{added, sum_numbered, sum-added, sum-below}
use Rattle.mc_model.proofs.Tasks.{task_at-next}
use Rattle.mode_core.specs.Shape.{IsSound}
use Rattle.mode_core.specs.Events.{is_full}
use Rattle.mode_core.proofs.CallerLemmas.{no_held}
use Rattle.task_threads.specs.LivePasses.{live_capacity}

-- a task's releases are at least its period apart
pub apart : (set : List Task) (rule : Rule) (g : List Row) (k : ℕ) → Legal set rule g → (releases g k * period_in (task_at set k) ≤ next_release set g k) × (next_release set g k ≤ ticks g + period_in (task_at set k))
apart set rule [] k legal = (omega arith, omega arith)
apart set rule (row.Tick j how ∷ g) k legal = let ih = apart set rule g k legal.2 in (ih.0, let b = ih.1 in omega (arith, b))
apart set rule (row.Idle ∷ g) k legal = let ih = apart set rule g k legal.2 in (ih.0, let b = ih.1 in omega (arith, b))
apart set rule (row.Release j kept ∷ g) k legal = go (apart set rule g k legal.2) (j.task.0 == k) refl
  where
    go : (releases g k * period_in (task_at set k) ≤ next_release set g k) × (next_release set g k ≤ ticks g + period_in (task_at set k)) → (b : Bool) → (j.task.0 == k) ≡ b
        → ((cond b 1 0 + releases g k) * period_in (task_at set k) ≤ cond b (ticks g + period_in (task_at set k)) (next_release set g k)) × (cond b (ticks g + period_in (task_at set k)) (next_release set g k) ≤ ticks g + period_in (task_at set k))
    go ih false is = (let s : (0 + releases g k) * period_in (task_at set k) ≡ releases g k * period_in (task_at set k) = ap (λ (n : ℕ). n * period_in (task_at set k)) (omega arith) in subst (λ (n : ℕ). n ≤ next_release set g k) (sym s) ih.0, ih.1)
    go ih true is =
        let soon : next_release set g j.task.0 ≤ ticks g = (release_fits set rule j kept g legal.1).soon in
        let here : next_release set g k ≤ ticks g = subst (λ (i : ℕ). next_release set g i ≤ ticks g) (eqb-true j.task.0 k is) soon in
        let t : ℕ = period_in (task_at set k) in
        let r : ℕ = releases g k in
        let a : r * t ≤ next_release set g k = ih.0 in
        let s : (1 + r) * t ≡ suc r * t = ap (λ (n : ℕ). n * t) (omega arith) in
        let e = suc-mul r t in
        (let g : (1 + r) * t ≤ ticks g + t = omega (arith, a, here, e, s) in g, omega arith)

-- rows are ticks, and releases of tasks of the set
all_rows : (set : List Task) (rule : Rule) (g : List Row) → Legal set rule g → length g ≤ ticks g + sum_numbered set (λ k. releases g k) 1
all_rows set rule [] legal = omega arith
all_rows set rule (row.Release j kept ∷ g) legal =
    let rest = all_rows set rule g legal.2 in
    let low = legal.0.0 in
    let high = legal.0.1 in
    let one = sum-added set (λ k. releases g k) j.task.0 1 1 low (omega (arith, high)) in
    let same = ap (λ (d : ℕ → ℕ). sum_numbered set d 1) counted in
    omega (arith, rest, one, same)
  where
    one_more : (b : Bool) (n : ℕ) → cond b (n + 1) n ≡ cond b 1 0 + n
    one_more true n = omega arith
    one_more false n = omega arith

    counted : added (λ k. releases g k) j.task.0 1 ≡ (λ k. releases (row.Release j kept ∷ g) k)
    counted = λ p k. one_more (j.task.0 == k) (releases g k) p
all_rows set rule (row.Tick j how ∷ g) legal = let rest = all_rows set rule g legal.2 in omega (arith, rest)
all_rows set rule (row.Idle ∷ g) legal = let rest = all_rows set rule g legal.2 in omega (arith, rest)

-- a task has at most as many releases as its period allows
few_of : (r t x n : ℕ) → 1 ≤ t → r * t ≤ x + t → x ≤ n → r ≤ n / t + 1
few_of zero t x n some h le = omega arith
few_of (suc q) t x n some h le =
    let e = suc-mul q t in
    let p : ℕ = q * t in
    let low : p ≤ n = omega (arith, h, e, le) in
    let f : q ≤ n / t = (le-div_iff_mul-le {k = t} {x = q} {y = n} (omega (arith, some))).1 low in
    omega (arith, f)

-- a legal trace has a row for each tick, and of each task no more releases than its period allows in n ticks
pub rows-le : (set : List Task) (rule : Rule) (g : List Row) (n : ℕ) → AllByRecursion IsTask set → Legal set rule g → ticks g ≤ n → length g ≤ ticks g + total (λ t. n / t.period + 1) set
rows-le set rule g n are legal before =
    let each : (k : ℕ) (t : Task) → slice_get set k ≡ Some t → releases g (1 + k) ≤ n / t.period + 1 = λ k t at.
    let a = apart set rule g (1 + k) legal in
    let is : period_in (task_at set (1 + k)) ≡ t.period = ap period_in (task_at-next set k ∙ at) in
    let some = (IsTask-at set k t are at).period.0 in
    let r : ℕ = releases g (1 + k) in
    few_of r t.period (ticks g) n some (subst (λ (p : ℕ). r * p ≤ ticks g + p) is (le_trans a.0 a.1)) before in
    let few = sum-below set (λ k. releases g k) (λ t. n / t.period + 1) 1 each in
    let rows = all_rows set rule g legal in
    omega (arith, few, rows)

-- the core of a live run has capacity for one more row until its ticks have begun
pub has_room : (s : State) (n : ℕ) → IsSound s → s.out ≡ None → s.places ≡ live_capacity s.set n → ticks s.rows < n → is_full s ≡ false
has_room s n sound out places more =
    let rows = rows-le s.set s.rule s.rows n sound.tasks.each sound.good.legal (omega (arith, more)) in
    let held : length s.held ≡ 0 = ap length (no_held s sound.good out) in
    let no_tick : tick_out s.out ≡ 0 = ap tick_out out in
    ne_eqb (places_used s) s.places (λ e. absurd (omega (arith, e, rows, held, no_tick, places, more)))

-- the capacity of a live run, added up task by task

pub capacity_more : (set : List Task) (i n m p : ℕ) (t : Task) → task_at set (i + 1) ≡ Some t → m + total (λ t. n / t.period + 1) (drop i set) ≡ p → m + (n / t.period + 1) + total (λ t. n / t.period + 1) (drop (i + 1) set) ≡ p
capacity_more set i n m p t at sum =
    let same : 1 + i ≡ i + 1 = omega arith in
    let here = drop_at set i t (sym (task_at-next set i) ∙ (ap (λ (k : ℕ). task_at set k) same ∙ at)) in
    let s : m + (n / t.period + 1 + total (λ (t : Task). n / t.period + 1) (drop (i + 1) set)) ≡ p = ap (λ (ts : List Task). m + total (λ (t : Task). n / t.period + 1) ts) (sym here) ∙ sum in
    omega (arith, s)

pub capacity_all : (set : List Task) (i n m p : ℕ) → length set ≤ i → m + total (λ t. n / t.period + 1) (drop i set) ≡ p → m ≡ p
capacity_all set i n m p end sum =
    let none = ap (λ (ts : List Task). total (λ (t : Task). n / t.period + 1) ts) (drop_all i set end) in
    omega (arith, sum, none)
