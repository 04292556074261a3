-- Going through the tasks of a list, one by one.
use Rattle.std.proofs.Common.{◌≡◌, ℕ, zero, suc, ◌+◌, ◌*◌, ◌/◌, ◌^◌, ◌<◌, ◌≤◌, ◌∙◌, ap, subst, arith, cond, List, [], ◌∷◌, Some, None, drop, length, get_or, slice_get, le-leb}
use Rattle.std.proofs.lemmas.Bool.{lt-leb}
use Rattle.std.proofs.lemmas.List.{drop_more, drop_all}
use Rattle.std.proofs.lemmas.Option.{slice_get_within, get_or_from_slice_get}
use Rattle.std.specs.List.{AllByRecursion}
use Rattle.mc_task.specs.declared.task.Task.{Task}
use Rattle.mc_task.specs.TaskSet.{IsTask}
use Rattle.tick_frac.specs.Numbers.{lcm}
use Rattle.mc_model.specs.Loads.{load, lcm_from, range_fault_from}

pub drop_at : (ts : List Task) (i : ℕ) (t : Task) → slice_get ts i ≡ Some t → drop i ts ≡ t ∷ drop (i + 1) ts
drop_at ts i t h = drop_more ts i t (slice_get_within ts i t h) ∙ ap (λ x. x ∷ drop (i + 1) ts) (get_or_from_slice_get ts i t t h)

each_at : (ts : List Task) (i : ℕ) (d : Task) → AllByRecursion IsTask ts → i < length ts → IsTask (get_or ts i d)
each_at [] i d each lt = absurd (omega arith)
each_at (x ∷ xs) zero d each lt = each.0
each_at (x ∷ xs) (suc i) d each lt = each_at xs i d (each.1) (omega arith)

pub IsTask-at : (ts : List Task) (i : ℕ) (t : Task) → AllByRecursion IsTask ts → slice_get ts i ≡ Some t → IsTask t
IsTask-at ts i t each h = subst (λ x. IsTask x) (get_or_from_slice_get ts i t t h) (each_at ts i t each (slice_get_within ts i t h))

pub lcm_more : (ts : List Task) (i m : ℕ) (t : Task) → slice_get ts i ≡ Some t → lcm_from m (drop i ts) ≡ lcm_from (lcm m t.period) (drop (i + 1) ts)
unfolding lcm_from
lcm_more ts i m t h = ap (λ xs. lcm_from m xs) (drop_at ts i t h)

pub range_more : (ts : List Task) (i n m : ℕ) (t : Task) → slice_get ts i ≡ Some t → lcm m t.period ≤ 2 ^ 60
    → range_fault_from n m (drop i ts) ≡ range_fault_from (n + 1) (lcm m t.period) (drop (i + 1) ts)
unfolding range_fault_from
range_more ts i n m t h small =
    ap (λ xs. range_fault_from n m xs) (drop_at ts i t h) ∙ ap (λ b. cond b (Some n) (range_fault_from (n + 1) (lcm m t.period) (drop (i + 1) ts))) (lt-leb _ _ (omega arith))

pub range_found : (ts : List Task) (i n m : ℕ) (t : Task) → slice_get ts i ≡ Some t → 2 ^ 60 < lcm m t.period → range_fault_from n m (drop i ts) ≡ Some n
unfolding range_fault_from
range_found ts i n m t h large =
    ap (λ xs. range_fault_from n m xs) (drop_at ts i t h) ∙ ap (λ b. cond b (Some n) (range_fault_from (n + 1) (lcm m t.period) (drop (i + 1) ts))) (le-leb _ _ large)

pub load_more : (budget : Task → ℕ) (n : ℕ) (ts : List Task) (i : ℕ) (t : Task) (done all : ℕ) → slice_get ts i ≡ Some t → done + load budget n (drop i ts) ≡ all
    → done + budget t * (n / t.period) + load budget n (drop (i + 1) ts) ≡ all
load_more budget n ts i t done all h inv =
    let here : load budget n (drop i ts) ≡ budget t * (n / t.period) + load budget n (drop (i + 1) ts) = ap (λ xs. load budget n xs) (drop_at ts i t h) in
    omega arith

pub lcm_end : (ts : List Task) (i m : ℕ) → length ts ≤ i → lcm_from m (drop i ts) ≡ m
unfolding lcm_from
lcm_end ts i m past = ap (λ xs. lcm_from m xs) (drop_all i ts past)

pub range_end : (ts : List Task) (i n m : ℕ) → length ts ≤ i → range_fault_from n m (drop i ts) ≡ None
unfolding range_fault_from
range_end ts i n m past = ap (λ xs. range_fault_from n m xs) (drop_all i ts past)
