-- The stored needs of the tasks, at the start and after one more row.
use Rattle.std.proofs.Common.{◌≡◌, ◌≢◌, ℕ, zero, suc, ◌+◌, ◌-◌, ◌<◌, ◌≤◌, Bool, true, false, List, [], ◌∷◌, Some, length, cond, filter, map, slice_get, slice_index_or, set, get_or, get_or-set_same, get_or-set_other, take, replicate, ◌==◌, refl, sym, ap, ◌∙◌, subst, arith, eqb-true, eq-eqb, ne_eqb}
use Rattle.std.proofs.lemmas.List.{length-set}
use Rattle.std.proofs.lemmas.Option.{slice_get-get_or}
use Rattle.std.proofs.lemmas.Bool.{eqb-false}
use Rattle.mc_model.specs.declared.work.WorkRow.{WorkRow}
use Rattle.mc_model.specs.Follows.{needs_of, need_of}
use Rattle.timetable.specs.Needs.{rows_of, latest_need}

-- The start.

-- each entry of a list of equal numbers is that number
get-replicate : (n i x : ℕ) → i < n → slice_get (replicate n x) i ≡ Some x
get-replicate zero i x h = absurd (omega (arith, h))
get-replicate (suc n) zero x h = refl
get-replicate (suc n) (suc i) x h = get-replicate n i x (omega (arith, h))

-- a task has no row among the first 0 rows of the work
pub rows-none : (work : List WorkRow) (k : ℕ) → rows_of k (take 0 work) ≡ 0
rows-none [] k = refl
rows-none (w ∷ ws) k = refl

-- the stored needs before the first row are right
pub tracks_start : (work : List WorkRow) (i : ℕ) → i < 128 → slice_get (replicate 128 0) i ≡ Some (latest_need work 0 (i + 1))
tracks_start work i h =
    get-replicate 128 i 0 h ∙ sym (ap (λ (c : ℕ). Some (need_of work (i + 1) c)) (rows-none work (i + 1)))

-- One more row.

-- a task has one more row, if the next row is its own
pub rows-more : (work : List WorkRow) (i k : ℕ) (w : WorkRow) → slice_get work i ≡ Some w → rows_of k (take (suc i) work) ≡ cond (w.task.0 == k) 1 0 + rows_of k (take i work)
rows-more [] i k w e = cc
rows-more (v ∷ vs) zero k w e =
    let d : v ≡ w = cc in
    subst (λ (x : WorkRow). cond (v.task.0 == k) 1 0 + rows_of k (take 0 vs) ≡ cond (x.task.0 == k) 1 0 + 0) d (ap (λ (n : ℕ). cond (v.task.0 == k) 1 0 + n) (rows-none vs k))
rows-more (v ∷ vs) (suc i) k w e =
    omega (arith, rows-more vs i k w e)

-- the need of the next row stands after those of its task's rows before it
need-at : (work : List WorkRow) (i k : ℕ) (w : WorkRow) → slice_get work i ≡ Some w → w.task.0 ≡ k → slice_index_or (needs_of work k) (rows_of k (take i work)) 0 ≡ w.need
need-at [] i k w e t = cc
need-at (v ∷ vs) zero k w e t =
    let d : v ≡ w = cc in
    rw (eq-eqb v.task.0 k (cc (d, t))) (ap (λ (x : WorkRow). x.need) d)
need-at (v ∷ vs) (suc i) k w e t = go (need-at vs i k w e t) (v.task.0 == k)
  where
    one_more : (r : ℕ) → 1 + r ≡ suc r
    one_more r = omega arith

    no_more : (r : ℕ) → 0 + r ≡ r
    no_more r = omega arith

    go : slice_index_or (needs_of vs k) (rows_of k (take i vs)) 0 ≡ w.need → (b : Bool) →
        slice_index_or (map (λ (x : WorkRow). x.need) (cond b (v ∷ filter (λ (x : WorkRow). x.task.0 == k) vs) (filter (λ (x : WorkRow). x.task.0 == k) vs))) (cond b 1 0 + rows_of k (take i vs)) 0 ≡ w.need
    go ih true = ap (λ (n : ℕ). slice_index_or (v.need ∷ needs_of vs k) n 0) (one_more (rows_of k (take i vs))) ∙ ih
    go ih false = ap (λ (n : ℕ). slice_index_or (needs_of vs k) n 0) (no_more (rows_of k (take i vs))) ∙ ih

-- the need of the next row is that of its task's job with its number
need-more : (work : List WorkRow) (i k : ℕ) (w : WorkRow) → slice_get work i ≡ Some w → w.task.0 ≡ k → need_of work k (rows_of k (take i work) + 1) ≡ w.need
need-more work i k w e t =
    rw (ne_eqb (rows_of k (take i work) + 1) 0 (omega arith)) (ap (λ (c : ℕ). slice_index_or (needs_of work k) c 0) back ∙ need-at work i k w e t)
  where
    back : rows_of k (take i work) + 1 - 1 ≡ rows_of k (take i work)
    back = omega arith

-- the stored needs are right after `taken` rows, as a list by task numbers
abbrev pub Tracked : List WorkRow → ℕ → List ℕ → Type 0
Tracked work taken kept = (i : ℕ) → i < 128 → slice_get kept i ≡ Some (latest_need work taken (i + 1))

-- the stored needs are right after one more row
pub tracks_noted : (work : List WorkRow) (taken : ℕ) (w : WorkRow) (kept : List ℕ) → length kept ≡ 128 → Tracked work taken kept → slice_get work taken ≡ Some w → 1 ≤ w.task.0 → w.task.0 ≤ 128 → Tracked work (taken + 1) (set kept (w.task.0 - 1) w.need)
tracks_noted work taken w kept len tracks e p q i h = by (w.task.0 == i + 1) refl
  where
    place : ℕ
    place = w.task.0 - 1

    inside : slice_get (set kept place w.need) i ≡ Some (get_or (set kept place w.need) i w.need)
    inside = slice_get-get_or (set kept place w.need) i w.need (omega (arith, length-set kept place w.need, len, h))

    one : taken + 1 ≡ suc taken
    one = omega arith

    more : (b : Bool) → w.task.0 == i + 1 ≡ b → rows_of (i + 1) (take (taken + 1) work) ≡ cond b 1 0 + rows_of (i + 1) (take taken work)
    more b m =
        ap (λ (n : ℕ). rows_of (i + 1) (take n work)) one
        ∙ (rows-more work taken (i + 1) w e ∙ ap (λ (x : Bool). cond x 1 0 + rows_of (i + 1) (take taken work)) m)

    by : (b : Bool) → w.task.0 == i + 1 ≡ b → slice_get (set kept place w.need) i ≡ Some (latest_need work (taken + 1) (i + 1))
    by true m =
        let same : w.task.0 ≡ i + 1 = eqb-true _ _ m in
        let at : i ≡ place = omega (arith, same) in
        let need : w.need ≡ need_of work (i + 1) (rows_of (i + 1) (take taken work) + 1) = sym (need-more work taken (i + 1) w e same) in
        let rows : rows_of (i + 1) (take taken work) + 1 ≡ rows_of (i + 1) (take (taken + 1) work) = let r = more true m in omega (arith, r) in
        inside
        ∙ ap (λ (x : ℕ). Some x)
        (subst (λ (j : ℕ). get_or (set kept place w.need) j w.need ≡ w.need) (sym at) (get_or-set_same kept place w.need w.need (omega (arith, len, p, q)))
        ∙ (need ∙ ap (λ (c : ℕ). need_of work (i + 1) c) rows))
    by false m =
        let apart : w.task.0 ≢ i + 1 = eqb-false _ _ m in
        let other : i ≢ place = λ (x : i ≡ place). apart (omega (arith, x, p)) in
        let rows : rows_of (i + 1) (take taken work) ≡ rows_of (i + 1) (take (taken + 1) work) = let r = more false m in omega (arith, r) in
        inside
        ∙ (ap (λ (x : ℕ). Some x) (get_or-set_other kept place i w.need w.need other)
        ∙ (sym (slice_get-get_or kept i w.need (omega (arith, len, h)))
        ∙ (tracks i h ∙ ap (λ (c : ℕ). Some (need_of work (i + 1) c)) rows)))
