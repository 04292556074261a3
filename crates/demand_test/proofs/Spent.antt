-- Ticks of a job change the list of pending jobs at that job's index alone.
use Rattle.std.proofs.Common.{◌≡◌, ℕ, zero, suc, ◌+◌, ◌-◌, ◌≤◌, true, false, List, [], ◌∷◌, ◌++◌, Some, cond, length, map, remove, replicate, reverse, slice_get, slice_set, nat_lt, inl, inr, refl, ap, ◌∙◌, subst, arith, lt-ltb}
use Rattle.std.proofs.lemmas.Bool.{cases_Bool}
use Rattle.std.proofs.lemmas.Bool.Decides.{nat_tests}
use Rattle.std.proofs.lemmas.List.{reverse-append}
use Rattle.mc_task.specs.declared.task.JobId.{JobId}
use Rattle.mc_model.specs.Rows.{same_job}
use Rattle.mc_model.specs.Sums.{total}
use Rattle.mc_model.proofs.Lists.{Each, Each-map}
use Rattle.mc_model.proofs.Sums.{total-append, total-map, less_filtered}
use Rattle.mc_model.proofs.Jobs.{same_job-refl}
use Rattle.demand_test.specs.declared.demand.Demand.{Demand}
use Rattle.demand_test.specs.declared.row.EdfRow.{EdfRow}
use Rattle.demand_test.specs.declared.row.EdfRow.TheVariants.{Tick}
use Rattle.demand_test.specs.declared.play.Job.{Job}
use Rattle.demand_test.specs.declared.play.Place.{Place}
use Rattle.demand_test.specs.DemandSet.{demand_at, budget_in}
use Rattle.demand_test.specs.Runs.{Released, released, used, is_still_pending, pending}
use Rattle.demand_test.specs.Play.{Between, Awaits, OnTheWay, IsAt, IsFirst, as_released, with_left, spent_at}
use Rattle.demand_test.proofs.Membership.{in_place, each_of}
use Rattle.demand_test.proofs.Played.{Leads, spent}
use Rattle.demand_test.proofs.Spans.{first_ticks}
use Rattle.demand_test.proofs.Counts.{times, counted}

-- how many of the jobs have this name
abbrev named : JobId → List Job → ℕ
named id js = total (λ p. cond (same_job id p.id) 1 0) js

-- a list in which no job has the name stays as it is
untouched : (n : ℕ) (id : JobId) (js : List Job) → named id js ≡ 0 → Each (λ p. 1 ≤ p.left) js → spent n id js ≡ js
untouched n id [] none some = refl
untouched n id (p ∷ ps) none some = elim (cases_Bool (same_job id p.id)) [
  | inl m ↦ absurd (let e = rw m at none in omega (arith, e))
  | inr m ↦ (let others : named id ps ≡ 0 = let e = rw m at none in omega (arith, e) in
      let rest : spent n id ps ≡ ps = untouched n id ps others some.1 in
      let more : nat_lt 0 p.left ≡ true = lt-ltb 0 p.left some.0 in
      rw (m, more) (ap (λ (qs : List Job). p ∷ qs) rest))
]

-- the job at an index has its name
named_at : (js : List Job) (i : ℕ) (p : Job) → slice_get js i ≡ Some p → 1 ≤ named p.id js
named_at [] i p at = cc
named_at (q ∷ qs) zero p at = let same : q ≡ p = cc in rw (same, same_job-refl p.id) (omega arith)
named_at (q ∷ qs) (suc i) p at = omega (arith, named_at qs i p at)

has_more : (l n : ℕ) → nat_lt 0 (l - n) ≡ nat_lt n l
has_more l n = grind (arith, nat_tests)

-- ticks of the first job change that job alone, if no other job has its name
spent_head : (n : ℕ) (p : Job) (ps : List Job) → named p.id (p ∷ ps) ≤ 1 → Each (λ q. 1 ≤ q.left) ps → spent n p.id (p ∷ ps) ≡ cond (nat_lt n p.left) (with_left p (p.left - n) ∷ ps) ps
spent_head n p ps once some =
    let mine : same_job p.id p.id ≡ true = same_job-refl p.id in
    let none : named p.id ps ≡ 0 = let o = rw mine at once in omega (arith, o) in
    rw (mine, untouched n p.id ps none some, has_more p.left n) refl

-- ticks of the job at an index change that job alone, if no other job has its name
spent_here :
    (n : ℕ) (js : List Job) (i : ℕ) (p : Job) → slice_get js i ≡ Some p → named p.id js ≤ 1 → Each (λ q. 1 ≤ q.left) js → spent n p.id js ≡ cond (nat_lt n p.left) (slice_set js i (with_left p (p.left - n))) (remove js i)
spent_here n [] i p at once some = cc
spent_here n (q ∷ qs) zero p at once some =
    let same : q ≡ p = cc in
    let head = spent_head n p qs (rw same at once) some.1 in
    rw same head
spent_here n (q ∷ qs) (suc i) p at once some = elim (cases_Bool (same_job p.id q.id)) [
  | inl m ↦ absurd (let o = rw m at once in omega (arith, o, named_at qs i p at))
  | inr m ↦ (let others : named p.id qs ≤ 1 = let o = rw m at once in omega (arith, o) in
      let rest = spent_here n qs i p at others some.1 in
      let more : nat_lt 0 q.left ≡ true = lt-ltb 0 q.left some.0 in
      rw (m, more, rest) (elim (nat_lt n p.left)
      as (λ b. q ∷ cond b (slice_set qs i (with_left p (p.left - n))) (remove qs i) ≡ cond b (q ∷ slice_set qs i (with_left p (p.left - n))) (q ∷ remove qs i))
      [ true ↦ refl | false ↦ refl ]))
]

total-reverse : {X : Type 0} (f : X → ℕ) → (xs : List X) → total f (reverse xs) ≡ total f xs
total-reverse f [] = refl
total-reverse f (x ∷ xs) =
    let ih : total f (reverse xs) ≡ total f xs = total-reverse f xs in
    let last : total f (reverse xs) + (f x + 0) ≡ f x + total f xs = omega arith in
    ap (total f) (reverse-append (x ∷ []) xs) ∙ total-append f (reverse xs) (x ∷ []) ∙ last

-- no two pending jobs have one name
once_named : (set : List Demand) (b i : ℕ) (h : List EdfRow) (js : List Job) → Between set b i h js → (id : JobId) → named id js ≤ 1
once_named set b i h js w id =
    let f : Released → ℕ = λ x. cond (same_job id x.job) 1 0 in
    let listed : times id (reverse (map as_released js)) ≡ named id js = total-reverse f (map as_released js) ∙ total-map f as_released js in
    let few : times id (pending set h) ≤ times id (released h) = less_filtered f (is_still_pending set h) (released h) in
    let once : times id (released h) ≤ 1 = (counted set h w.run).once id in
    let same : times id (reverse (map as_released js)) ≡ times id (pending set h) = ap (times id) w.jobs in
    omega arith

-- ticks of a pending job change the list at its index alone
pub spent_place : (set : List Demand) (b i : ℕ) (h : List EdfRow) (js : List Job) (n : ℕ) (place : Place) → IsAt js place → Between set b i h js → spent n place.job.id js ≡ spent_at n place js
spent_place set b i h js n place at w =
    spent_here n js place.index place.job at (once_named set b i h js w place.job.id)
    (Each-map {P = λ p. (1 ≤ p.left) × (p.left + used h p.id ≡ budget_in (demand_at set p.id.task.0))} (λ p l. l.0) js w.left)

-- the job at a place has a tick left
pub place_left : (set : List Demand) (b i : ℕ) (h : List EdfRow) (js : List Job) (place : Place) → IsFirst js place → Between set b i h js → 1 ≤ place.job.left
place_left set b i h js place f w =
    (each_of (λ p. (1 ≤ p.left) × (p.left + used h p.id ≡ budget_in (demand_at set p.id.task.0))) place.job js w.left (in_place js place.index place.job f.here)).0

-- n ticks of the first job, which has them left, lead on the way to c
pub place_ticks :
    (set : List Demand) (n b c : ℕ) (h : List EdfRow) (js : List Job) (place : Place) → IsFirst js place → 1 ≤ n → n ≤ place.job.left → b + n ≤ c → Awaits set b c h js →
    OnTheWay set (b + n) c (replicate n (Tick place.job.id false) ++ h) (spent_at n place js)
place_ticks set n b c h js place f some left l w =
    let leads : Leads js place.job = record { one = in_place js place.index place.job f.here; before = f.first } in
    let e : spent n place.job.id js ≡ spent_at n place js = spent_place set b (length set) h js n place f.here w.so in
    subst (OnTheWay set (b + n) c (replicate n (Tick place.job.id false) ++ h)) e (first_ticks set n b c h js place.job leads some left l w)
