-- How the rows and the pending jobs go on over many ticks, from one event to the next.
use Rattle.std.proofs.Common.{◌≡◌, ℕ, zero, suc, ◌+◌, ◌-◌, ◌*◌, ◌/◌, ◌%◌, ◌<◌, ◌≤◌, Bool, true, false, List, [], ◌∷◌, ◌++◌, cond, map, length, replicate, reverse, slice_get, Some, inl, inr, nat_lt, refl, ap, ap₂, ◌∙◌, subst, arith, le-leb}
use Rattle.std.proofs.lemmas.Bool.{cases_Bool, lt-leb}
use Rattle.std.proofs.lemmas.Bool.Decides.{nat_tests}
use Rattle.std.proofs.lemmas.Nat.{div-add-mod'}
use Rattle.std.proofs.Math.Nat.{mul-le-mul_right, lt_of_mul-lt-mul_right}
use Rattle.std.specs.List.{AllByRecursion}
use Rattle.mc_task.specs.declared.task.JobId.{JobId}
use Rattle.mc_model.specs.Rows.{same_job}
use Rattle.mc_model.proofs.Runs.{reverse-copies}
use Rattle.std.proofs.lemmas.List.{reverse-append}
use Rattle.mc_model.proofs.Lists.{Each-map, Each-filter}
use Rattle.demand_test.specs.declared.demand.Demand.{Demand}
use Rattle.demand_test.specs.declared.row.EdfRow.{EdfRow}
use Rattle.demand_test.specs.declared.row.EdfRow.TheVariants.{Tick, Idle}
use Rattle.demand_test.specs.declared.play.Job.{Job}
use Rattle.demand_test.specs.DemandSet.{IsIn, demand_at, period_in}
use Rattle.demand_test.specs.Runs.{released, releases}
use Rattle.demand_test.specs.Play.{Between, Awaits, OnTheWay, GoesFirst, with_left}
use Rattle.demand_test.proofs.Tasks.{period_of, some_at, demand_at-in}
use Rattle.demand_test.proofs.Membership.{in_map, in_filter, each_map}
use Rattle.demand_test.proofs.Played.{Leads, spent_one, has_ticks, spent, placed_more, tick_step, idle_step}

-- at a boundary at which no task releases, all tasks had their turn
quiet : (set : List Demand) (b c : ℕ) (h : List EdfRow) (js : List Job) → b < c → ((k : ℕ) → IsIn set k → c ≤ releases h k * period_of set k) → Between set b 0 h js → Between set b (length set) h js
quiet set b c h js l away w = record {
  run = w.run;
  boundary = w.boundary;
  multiples = w.multiples;
  order = w.order;
  whole = w.whole;
  lowest = w.lowest;
  placed = placed_more b 0 (length set) (released h) (omega arith) w.placed;
  next = λ k number. let n = rw (lt-leb k 0 number.0) at (w.next k number) in rw (le-leb k (length set) number.1) (omega (arith, away k number, n));
  jobs = w.jobs;
  due = w.due;
  left = w.left;
}

-- rows that have come to boundary b are on the way to c, if no task releases before c
pub later : (set : List Demand) (b c : ℕ) (h : List EdfRow) (js : List Job) → b ≤ c → ((k : ℕ) → IsIn set k → c ≤ releases h k * period_of set k) → Between set b 0 h js → OnTheWay set b c h js
later set b c h js l away w = record {
  within = l;
  before = λ less. record { so = quiet set b c h js less away w; away = away };
  come = λ e. w;
}

-- a row after n rows equal to it may as well stand before them
replicate-between : (n : ℕ) (row : EdfRow) (h : List EdfRow) → replicate n row ++ (row ∷ h) ≡ row ∷ (replicate n row ++ h)
replicate-between zero row h = refl
replicate-between (suc n) row h = ap (λ (r : List EdfRow). row ∷ r) (replicate-between n row h)

-- n + 1 idle ticks, while no job is pending, lead on the way to c
pub idle_span :
    (set : List Demand) (n b c : ℕ) (h : List EdfRow) (js : List Job) → js ≡ [] → b + suc n ≤ c → Awaits set b c h js → OnTheWay set (b + suc n) c (replicate (suc n) Idle ++ h) js
idle_span set zero b c h js none l w =
    later set (b + 1) c (Idle ∷ h) js (omega arith) w.away (idle_step set b h js none w.so)
idle_span set (suc n) b c h js none l w =
    let next : OnTheWay set (b + 1) c (Idle ∷ h) js = later set (b + 1) c (Idle ∷ h) js (omega arith) w.away (idle_step set b h js none w.so) in
    let rest : OnTheWay set (b + 1 + suc n) c (replicate (suc n) Idle ++ (Idle ∷ h)) js = idle_span set n (b + 1) c (Idle ∷ h) js none (omega arith) (next.before (omega arith)) in
    let e : b + 1 + suc n ≡ b + suc (suc n) = omega arith in
    rw (replicate-between (suc n) Idle h, e) at rest

-- the ticks left to a job after one tick and n more
left_more : (m : Bool) (l n : ℕ) → cond m (cond m (l - 1) l - n) (cond m (l - 1) l) ≡ cond m (l - suc n) l
left_more true l n = omega arith
left_more false l n = refl

gone : (m : Bool) (l n : ℕ) → nat_lt 0 (cond m (l - 1) l) ≡ false → nat_lt 0 (cond m (l - suc n) l) ≡ false
gone true l n e = grind (arith, nat_tests)
gone false l n e = e

-- one tick of a job and n more are 1 + n ticks of it
spent_more : (n : ℕ) (id : JobId) (js : List Job) → spent n id (spent 1 id js) ≡ spent (suc n) id js
spent_more n id [] = refl
spent_more n id (p ∷ ps) =
    let rest : spent n id (spent 1 id ps) ≡ spent (suc n) id ps = spent_more n id ps in
    let same : spent_one n id (spent_one 1 id p) ≡ spent_one (suc n) id p =
    ap (with_left p) (left_more (same_job id p.id) p.left n) in
    elim (cases_Bool (has_ticks (spent_one 1 id p))) [
      | inl some ↦ rw some (ap₂ {C = List Job} (λ (q : Job) (qs : List Job). cond (has_ticks q) (q ∷ qs) qs) same rest)
      | inr none ↦ rw (none, gone (same_job id p.id) p.left n none) rest
    ]

-- the first job goes before the others after a tick of its own too
first_spent : (js : List Job) (p : Job) → 2 ≤ p.left → Leads js p → Leads (spent 1 p.id js) (spent_one 1 p.id p)
first_spent js p two f =
    let id = p.id in
    let some : has_ticks (spent_one 1 id p) ≡ true = still (same_job id id) p.left two in
    record {
      one = in_filter has_ticks (spent_one 1 id p) (map (spent_one 1 id) js) (in_map (spent_one 1 id) p js f.one) some;
      before = Each-filter (λ q. GoesFirst (spent_one 1 id p) q) has_ticks (map (spent_one 1 id) js)
          (each_map (λ q. GoesFirst (spent_one 1 id p) q) (spent_one 1 id) js
          (Each-map {P = λ q. GoesFirst p q} (λ q g. record { earliest = g.earliest; tie = g.tie }) js f.before));
    }
  where
    still : (m : Bool) (l : ℕ) → 2 ≤ l → nat_lt 0 (cond m (l - 1) l) ≡ true
    still m l two = grind (arith, nat_tests)

left_enough : (m : Bool) (l n : ℕ) → suc (suc n) ≤ l → suc n ≤ cond m (l - 1) l
left_enough true l n e = omega arith
left_enough false l n e = omega arith

-- a tick of the first job leads on the way to c, if no task releases before c
tick_on : (set : List Demand) (b c : ℕ) (h : List EdfRow) (js : List Job) (p : Job) → Leads js p → b + 1 ≤ c → Awaits set b c h js → OnTheWay set (b + 1) c (Tick p.id false ∷ h) (spent 1 p.id js)
tick_on set b c h js p f l w = later set (b + 1) c (Tick p.id false ∷ h) (spent 1 p.id js) l w.away (tick_step set b h js p f w.so)

-- one tick of a job and n more of it lead as far as n + 1 ticks
tick_then :
    (set : List Demand) (n b c : ℕ) (h : List EdfRow) (js : List Job) (id : JobId) →
    OnTheWay set (b + 1 + n) c (replicate n (Tick id false) ++ (Tick id false ∷ h)) (spent n id (spent 1 id js)) →
    OnTheWay set (b + suc n) c (replicate (suc n) (Tick id false) ++ h) (spent (suc n) id js)
tick_then set n b c h js id w =
    let e : b + 1 + n ≡ b + suc n = omega arith in
    let jobs = subst (λ (ps : List Job). OnTheWay set (b + 1 + n) c (replicate n (Tick id false) ++ (Tick id false ∷ h)) ps) (spent_more n id js) w in
    let rows = subst (λ (r : List EdfRow). OnTheWay set (b + 1 + n) c r (spent (suc n) id js)) (replicate-between n (Tick id false) h) jobs in
    subst (λ (m : ℕ). OnTheWay set m c (replicate (suc n) (Tick id false) ++ h) (spent (suc n) id js)) e rows

-- n + 1 ticks of the first job, which has them left, lead on the way to c
pub tick_span :
    (set : List Demand) (n b c : ℕ) (h : List EdfRow) (js : List Job) (p : Job) → Leads js p → suc n ≤ p.left → b + suc n ≤ c → Awaits set b c h js →
    OnTheWay set (b + suc n) c (replicate (suc n) (Tick p.id false) ++ h) (spent (suc n) p.id js)
tick_span set zero b c h js p f some l w = tick_on set b c h js p f l w
tick_span set (suc n) b c h js p f some l w =
    let next = (tick_on set b c h js p f (omega (arith, l)) w).before (omega (arith, l)) in
    let rest = tick_span set n (b + 1) c (Tick p.id false ∷ h) (spent 1 p.id js) (spent_one 1 p.id p) (first_spent js p (omega (arith, some)) f)
    (left_enough (same_job p.id p.id) p.left n some) (omega (arith, l)) next in
    tick_then set (suc n) b c h js p.id rest

-- a positive number of idle ticks, while no job is pending, leads on the way to c
pub idle_ticks :
    (set : List Demand) (n b c : ℕ) (h : List EdfRow) (js : List Job) → js ≡ [] → 1 ≤ n → b + n ≤ c → Awaits set b c h js → OnTheWay set (b + n) c (replicate n Idle ++ h) js
idle_ticks set zero b c h js none some l w = absurd (omega arith)
idle_ticks set (suc n) b c h js none some l w = idle_span set n b c h js none l w

pub first_ticks :
    (set : List Demand) (n b c : ℕ) (h : List EdfRow) (js : List Job) (p : Job) → Leads js p → 1 ≤ n → n ≤ p.left → b + n ≤ c → Awaits set b c h js →
    OnTheWay set (b + n) c (replicate n (Tick p.id false) ++ h) (spent n p.id js)
first_ticks set zero b c h js p f some left l w = absurd (omega arith)
first_ticks set (suc n) b c h js p f some left l w = tick_span set n b c h js p f left l w

-- a multiple of p above b is at least p more than the last multiple up to b
multiple_above : (b m p : ℕ) → b + 1 ≤ m * p → b + p ≤ m * p + b % p
multiple_above b m p above =
    let w : b / p * p + b % p ≡ b = div-add-mod' b p in
    let l : b / p < m = lt_of_mul-lt-mul_right p (omega arith) in
    let g : (b / p + 1) * p ≤ m * p = mul-le-mul_right p (omega arith) in
    omega arith

-- what holds of each task holds of task number k
each_number : (P : Demand → Type 0) (set : List Demand) (k : ℕ) → AllByRecursion P set → IsIn set k → (t : Demand) × ((demand_at set k ≡ Some t) × P t)
each_number P set k h i =
    let t = some_at set (k - 1) (omega (arith, i)) in
    (t.0, (demand_at-in set k i.0 ∙ t.1, at_place P set (k - 1) t.0 h t.1))
  where
    at_place : (P : Demand → Type 0) (ts : List Demand) (i : ℕ) (t : Demand) → AllByRecursion P ts → slice_get ts i ≡ Some t → P t
    at_place P [] i t h e = cc
    at_place P (u ∷ us) zero t h e = let same : u ≡ t = cc in subst P same h.0
    at_place P (u ∷ us) (suc i) t h e = at_place P us i t h.1 e

-- after the releases of a boundary no task releases before the next multiple of its period
pub away_from :
    (set : List Demand) (b c : ℕ) (h : List EdfRow) (js : List Job) → AllByRecursion (λ t. c + b % t.period ≤ b + t.period) set → b < c →
    Between set b (length set) h js → OnTheWay set b c h js
away_from set b c h js each l w = record {
  within = omega arith;
  before = λ less. record { so = w; away = away };
  come = λ e. absurd (omega arith);
}
  where
    away : (k : ℕ) → IsIn set k → c ≤ releases h k * period_of set k
    away k number =
        let t = each_number (λ t. c + b % t.period ≤ b + t.period) set k each number in
        let p : period_of set k ≡ t.0.period = ap period_in t.1.0 in
        let n = rw (le-leb k (length set) number.1) at (w.next k number) in
        rw p (let m : b + 1 ≤ releases h k * t.0.period = rw p at n.0 in omega (arith, multiple_above b (releases h k) t.0.period m, t.1.1))

-- n more equal rows at the end are the newest rows
pub reversed-times : (rows : List EdfRow) (n : ℕ) (row : EdfRow) → reverse (rows ++ replicate n row) ≡ replicate n row ++ reverse rows
reversed-times rows n row = reverse-append rows (replicate n row) ∙ ap (λ (r : List EdfRow). r ++ reverse rows) (reverse-copies n row)
