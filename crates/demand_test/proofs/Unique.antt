-- Each length has at most one counterexample.
use Rattle.std.proofs.Common.{◌≡◌, ℕ, ◌+◌, ◌-◌, ◌*◌, ◌<◌, ◌≤◌, Bool, true, false, ◌&&◌, ◌||◌, List, [], ◌∷◌, cond, nat_le, length, inl, inr, refl, sym, ap, ap₂, ◌∙◌, subst, arith, le-leb, ne_eqb, eq-eqb, zero-add}
use Rattle.std.proofs.Math.Nat.{lt_of_mul-lt-mul_right, eq_of_mul-eq-mul_right}
use Rattle.std.proofs.lemmas.Bool.{cases_eq, cases_lt, lt-leb, or_parts}
use Rattle.std.specs.List.{AllByRecursion}
use Rattle.mc_task.specs.declared.task.JobId.{JobId}
use Rattle.mc_model.specs.Rows.{same_job}
use Rattle.mc_model.proofs.Lists.{Each, Each-map, Each-both}
use Rattle.mc_model.proofs.Jobs.{same_job-refl}
use Rattle.demand_test.specs.declared.demand.Demand.{Demand}
use Rattle.demand_test.specs.declared.row.EdfRow.{EdfRow}
use Rattle.demand_test.specs.declared.row.EdfRow.TheVariants.{Release, Tick, Idle}
use Rattle.demand_test.specs.DemandSet.{IsDemand, IsIn, demand_at, deadline_in}
use Rattle.demand_test.specs.Runs.{ticks, Released, released, releases, is_marked, pending, deadline}
use Rattle.demand_test.specs.EdfRuns.{MayRun, IsEdfSchedule}
use Rattle.demand_test.specs.Counter.{AtMultiples, InTaskOrder, IsLowest, LowestFirst, IsCounter}
use Rattle.demand_test.proofs.Membership.{In, in_list, each_of}
use Rattle.demand_test.proofs.Tasks.{known, period_of}
use Rattle.demand_test.proofs.Counts.{of_pending}
use Rattle.demand_test.proofs.NoneLate.{released_tasks}
use Rattle.demand_test.proofs.Played.{IsAtMultiple, IsPlaced, IsNext, placed_more, earlier}

-- the rows have come to boundary b, where the first i tasks had their turn to release
record IsPart (set : List Demand) (b i : ℕ) (h : List EdfRow) : Type 0 where
  run : IsEdfSchedule set h
  boundary : ticks h ≡ b
  multiples : AtMultiples set h
  order : InTaskOrder (released h)
  whole : (j : JobId) → is_marked h j ≡ false
  lowest : LowestFirst set h
  placed : Each (IsPlaced b i) (released h)
  next : (k : ℕ) → IsIn set k → IsNext set h (cond (nat_le k i) (b + 1) b) k

-- rows that have not come to boundary b have no release at b
placed_before : (h : List EdfRow) (b : ℕ) → ticks h < b → Each (IsPlaced b 0) (released h)
placed_before [] b l = tt
placed_before (Release j ∷ g) b l = (omega arith, placed_before g b l)
placed_before (Tick j last ∷ g) b l = placed_before g b (omega arith)
placed_before (Idle ∷ g) b l = placed_before g b (omega arith)

-- if only tasks up to m are released at b, the next release of a later task comes less than a period after b
next_soon :
    (set : List Demand) (h : List EdfRow) (k b m : ℕ) → 1 ≤ period_of set k → IsEdfSchedule set h → AtMultiples set h → m < k → Each (IsPlaced b m) (released h) →
    releases h k * period_of set k < b + period_of set k
next_soon set [] k b m pos r a l p = omega arith
next_soon set (Tick j last ∷ g) k b m pos r a l p = next_soon set g k b m pos r.1 a l p
next_soon set (Idle ∷ g) k b m pos r a l p = next_soon set g k b m pos r.1 a l p
next_soon set (Release j ∷ g) k b m pos r a l p =
    let rest : releases g k * period_of set k < b + period_of set k = next_soon set g k b m pos r.1 a.1 l p.1 in
    elim (cases_eq j.task.0 k) [
      | inl e ↦ (let at : ticks g + period_of set k ≡ (releases g k + 1) * period_of set k = rw (r.0.count, e) at a.0 in
          let soon : ticks g < b = earlier b m (ticks g) j.task.0 (omega arith) p.0 in
          rw (eq-eqb j.task.0 k e) (omega arith))
      | inr ne ↦ rw (ne_eqb j.task.0 k ne) (omega arith)
    ]

-- a task that releases at boundary b in one of two lists of rows releases at b in the other too
not_missing :
    (set : List Demand) (b i : ℕ) (j : JobId) (g h : List EdfRow) (m : ℕ) → AllByRecursion IsDemand set → IsPart set b i (Release j ∷ g) → IsPart set b i h →
    m < j.task.0 → Each (IsPlaced b m) (released h) → ⊥
not_missing set b i j g h m is w w' l p =
    let n = releases h j.task.0 in
    let number : IsIn set j.task.0 = w.run.0.task in
    let boundary : ticks g ≡ b = w.boundary in
    let at : ticks g + period_of set j.task.0 ≡ j.count * period_of set j.task.0 = w.multiples.0 in
    let next : IsNext set h (b + 1) j.task.0 = rw (le-leb j.task.0 i (w.placed.0.1 boundary)) at (w'.next j.task.0 number) in
    let soon : n * period_of set j.task.0 < b + period_of set j.task.0 = next_soon set h j.task.0 b m (known set j.task.0 is number).period w'.run w'.multiples l p in
    let below : n < j.count = lt_of_mul-lt-mul_right (period_of set j.task.0) (omega arith) in
    let above : j.count < n + 1 = lt_of_mul-lt-mul_right (period_of set j.task.0) (omega arith) in
    absurd (omega arith)

-- the next release comes no earlier than the boundary
next_from : (turn : Bool) (b n : ℕ) → cond turn (b + 1) b ≤ n → b ≤ n
next_from true b n l = omega arith
next_from false b n l = l

-- a release at a boundary comes after those of the tasks before it
before_release :
    (set : List Demand) (b i : ℕ) (j : JobId) (g : List EdfRow) → AllByRecursion IsDemand set → IsPart set b i (Release j ∷ g) → IsPart set b (j.task.0 - 1) g
before_release set b i j g is w = record {
  run = w.run.1;
  boundary = w.boundary;
  multiples = w.multiples.1;
  order = w.order.1;
  whole = w.whole;
  lowest = w.lowest;
  placed = so_placed;
  next = λ k number. elim (cases_lt k j.task.0) [
    | inl l ↦ rw (le-leb k (j.task.0 - 1) (omega arith)) (rw (le-leb k i (omega (arith, turn)), ne_eqb j.task.0 k (omega arith), zero-add) at (w.next k number))
    | inr l ↦ rw (lt-leb k (j.task.0 - 1) (omega arith))
        (low k number, next_soon set g k b (j.task.0 - 1) (known set k is number).period w.run.1 w.multiples.1 (omega arith) so_placed)
  ];
}
  where
    turn : j.task.0 ≤ i
    turn = w.placed.0.1 w.boundary

    so_placed : Each (IsPlaced b (j.task.0 - 1)) (released g)
    so_placed = Each-both {P = IsPlaced b i} {Q = λ x. x.release ≡ ticks g → x.job.task.0 < j.task.0}
        (λ x p o. (p.0, λ e. let l = o (e ∙ sym w.boundary) in omega arith)) (released g) w.placed.1 w.order.0

    low : (k : ℕ) → IsIn set k → b ≤ releases g k * period_of set k
    low k number = elim (cases_eq j.task.0 k) [
      | inl e ↦ (let at : ticks g + period_of set k ≡ (releases g k + 1) * period_of set k = rw (w.run.0.count, e) at w.multiples.0 in omega (arith, w.boundary))
      | inr ne ↦ rw (ne_eqb j.task.0 k ne, zero-add) at (next_from (nat_le k i) b _ (w.next k number).0)
    ]

-- before a tick all tasks had their turn
before_tick :
    (set : List Demand) (b i : ℕ) (g : List EdfRow) → AllByRecursion IsDemand set → IsEdfSchedule set g → AtMultiples set g → InTaskOrder (released g) →
    ((j : JobId) → is_marked g j ≡ false) → LowestFirst set g → ticks g + 1 ≡ b → ((k : ℕ) → IsIn set k → IsNext set g (cond (nat_le k i) (b + 1) b) k) →
    IsPart set (ticks g) (length set) g
before_tick set b i g is run multiples order whole lowest t next = record {
  run = run;
  boundary = refl;
  multiples = multiples;
  order = order;
  whole = whole;
  lowest = lowest;
  placed = Each-both {P = IsPlaced b 0} {Q = λ x. IsIn set x.job.task.0}
      (λ x p n. (let l = earlier b 0 x.release x.job.task.0 n.0 p in omega arith, λ e. n.1)) (released g) so_placed (released_tasks set g run);
  next = λ k number.
      let low : b ≤ releases g k * period_of set k = next_from (nat_le k i) b _ (next k number).0 in
      let soon : releases g k * period_of set k < b + period_of set k = next_soon set g k b 0 (known set k is number).period run multiples number.0 so_placed in
      rw (le-leb k (length set) number.1) (omega arith);
}
  where
    so_placed : Each (IsPlaced b 0) (released g)
    so_placed = placed_before g b (omega arith)

-- before each row with a tick all tasks had their turn
before_row :
    (set : List Demand) (b i : ℕ) (row : EdfRow) (g : List EdfRow) → AllByRecursion IsDemand set → ticks (row ∷ g) ≡ ticks g + 1 → IsPart set b i (row ∷ g) →
    IsPart set (ticks g) (length set) g
before_row set b i (Release j) g is e w = absurd (omega arith)
before_row set b i (Tick j last) g is e w =
    before_tick set b i g is w.run.1 w.multiples w.order (λ i. (or_parts (last && same_job j i) (is_marked g i) (w.whole i)).1) w.lowest.1 w.boundary w.next
before_row set b i Idle g is e w = before_tick set b i g is w.run.1 w.multiples w.order w.whole w.lowest w.boundary w.next

-- jobs of one task with the same release time are the same
job_same :
    (set : List Demand) (x y : Released) → 1 ≤ period_of set x.job.task.0 → IsAtMultiple set x → IsAtMultiple set y →
    x.job.task.0 ≡ y.job.task.0 → x.release ≡ y.release → x.job ≡ y.job
job_same set x y pos p q t r =
    let q' : y.release + period_of set x.job.task.0 ≡ y.job.count * period_of set x.job.task.0 = rw (← t) at q in
    let c : x.job.count ≡ y.job.count = eq_of_mul-eq-mul_right (period_of set x.job.task.0) pos _ _ (omega arith) in
    ap₂ {C = JobId} (λ (k n : ℕ). record { task = record { 0 = k }; count = n }) t c

-- x has an earlier deadline than y, or the same deadline and no higher task number
record RunsFirst (set : List Demand) (x y : Released) : Type 0 where
  earliest : deadline set x ≤ deadline set y
  tie : deadline set y ≡ deadline set x → x.job.task.0 ≤ y.job.task.0

-- the job of a tick goes first
runs_first :
    (set : List Demand) (g : List EdfRow) (j : JobId) (run : MayRun set g j) (low : IsLowest set g j) → AtMultiples set g →
    Each (RunsFirst set low.x) (pending set g)
runs_first set g j run low a =
    let job : run.x.job ≡ low.x.job = run.job ∙ sym low.job in
    let at : run.x.release + period_of set low.x.job.task.0 ≡ low.x.job.count * period_of set low.x.job.task.0 =
    rw job at (of_pending (IsAtMultiple set) set g run.x a run.live) in
    let at' : IsAtMultiple set low.x = of_pending (IsAtMultiple set) set g low.x a low.live in
    let same : deadline set run.x ≡ deadline set low.x = rw job (omega arith) in
    let name : low.x.job.task.0 ≡ j.task.0 = ap (λ (i : JobId). i.task.0) low.job in
    Each-both {P = λ y. deadline set run.x ≤ deadline set y} {Q = λ y. deadline set y ≡ deadline set low.x → j.task.0 ≤ y.job.task.0}
    (λ y d t. record { earliest = omega arith; tie = λ e. let l = t e in omega arith }) (pending set g) run.first low.lowest

-- the job of a tick is determined
same_tick :
    (set : List Demand) (g : List EdfRow) (j j' : JobId) → AllByRecursion IsDemand set → IsEdfSchedule set g → AtMultiples set g →
    MayRun set g j → IsLowest set g j → MayRun set g j' → IsLowest set g j' → j ≡ j'
same_tick set g j j' is r a run low run' low' =
    let x = low.x in
    let x' = low'.x in
    let before : RunsFirst set x x' = each_of (RunsFirst set x) x' (pending set g) (runs_first set g j run low a) (in_list x' (pending set g) low'.live) in
    let after : RunsFirst set x' x = each_of (RunsFirst set x') x (pending set g) (runs_first set g j' run' low' a) (in_list x (pending set g) low.live) in
    let task : x.job.task.0 ≡ x'.job.task.0 = omega arith in
    let reach : deadline_in (demand_at set x.job.task.0) ≡ deadline_in (demand_at set x'.job.task.0) = ap (λ (k : ℕ). deadline_in (demand_at set k)) task in
    let at : IsAtMultiple set x = of_pending (IsAtMultiple set) set g x a low.live in
    let at' : IsAtMultiple set x' = of_pending (IsAtMultiple set) set g x' a low'.live in
    let number : IsIn set x.job.task.0 = of_pending (λ y. IsIn set y.job.task.0) set g x (released_tasks set g r) low.live in
    sym low.job ∙ job_same set x x' (known set x.job.task.0 is number).period at at' task (omega arith) ∙ low'.job

-- a tick that is not marked is not its job's last
unmarked : (last same m : Bool) → same ≡ true → ((last && same) || m) ≡ false → last ≡ false
unmarked last same m e h = grind arith

-- after the same rows the next row is determined
same_row :
    (set : List Demand) (b i : ℕ) (row row' : EdfRow) (g : List EdfRow) → AllByRecursion IsDemand set → ticks (row ∷ g) ≡ ticks g + 1 → ticks (row' ∷ g) ≡ ticks g + 1 →
    IsPart set b i (row ∷ g) → IsPart set b i (row' ∷ g) → row ≡ row'
same_row set b i (Tick j l) (Tick j' l') g is e e' w w' =
    let job : j ≡ j' = same_tick set g j j' is w.run.1 w.multiples w.run.0 w.lowest.0 w'.run.0 w'.lowest.0 in
    let no : l ≡ false = unmarked l (same_job j j) (is_marked g j) (same_job-refl j) (w.whole j) in
    let no' : l' ≡ false = unmarked l' (same_job j' j') (is_marked g j') (same_job-refl j') (w'.whole j') in
    ap₂ {C = EdfRow} (λ (i : JobId) (last : Bool). Tick i last) job (no ∙ sym no')
same_row set b i (Tick j l) Idle g is e e' w w' = absurd (subst (In w.run.0.x) w'.run.0 (in_list w.run.0.x (pending set g) w.run.0.live))
same_row set b i Idle (Tick j l) g is e e' w w' = absurd (subst (In w'.run.0.x) w.run.0 (in_list w'.run.0.x (pending set g) w'.run.0.live))
same_row set b i Idle Idle g is e e' w w' = refl
same_row set b i row row' g is e e' w w' = absurd (omega arith)

-- of two lists of rows that have come to the same turn, neither ends with the release of a later task
top_most :
    (set : List Demand) (b i : ℕ) (j j' : JobId) (g g' : List EdfRow) → AllByRecursion IsDemand set → IsPart set b i (Release j ∷ g) → IsPart set b i (Release j' ∷ g') →
    j'.task.0 ≤ j.task.0
top_most set b i j j' g g' is w w' = elim (cases_lt j.task.0 j'.task.0) [
  | inl l ↦ (let p : Each (IsPlaced b j.task.0) (released g) =
      placed_more b (j.task.0 - 1) j.task.0 (released g) (omega arith) (before_release set b i j g is w).placed in
      absurd (not_missing set b i j' g' (Release j ∷ g) j.task.0 is w' w l (omega (arith, w.boundary), p)))
  | inr l ↦ l
]

-- two lists of rows that have come to the same boundary are the same
unique : (set : List Demand) (h h' : List EdfRow) (b i : ℕ) → AllByRecursion IsDemand set → IsPart set b i h → IsPart set b i h' → h ≡ h'
unique set (Release j ∷ g) (Release j' ∷ g') b i is w w' =
    let task : j.task.0 ≡ j'.task.0 = omega (arith, top_most set b i j j' g g' is w w', top_most set b i j' j g' g is w' w) in
    let x : Released = record { job = j; release = ticks g } in
    let x' : Released = record { job = j'; release = ticks g' } in
    let job : j ≡ j' = job_same set x x' (known set j.task.0 is w.run.0.task).period w.multiples.0 w'.multiples.0 task (w.boundary ∙ sym w'.boundary) in
    let p' : IsPart set b (j.task.0 - 1) g' = rw task (before_release set b i j' g' is w') in
    ap₂ (λ (i : JobId) (r : List EdfRow). Release i ∷ r) job (unique set g g' b (j.task.0 - 1) is (before_release set b i j g is w) p')
unique set (Release j ∷ g) [] b i is w w' = absurd (not_missing set b i j g [] 0 is w w' w.run.0.task.0 tt)
unique set [] (Release j ∷ g) b i is w w' = absurd (not_missing set b i j g [] 0 is w' w w'.run.0.task.0 tt)
unique set (Release j ∷ g) (row ∷ g') b i is w w' = absurd (not_missing set b i j g (row ∷ g') 0 is w w' w.run.0.task.0 (placed_before g' b (omega (arith, w'.boundary))))
unique set (row ∷ g') (Release j ∷ g) b i is w w' = absurd (not_missing set b i j g (row ∷ g') 0 is w' w w'.run.0.task.0 (placed_before g' b (omega (arith, w.boundary))))
unique set [] [] b i is w w' = refl
unique set [] (row ∷ g') b i is w w' = absurd (omega (arith, w.boundary, w'.boundary))
unique set (row ∷ g) [] b i is w w' = absurd (omega (arith, w.boundary, w'.boundary))
unique set (row ∷ g) (row' ∷ g') b i is w w' =
    let come : ticks g ≡ ticks g' = omega (arith, w.boundary, w'.boundary) in
    let p' : IsPart set (ticks g) (length set) g' = rw come (before_row set b i row' g' is refl w') in
    let rest : g ≡ g' = unique set g g' (ticks g) (length set) is (before_row set b i row g is refl w) p' in
    let same : row ≡ row' = same_row set b i row row' g is refl refl w (subst (λ (r : List EdfRow). IsPart set b i (row' ∷ r)) (sym rest) w') in
    ap₂ (λ (r : EdfRow) (rows : List EdfRow). r ∷ rows) same rest

-- a counterexample has come to its last boundary
part_of : (set : List Demand) (n : ℕ) (h : List EdfRow) → AllByRecursion IsDemand set → IsCounter set n h → IsPart set n 0 h
part_of set n h is c = record {
  run = c.run;
  boundary = c.ticks;
  multiples = c.multiples;
  order = c.order;
  whole = c.whole;
  lowest = c.lowest;
  placed = so_placed;
  next = λ k number. rw (lt-leb k 0 number.0) (c.every k number, next_soon set h k n 0 (known set k is number).period c.run c.multiples number.0 so_placed);
}
  where
    so_placed : Each (IsPlaced n 0) (released h)
    so_placed = Each-map {P = λ x. x.release < n} (λ x l. omega arith) (released h) c.below

-- each length has at most one counterexample
pub one_counter : (set : List Demand) (n : ℕ) (h h' : List EdfRow) → AllByRecursion IsDemand set → IsCounter set n h → IsCounter set n h' → h ≡ h'
one_counter set n h h' is c c' = unique set h h' n 0 is (part_of set n h is c) (part_of set n h' is c')
