-- The rows up to a job's deadline: a legal trace with that many ticks, in which the job was released.
use Rattle.std.proofs.Common.{◌≡◌, ℕ, ◌+◌, ◌≤◌, Bool, true, false, List, [], ◌∷◌, cond, nat_le, refl, arith, leb-true, le-leb, ◌<◌, leb-false}
use Rattle.std.specs.List.{AllByRecursion}
use Rattle.mc_task.specs.declared.task.Rule.{Rule}
use Rattle.mc_task.specs.declared.task.Task.{Task}
use Rattle.mc_task.specs.TaskSet.{task_at, IsTask}
use Rattle.mc_model.specs.declared.row.Row.{Row}
use Rattle.mc_model.specs.declared.row.Row.TheVariants.{Release, Tick, Idle}
use Rattle.mc_model.specs.TaskNumbers.{period_in}
use Rattle.mc_model.specs.Pending.{KeptRelease, released}
use Rattle.mc_model.specs.Rows.{ticks}
use Rattle.mc_model.specs.Legal.{Legal}
use Rattle.mc_model.specs.Late.{up_to}
use Rattle.mc_model.proofs.Jobs.{same_live, is_in, head_in}
use Rattle.mc_model.proofs.Lists.{Each, Each-both}
use Rattle.mc_model.proofs.Tasks.{known}
use Rattle.mc_model.proofs.Booleans.{or_true}

-- a row is at most one tick
ticks-row : (row : Row) (g : List Row) → ticks (row ∷ g) ≤ ticks g + 1
ticks-row (Release j kept) g = omega arith
ticks-row (Tick j how) g = omega arith
ticks-row Idle g = omega arith

-- the rows up to tick d have d ticks, if the trace has enough
pub ticks-up_to : (d : ℕ) (h : List Row) → d ≤ ticks h → ticks (up_to d h) ≡ d
ticks-up_to d [] e = omega arith
ticks-up_to d (row ∷ g) e = go (ticks-up_to d g) (nat_le (ticks (row ∷ g)) d) refl
  where
    go : (d ≤ ticks g → ticks (up_to d g) ≡ d) → (b : Bool) → nat_le (ticks (row ∷ g)) d ≡ b → ticks (cond b (row ∷ g) (up_to d g)) ≡ d
    go ih true m = let q : ticks (row ∷ g) ≤ d = leb-true _ _ m in omega (arith, q, e)
    go ih false m =
        let q : d < ticks (row ∷ g) = leb-false _ _ m in
        ih (omega (arith, q, ticks-row row g))

-- the rows up to a tick of a legal trace are legal
pub legal-up_to : (set : List Task) (rule : Rule) (d : ℕ) (h : List Row) → Legal set rule h → Legal set rule (up_to d h)
legal-up_to set rule d [] l = l
legal-up_to set rule d (row ∷ g) l =
    let ih : Legal set rule (up_to d g) = legal-up_to set rule d g l.2 in
    elim (nat_le (ticks (row ∷ g)) d) as (λ b. Legal set rule (cond b (row ∷ g) (up_to d g))) [ true ↦ l | false ↦ ih ]

-- each element of a list is in a list that has all of it
each_inside : (xs ys : List KeptRelease) → ((x : KeptRelease) → is_in xs x ≡ true → is_in ys x ≡ true) → Each (λ x. is_in ys x ≡ true) xs
each_inside [] ys f = tt
each_inside (x ∷ xs) ys f = (f x (head_in x xs), each_inside xs ys (λ y h. f y (or_true (same_live y x) (is_in xs y) h)))

-- a job that is released before d is among those released up to d
abbrev pub Reaches : List Row → KeptRelease → Type 0
Reaches h x = (d : ℕ) → x.release + 1 ≤ d → is_in (released (up_to d h)) x ≡ true

-- if a released job is among those released up to a later tick, one more row leaves it there
reach : (row : Row) (g : List Row) (x : KeptRelease) → is_in (released (row ∷ g)) x ≡ true → Reaches g x → Reaches (row ∷ g) x
reach row g x i r d k =
    let later : is_in (released (up_to d g)) x ≡ true = r d k in
    elim (nat_le (ticks (row ∷ g)) d) as (λ b. is_in (released (cond b (row ∷ g) (up_to d g))) x ≡ true) [ true ↦ i | false ↦ later ]

-- one more row leaves each released job among those released up to a later tick
reach_all : (row : Row) (g : List Row) → ((x : KeptRelease) → is_in (released g) x ≡ true → is_in (released (row ∷ g)) x ≡ true) → Each (Reaches g) (released g) → Each (Reaches (row ∷ g)) (released g)
reach_all row g f r = Each-both {P = λ x. is_in (released (row ∷ g)) x ≡ true} {Q = Reaches g} (λ x i k. reach row g x i k) (released g) (each_inside (released g) (released (row ∷ g)) f) r

-- each released job is among those released up to any later tick
pub reaches : (h : List Row) → Each (Reaches h) (released h)
reaches [] = tt
reaches (Release j true ∷ g) =
    let x : KeptRelease = record { job = j; release = ticks g } in (
      λ d k. let l : ticks g ≤ d = omega (arith, k) in rw (le-leb _ _ l) (head_in x (released g)),
      reach_all (Release j true) g (λ y h. or_true (same_live y x) (is_in (released g) y) h) (reaches g),
    )
reaches (Release j false ∷ g) = reach_all (Release j false) g (λ y h. h) (reaches g)
reaches (Tick j how ∷ g) = reach_all (Tick j how) g (λ y h. h) (reaches g)
reaches (Idle ∷ g) = reach_all Idle g (λ y h. h) (reaches g)

-- every released job's task has a period
pub periods : (set : List Task) (rule : Rule) (h : List Row) → AllByRecursion IsTask set → Legal set rule h → Each (λ x. 1 ≤ period_in (task_at set x.job.task.0)) (released h)
periods set rule [] s l = tt
periods set rule (Release j true ∷ g) s l = ((known set j.task.0 s l.0).period, periods set rule g s l.2)
periods set rule (Release j false ∷ g) s l = periods set rule g s l.2
periods set rule (Tick j how ∷ g) s l = periods set rule g s l.2
periods set rule (Idle ∷ g) s l = periods set rule g s l.2
