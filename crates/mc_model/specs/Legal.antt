-- When a trace is one of EDF-VD: each row fits the rows before it. The newest row stands first.
use Rattle.std.specs.Prelude.{◌≡◌, ℕ, ◌+◌, Bool, true, false, not, ◌&&◌, ◌||◌, List, [], ◌∷◌, Option, Some, None, cond, nat_le, ◌==◌}
use Rattle.std.specs.List.{list_all, list_any}
use Rattle.std.proofs.Math.Bool.{beq}
use Rattle.mc_task.specs.declared.task.Task.{Task}
use Rattle.mc_task.specs.declared.task.Rule.{Rule}
use Rattle.mc_task.specs.declared.task.JobId.{JobId}
use Rattle.mc_task.specs.TaskSet.{task_at, IsIn}
use Rattle.mc_model.specs.TaskNumbers.{low_in, own_in, is_high_in}
use Rattle.mc_model.specs.Rows.{same_job, ticks, used, releases, is_too_soon}
use Rattle.mc_task.specs.Kinds.{is_virtual}
use Rattle.mc_model.specs.Mode.{high_mode}
use Rattle.mc_model.specs.Pending.{KeptRelease, pending}
use Rattle.mc_model.specs.Key.{key}
use Rattle.mc_model.specs.declared.row.How.{How}
use Rattle.mc_model.specs.declared.row.How.TheVariants.{More, Done, Stop, Over}
use Rattle.mc_model.specs.declared.row.Row.{Row}
use Rattle.mc_model.specs.declared.row.Row.TheVariants.{Release, Tick, Idle}
use Rattle.mc_model.specs.declared.verdict.Why.{Why}
use Rattle.mc_model.specs.declared.verdict.Why.TheVariants.{TooSoon, WrongCount, WrongKept, NotPending, NotLeast, WrongHow, IdlePending}

-- whether the job is one of these pending jobs
abbrev pub is_pending : List KeptRelease → JobId → Bool
is_pending now j = list_any (λ i. same_job j i.job) now

-- whether none of these pending jobs has a key below this number
abbrev pub none_below : List Task → Rule → Bool → ℕ → List KeptRelease → Bool
none_below set rule high least now = list_all (λ i. nat_le least (key set rule high i)) now

-- whether the job is one of these pending jobs, and none of them has a lower key
abbrev pub is_least : List Task → Rule → Bool → List KeptRelease → JobId → Bool
is_least set rule high now j =
    list_any (λ i. same_job j i.job && none_below set rule high (key set rule high i) now) now

-- whether no job is pending
abbrev pub is_empty : List KeptRelease → Bool
is_empty [] = true
is_empty (i ∷ is) = false

-- how the job's next tick, its u-th, ends if the job is not done: Stop at its own budget; Over if a high task
-- passes its low budget in low mode; otherwise More
abbrev pub how_of : List Task → Rule → List Row → JobId → ℕ → How
how_of set rule g j u =
    let t = task_at set j.task.0 in
    cond (u == own_in t) Stop
    (cond (is_high_in t && is_virtual rule && not (high_mode rule g) && (u == low_in t)) Over More)

-- whether two ticks ended alike
abbrev pub same_how : How → How → Bool
same_how More More = true
same_how Done Done = true
same_how Stop Stop = true
same_how Over Over = true
same_how _ _ = false

-- whether the tick ended with its job done
abbrev pub is_done : How → Bool
is_done Done = true
is_done _ = false

-- whether the job's next tick may end in this way: Done up to its own budget; any other end is determined
abbrev pub is_allowed_how : List Task → Rule → List Row → JobId → How → Bool
is_allowed_how set rule g j how =
    let u = used g j + 1 in
    (is_done how && nat_le u (own_in (task_at set j.task.0))) || same_how how (how_of set rule g j u)

-- the name of the first part that fails, of parts that each have a name; none if all parts hold
abbrev pub first_of_parts : List (Bool × Why) → Option Why
first_of_parts [] = None
first_of_parts (c ∷ cs) = cond c.0 (first_of_parts cs) (Some c.1)

-- the first part that fails for a row after the prefix g, in which these jobs are pending; none if it fits
abbrev pub fault_among : List Task → Rule → List KeptRelease → Row → List Row → Option Why
fault_among set rule now (Release j kept) g =
    first_of_parts
    ((not (is_too_soon set (ticks g) g j.task.0), TooSoon) ∷ (j.count == releases g j.task.0 + 1, WrongCount)
    ∷ (beq kept (is_high_in (task_at set j.task.0) || not (high_mode rule g)), WrongKept) ∷ [])
fault_among set rule now (Tick j how) g =
    first_of_parts
    ((is_pending now j, NotPending) ∷ (is_least set rule (high_mode rule g) now j, NotLeast)
    ∷ (is_allowed_how set rule g j how, WrongHow) ∷ [])
fault_among set rule now Idle g = first_of_parts ((is_empty now, IdlePending) ∷ [])

-- why a row does not fit the prefix g before it: the first part that fails; none if the row fits
abbrev pub fault : List Task → Rule → Row → List Row → Option Why
fault set rule row g = fault_among set rule (pending set g) row g

-- the task of a Release or Tick row is in the set
abbrev pub IsOfSet : List Task → Row → Type 0
IsOfSet set (Release j kept) = IsIn set j.task.0
IsOfSet set (Tick j how) = IsIn set j.task.0
IsOfSet set Idle = Unit {0}

-- each row is of the set and fits the prefix before it
abbrev pub Legal : List Task → Rule → List Row → Type 0
Legal set rule [] = Unit {0}
Legal set rule (row ∷ g) = IsOfSet set row × (fault set rule row g ≡ None) × Legal set rule g
