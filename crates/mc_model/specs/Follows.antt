-- The trace that a work list and a number of ticks determine. The newest row stands first.
use Rattle.std.specs.Prelude.{◌≡◌, ℕ, ◌+◌, ◌-◌, Bool, true, false, not, ◌&&◌, List, [], ◌∷◌, if◌then◌else◌, nat_lt, ◌==◌, filter, map, reverse, slice_index_or}
use Rattle.std.specs.List.{list_all, list_any}
use Rattle.std.proofs.Math.Bool.{beq}
use Rattle.mc_task.specs.declared.task.Rule.{Rule}
use Rattle.mc_task.specs.declared.task.Task.{Task}
use Rattle.mc_task.specs.declared.task.JobId.{JobId}
use Rattle.mc_model.specs.Rows.{ticks, same_job, used}
use Rattle.mc_model.specs.Mode.{high_mode}
use Rattle.mc_model.specs.Pending.{KeptRelease, pending}
use Rattle.mc_model.specs.Key.{key}
use Rattle.mc_model.specs.Legal.{is_done, Legal}
use Rattle.mc_model.specs.declared.row.Row.{Row}
use Rattle.mc_model.specs.declared.row.Row.TheVariants.{Release, Tick}
use Rattle.mc_model.specs.declared.work.WorkRow.{WorkRow}

-- a release: a task number and a release time
pub record Arrival : Type 0 where
  pub task : ℕ
  pub at : ℕ

-- the releases of the trace, newest first
abbrev pub arrivals : List Row → List Arrival
arrivals [] = []
arrivals (Release j kept ∷ g) = record { task = j.task.0; at = ticks g } ∷ arrivals g
arrivals (_ ∷ g) = arrivals g

-- the releases that the work list asks for before boundary n, in its order
abbrev pub planned : List WorkRow → ℕ → List Arrival
planned work n = map (λ w. record { task = w.task.0; at = w.release }) (filter (λ w. nat_lt w.release n) work)

-- the needs of the jobs of task number k, in the order of the work list
abbrev pub needs_of : List WorkRow → ℕ → List ℕ
needs_of work k = map (λ w. w.need) (filter (λ w. w.task.0 == k) work)

-- the need of the c-th job of task number k, counted from 1; 0 if there is none
abbrev pub need_of : List WorkRow → ℕ → ℕ → ℕ
need_of work k c = if c == 0 then 0 else slice_index_or (needs_of work k) (c - 1) 0

-- whether the newest row is a Tick or Idle row
abbrev pub ends_in_tick : List Row → Bool
ends_in_tick [] = false
ends_in_tick (Release j kept ∷ g) = false
ends_in_tick (_ ∷ g) = true

-- whether each Tick row is Done exactly if its job has had the ticks that it needs
abbrev pub done_by_need : List WorkRow → List Row → Bool
done_by_need work [] = true
done_by_need work (Tick j how ∷ g) =
    beq (is_done how) (used g j + 1 == need_of work j.task.0 j.count) && done_by_need work g
done_by_need work (_ ∷ g) = done_by_need work g

-- whether none of these pending jobs has the key of job i and a lower task number than i
abbrev pub none_lower : List Task → Rule → Bool → KeptRelease → List KeptRelease → Bool
none_lower set rule high i now =
    list_all (λ x. not ((key set rule high x == key set rule high i) && nat_lt x.job.task.0 i.job.task.0)) now

-- whether the job is one of these pending jobs, and none of them has its key and a lower task number
abbrev pub is_lowest : List Task → Rule → Bool → List KeptRelease → JobId → Bool
is_lowest set rule high now j = list_any (λ i. same_job j i.job && none_lower set rule high i now) now

-- whether each tick goes to the lowest task number among the jobs with the least key
abbrev pub lowest_first : List Task → Rule → List Row → Bool
lowest_first set rule [] = true
lowest_first set rule (Tick j how ∷ g) =
    is_lowest set rule (high_mode rule g) (pending set g) j && lowest_first set rule g
lowest_first set rule (_ ∷ g) = lowest_first set rule g

-- the trace is the one that the set, the rule, the work list and the number of ticks determine
pub record Follows (set : List Task) (rule : Rule) (work : List WorkRow) (n : ℕ) (h : List Row) : Type 0 where
  pub legal : Legal set rule h
  pub ticks : ticks h ≡ n
  pub ends : ends_in_tick h ≡ true
  pub releases : reverse (arrivals h) ≡ planned work n
  pub done : done_by_need work h ≡ true
  pub lowest : lowest_first set rule h ≡ true
