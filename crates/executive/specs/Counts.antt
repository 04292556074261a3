-- What a pass counts of the answers to its calls, and the rows that must agree with it.
use Rattle.std.specs.Prelude.{ℕ, ◌+◌, ◌≤◌, ◌==◌, List, [], ◌∷◌, Ok, cond}
use Rattle.mc_model.specs.declared.row.Row.{Row}
use Rattle.mc_model.specs.declared.row.Row.TheVariants as row
use Rattle.mc_model.specs.Pending.{is_end}
use Rattle.mc_model.specs.Sums.{total}
use Rattle.executive.specs.declared.count.Count.{Count}
use Rattle.executive.specs.declared.entry.Entry.{Entry}
use Rattle.executive.specs.declared.entry.Answer.{Answer}
use Rattle.executive.specs.declared.entry.Answer.TheVariants.{Released, Settled, Idled}

-- 1 for a release that the floor took, otherwise 0
abbrev pub released : Answer → ℕ
released (Released (Ok x)) = 1
released _ = 0

-- 1 for the outcome of a tick, otherwise 0
abbrev pub ticked : Answer → ℕ
ticked (Settled (Ok how)) = 1
ticked _ = 0

-- 1 for an outcome that ended its job, otherwise 0
abbrev pub ended : Answer → ℕ
ended (Settled (Ok how)) = cond (is_end how) 1 0
ended _ = 0

-- 1 for an idle tick, otherwise 0
abbrev pub idled : Answer → ℕ
idled (Idled (Ok n)) = 1
idled _ = 0

-- what the answers to these calls count
abbrev pub tally : List Entry → Count
tally log = record {
  releases = total (λ e. released e.answer) log;
  ticks = total (λ e. ticked e.answer) log;
  ends = total (λ e. ended e.answer) log;
  idles = total (λ e. idled e.answer) log;
}

-- the count with one more answer
abbrev pub with_answer : Count → Answer → Count
with_answer c a = record {
  releases = c.releases + released a;
  ticks = c.ticks + ticked a;
  ends = c.ends + ended a;
  idles = c.idles + idled a;
}

-- no field of the count is above n
pub record IsAtMost (c : Count) (n : ℕ) : Type 0 where
  pub releases : c.releases ≤ n
  pub ticks : c.ticks ≤ n
  pub ends : c.ends ≤ n
  pub idles : c.idles ≤ n

-- how many ticks of task number k there are
abbrev pub ticks_of : ℕ → List Row → ℕ
ticks_of k [] = 0
ticks_of k (row.Tick j how ∷ g) = cond (j.task.0 == k) 1 0 + ticks_of k g
ticks_of k (_ ∷ g) = ticks_of k g

-- how many ticks of task number k ended a job
abbrev pub ends_of : ℕ → List Row → ℕ
ends_of k [] = 0
ends_of k (row.Tick j how ∷ g) = cond (j.task.0 == k) (cond (is_end how) 1 0) 0 + ends_of k g
ends_of k (_ ∷ g) = ends_of k g

-- how many idle ticks there are
abbrev pub idle_ticks : List Row → ℕ
idle_ticks [] = 0
idle_ticks (row.Idle ∷ g) = 1 + idle_ticks g
idle_ticks (_ ∷ g) = idle_ticks g
