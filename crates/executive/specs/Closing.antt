-- What is needed to close an executive, and the floor that is left.
use Rattle.std.specs.Prelude.{◌≡◌, ℕ, ◌<◌, ◌≤◌, ◌==◌, List, Option, Some, None, All, Bool, true, false, []}
use Rattle.std.specs.List.{list_any}
use Rattle.mc_task.specs.TaskSet.{IsIn}
use Rattle.mc_task.specs.declared.task.Task.{Task}
use Rattle.mc_model.specs.Rows.{releases}
use Rattle.turnstile.specs.History.{StartsWith}
use Rattle.turnstile.specs.declared.tokens.Seat.{Seat}
use Rattle.timetable.specs.Floor.{FloorState}
use Rattle.executive.specs.contracts.state.StateKept.TheImpl.{ghosts}
use Rattle.executive.specs.declared.state.State.{State}
use Rattle.executive.specs.declared.state.Opened.{Opened}
use Rattle.executive.specs.declared.entry.Entry.{Entry}
use Rattle.executive.specs.declared.pass.Resting.{Resting}
use Rattle.executive.specs.declared.pass.TaskPass.{TaskPass}
use Rattle.executive.specs.Histories.{after, IsLegal, calls_of}
use Rattle.mc_model.specs.Sums.{total}
use Rattle.executive.specs.Counts.{ticks_of, ends_of, idle_ticks}
use Rattle.executive.specs.Stands.{IsKept, opening_of}
use Rattle.executive.specs.Passes.{PassState, of_pass}

-- the list has a pass of task number k
abbrev pub has_pass : List TaskPass → ℕ → Bool
has_pass passes k = list_any (λ p. (of_pass p).task == k) passes

-- the list has a pass of each task of the set
abbrev pub HasPassOfEach : List TaskPass → List Task → Type 0
HasPassOfEach passes set = (k : ℕ) → IsIn set k → has_pass passes k ≡ true

-- task number k is the lowest task of the set of which the list has no pass
pub record IsMissing (passes : List TaskPass) (set : List Task) (k : ℕ) : Type 0 where
  pub in_set : IsIn set k
  pub none : has_pass passes k ≡ false
  pub lowest : (j : ℕ) → 1 ≤ j → j < k → has_pass passes j ≡ true

-- the history begins with what the pass saw, and its calls of the pass's task are exactly those that the pass
-- made
pub record IsPartOf (log : List Entry) (p : PassState) : Type 0 where
  pub begins : StartsWith log p.lists.seen
  pub own : p.lists.mine ≡ calls_of p.task log

-- the floor has as many rows of each kind of the pass's task as the pass counts
pub record AgreesWith (f : FloorState) (p : PassState) : Type 0 where
  pub releases : p.count.releases ≡ releases f.core.rows p.task
  pub ticks : p.count.ticks ≡ ticks_of p.task f.core.rows
  pub ends : p.count.ends ≡ ends_of p.task f.core.rows

-- one legal history leaves the floor, and each of the passes saw a beginning of it
pub record OneHistoryLeaves (opening : FloorState) (passes : List TaskPass) (f : FloorState) : Type 0 where
  pub log : List Entry
  pub legal : IsLegal opening log
  pub leaves : f ≡ after opening log
  pub each : All (λ p. IsPartOf log (of_pass p)) passes
  -- the floor has the set, rule, capacity and plan that the executive was made with, no granted tick, and
  -- keeps its laws
  pub same : opening_of f ≡ opening
  pub none_out : f.core.out ≡ None
  pub none_held : f.core.held ≡ []
  pub kept : IsKept f
  -- the counts of the passes are those of the floor's rows, and there are no other idle ticks
  pub counts : All (λ p. AgreesWith f (of_pass p)) passes
  pub idles : total (λ p. (of_pass p).count.idles) passes ≡ idle_ticks f.core.rows

-- the seat of a task with no granted tick, if there is one
abbrev pub seat_of_resting : Option Resting → Option (Seat State Entry Opened ghosts)
seat_of_resting (Some r) = Some r.counted_seat.seat
seat_of_resting None = None

-- the seat of a pass
abbrev pub seat_of : TaskPass → Option (Seat State Entry Opened ghosts)
seat_of p = seat_of_resting p.resting
