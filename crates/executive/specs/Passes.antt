-- Passes and grants as contracts see them, and what a call of one does.
use Rattle.std.specs.Prelude.{◌≡◌, ℕ, List, [], ◌∷◌, ◌++◌, Option, Some, None, IfSome, Ok, Err}
use Rattle.mc_task.specs.declared.task.JobId.{JobId}
use Rattle.mc_task.specs.TaskSet.{IsIn}
use Rattle.mode_core.specs.Events.{running}
use Rattle.timetable.specs.Floor.{FloorState}
use Rattle.turnstile.specs.History.{StartsWith}
use Rattle.turnstile.specs.Seats.{IsOf, fixed_part}
use Rattle.executive.specs.declared.count.Count.{Count}
use Rattle.executive.specs.declared.entry.Call.{Call}
use Rattle.executive.specs.declared.entry.Call.TheVariants as call
use Rattle.executive.specs.declared.entry.Answer.{Answer}
use Rattle.executive.specs.declared.entry.Answer.TheVariants as answer
use Rattle.executive.specs.declared.entry.Entry.{Entry}
use Rattle.executive.specs.declared.pass.CountedSeat.{CountedSeat}
use Rattle.executive.specs.declared.pass.Resting.{Resting}
use Rattle.executive.specs.declared.pass.TaskPass.{TaskPass}
use Rattle.executive.specs.declared.pass.Grant.{Grant}
use Rattle.executive.specs.declared.executive.Executive.{Executive}
use Rattle.executive.specs.declared.calls.Taken.{Taken}
use Rattle.executive.specs.declared.calls.Taken.TheVariants.{Given, NotNow}
use Rattle.executive.specs.Histories.{entry, after, IsLegal, answer_to, calls_of}
use Rattle.executive.specs.Counts.{with_answer}
use Rattle.executive.specs.Stands.{IsKept, opened}
use Rattle.executive.specs.Seats.{Lists, no_floor, lists, job_out}

-- a pass or a grant, as contracts see it: its task's number, the count of its answers, and what it knows of
-- the history
pub record PassState : Type 0 where
  pub task : ℕ
  pub count : Count
  pub lists : Lists

-- the state of a task's seat and count
abbrev pub of_counted_seat : CountedSeat → PassState
of_counted_seat h = record { task = h.task.0; count = h.count; lists = lists h.seat }

-- the state of no task
abbrev pub no_pass : PassState
no_pass = record {
  task = 0;
  count = record { releases = 0; ticks = 0; ends = 0; idles = 0 };
  lists = record { opening = no_floor; seen = []; mine = [] };
}

-- the state of a task with no granted tick, if there is one
abbrev pub of_resting : Option Resting → PassState
of_resting (Some r) = of_counted_seat r.counted_seat
of_resting None = no_pass

-- the state of a pass
abbrev pub of_pass : TaskPass → PassState
of_pass p = of_resting p.resting

-- the state of a grant
abbrev pub of_grant : Grant → PassState
of_grant t = of_counted_seat t.counted_seat

-- the floor that the executive was made with, before any call
abbrev pub floor_of : Executive → FloorState
floor_of e = (fixed_part opened e.turns).floor

-- a seat and count of this executive, of a task of its set
abbrev pub IsCountedSeatOf : Executive → CountedSeat → Type 0
IsCountedSeatOf e h = IsOf e.turns h.seat × IsIn (floor_of e).core.set h.task.0

-- the pass belongs to this executive
abbrev pub IsPassOf : Executive → TaskPass → Type 0
IsPassOf e p = IfSome p.resting (λ r. IsCountedSeatOf e r.counted_seat)

-- the grant belongs to this executive
abbrev pub IsGrantOf : Executive → Grant → Type 0
IsGrantOf e t = IsCountedSeatOf e t.counted_seat

-- the job of the granted tick of task number k after a call of the task, by its answer
abbrev pub job_then : Answer → Option JobId → Option JobId
job_then (answer.Taken (Ok x)) was = Some x.job
job_then (answer.Settled (Ok how)) was = None
job_then _ was = was

-- one legal history begins with what was seen and ends with this entry, and all of it is seen now; the task's
-- calls in it are those that were made before, and this one
pub record Adds (e : Entry) (old new : Lists) : Type 0 where
  pub opened : new.opening ≡ old.opening
  -- the history before this entry
  pub before : List Entry
  pub begins : StartsWith before old.seen
  pub sees : new.seen ≡ before ++ e ∷ []
  pub makes : new.mine ≡ old.mine ++ e ∷ []
  pub legal : IsLegal old.opening new.seen
  pub own : new.mine ≡ calls_of e.task.0 new.seen
  -- the answer is the floor's, after the entries before it
  pub answered : e.answer ≡ answer_to (after old.opening before) e.task.0 e.call
  -- calls of other tasks left the task's granted tick as it was
  pub stays : running (after old.opening before).core.out e.task.0 ≡ job_out e.task.0 old
  pub out : job_out e.task.0 new ≡ job_then e.answer (job_out e.task.0 old)
  -- the floor after this entry keeps its laws
  pub kept : IsKept (after old.opening new.seen)

-- the task made this call with this answer, and counts the answer
pub record Calls (call : Call) (answer : Answer) (old new : PassState) : Type 0 where
  pub task : new.task ≡ old.task
  pub count : new.count ≡ with_answer old.count answer
  pub adds : Adds (entry old.task call answer) old.lists new.lists

-- what `take` returns belongs to this executive
abbrev pub IsTakenOf : Executive → Taken → Type 0
IsTakenOf e (Given t) = IsGrantOf e t
IsTakenOf e (NotNow p f) = IsPassOf e p

-- the pass called `take`; a grant has what the floor granted, and a pass comes back with the floor's refusal
abbrev pub Takes : PassState → Taken → Type 0
Takes old (Given t) = Calls call.Take (answer.Taken (Ok t.granted)) old (of_grant t)
Takes old (NotNow p f) = Calls call.Take (answer.Taken (Err f)) old (of_pass p)

-- in each legal history that goes on from what the grant saw, with no further call of its task, its job has
-- the granted tick
abbrev pub IsOut : Grant → Type 0
IsOut t = (log : List Entry) → IsLegal (of_grant t).lists.opening log → StartsWith log (of_grant t).lists.seen
    → (of_grant t).lists.mine ≡ calls_of (of_grant t).task log
    → (after (of_grant t).lists.opening log).core.out ≡ Some t.granted.job

-- the call neither grants a tick nor ends one
abbrev pub IsQuiet : Call → Type 0
IsQuiet call.Take = ⊥
IsQuiet (call.Outcome done) = ⊥
IsQuiet _ = Unit {0}
