-- Histories of calls: the floor's answer to each call, the floor that a history leaves, and which histories
-- are legal. A history is the list of the calls, THE FIRST CALL FIRST.
use Rattle.std.specs.Prelude.{◌≡◌, ℕ, ◌-◌, true, List, [], ◌∷◌}
use Rattle.mc_task.specs.TaskSet.{IsIn}
use Rattle.mode_core.specs.Events.{job_in, is_of_task}
use Rattle.timetable.specs.declared.acts.Act.TheVariants as act
use Rattle.timetable.specs.Floor.{FloorState, release_answer, after_release, grant_answer, after_grant, outcome_answer, after_outcome, idle_answer, after_idle, next_act}
use Rattle.turnstile.specs.History.{made_by}
use Rattle.executive.specs.declared.entry.Call.{Call}
use Rattle.executive.specs.declared.entry.Call.TheVariants.{Release, Take, Outcome, Idle, Look}
use Rattle.executive.specs.declared.entry.Answer.{Answer}
use Rattle.executive.specs.declared.entry.Answer.TheVariants.{Released, Taken, Settled, Idled, Next}
use Rattle.executive.specs.declared.entry.Entry.{Entry}

-- a call of task number k, with its answer
abbrev pub entry : ℕ → Call → Answer → Entry
entry k call answer = record { task = record { 0 = k }; call = call; answer = answer }

-- a placeholder entry before the first call
abbrev pub no_entry : Entry
no_entry = entry 1 Look (Next act.Finished)

-- the task may make this call: an outcome needs its own granted tick
abbrev pub MayCall : FloorState → ℕ → Call → Type 0
MayCall f k (Outcome done) = is_of_task f.core.out k ≡ true
MayCall f k _ = Unit {0}

-- the floor's answer to a call of task number k; an outcome is for the job with the granted tick
abbrev pub answer_to : FloorState → ℕ → Call → Answer
answer_to f k Release = Released (release_answer f k)
answer_to f k Take = Taken (grant_answer f k)
answer_to f k (Outcome done) = Settled (outcome_answer f (job_in f.core.out) done)
answer_to f k Idle = Idled (idle_answer f)
answer_to f k Look = Next (next_act f)

-- the floor after a call of task number k
abbrev pub after_call : FloorState → ℕ → Call → FloorState
after_call f k Release = after_release f k
after_call f k Take = after_grant f k
after_call f k (Outcome done) = after_outcome f (job_in f.core.out) done
after_call f k Idle = after_idle f
after_call f k Look = f

-- the floor that a history leaves
abbrev pub after : FloorState → List Entry → FloorState
after f [] = f
after f (e ∷ es) = after (after_call f e.task.0 e.call) es

-- the entry's task is in the set, it may make the call, and the answer is the floor's
pub record IsLegalEntry (f : FloorState) (e : Entry) : Type 0 where
  pub in_set : IsIn f.core.set e.task.0
  pub may : MayCall f e.task.0 e.call
  pub answered : e.answer ≡ answer_to f e.task.0 e.call

-- each entry is legal on the floor that the entries before it leave
abbrev pub IsLegal : FloorState → List Entry → Type 0
IsLegal f [] = Unit {0}
IsLegal f (e ∷ es) = IsLegalEntry f e × IsLegal (after_call f e.task.0 e.call) es

-- the calls of task number k, in order
abbrev pub calls_of : ℕ → List Entry → List Entry
calls_of k log = made_by (λ e. e.task.0) k log

-- the number of the seat that made the entry: seats are numbered from 0, and tasks from 1
abbrev pub seat_number : Entry → ℕ
seat_number e = e.task.0 - 1
