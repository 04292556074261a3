-- If the calls of each task end its jobs by their needs, so do the rows.
use Rattle.std.proofs.Common.{◌≡◌, ℕ, ◌+◌, ◌==◌, List, [], ◌∷◌, ◌++◌, Bool, true, false, Option, Some, None, refl, ap, sym, ◌∙◌, subst, cond}
use Rattle.std.proofs.lemmas.Bool.{eq-eqb, eqb-true}
use Rattle.mc_task.specs.TaskSet.{IsIn, task_at}
use Rattle.mc_task.specs.declared.task.Task.{Task}
use Rattle.mc_task.specs.declared.task.Rule.{Rule}
use Rattle.mc_task.specs.declared.task.JobId.{JobId}
use Rattle.mc_model.specs.declared.row.Row.{Row}
use Rattle.mc_model.specs.declared.row.Row.TheVariants as row
use Rattle.mc_model.specs.Rows.{used}
use Rattle.mc_model.specs.Core.{State, add_held, outcome_of}
use Rattle.mode_core.specs.declared.answers.Granted.{Granted}
use Rattle.mode_core.specs.Events.{is_of_task, granted}
use Rattle.timetable.specs.declared.plan.Plan.{Plan}
use Rattle.timetable.specs.declared.plan.Plan.TheVariants.{Free}
use Rattle.timetable.specs.Floor.{FloorState, done_by}
use Rattle.executive.specs.declared.entry.Entry.{Entry}
use Rattle.executive.specs.declared.entry.Call.{Call}
use Rattle.executive.specs.declared.entry.Call.TheVariants.{Outcome}
use Rattle.executive.specs.declared.entry.Answer.{Answer}
use Rattle.executive.specs.Histories.{MayCall, answer_to, after_call, after, IsLegal, calls_of}
use Rattle.executive.proofs.Histories.{Way, release_written, grant_given, outcome_written, idle_written, core_ended, way, opening_call}
use Rattle.mc_model.specs.LiveTrace.{live_need, EndByNeed}
use Rattle.task_threads.specs.LiveCalls.{granted_then, granted_last, IsByNeed, AreByNeed}
use Rattle.timetable.proofs.RunsFollow.{done_as}

-- the task with the granted tick was granted it last, and no tick was written since
abbrev Knows : FloorState → (ℕ → Option Granted) → Type 0
Knows f lasts = (j : JobId) → f.core.out ≡ Some j → lasts j.task.0 ≡ Some (granted f.core j)

-- what each task was granted last, after a call of task number k
abbrev next_lasts : ℕ → Answer → (ℕ → Option Granted) → ℕ → Option Granted
next_lasts k a lasts i = cond (k == i) (granted_then a (lasts i)) (lasts i)

either_way : {A : Type 0} (b : Bool) (x : A) → cond b x x ≡ x
either_way true x = refl
either_way false x = refl

knows_then : (f : FloorState) (k : ℕ) (c : Call) (lasts : ℕ → Option Granted) → Knows f lasts → Knows (after_call f k c) (next_lasts k (answer_to f k c) lasts)
knows_then f k c lasts h = go (way f k c)
  where
    go : {d : Call} {a : Answer} {g : FloorState} → Way f k d a g → Knows g (next_lasts k a lasts)
    go (release_written x n out) = λ i e. absurd (cc)
    go (grant_given j out chosen own) = λ i e.
        let same : j ≡ i = cc in
        let mine : (k == j.task.0) ≡ true = eq-eqb k j.task.0 (sym own) in
        subst (λ (l : JobId). cond (k == l.task.0) (Some (granted f.core j)) (lasts l.task.0) ≡ Some (granted f.core l)) same (rw mine refl)
    go (outcome_written claimed done j out is) = λ i e. absurd (cc)
    go (idle_written out) = λ i e. absurd (cc)
    go w = λ i e. either_way (k == i.task.0) (lasts i.task.0) ∙ h i e

-- Rows.

held_ends : (tasks set : List Task) (rule : Rule) (js : List JobId) (g : List Row) → EndByNeed tasks g → EndByNeed tasks (add_held set rule js g)
held_ends tasks set rule [] g h = h
held_ends tasks set rule (j ∷ js) g h = held_ends tasks set rule js g h

pub claimed_by_plan : (p : Plan) (g : List Row) (j : JobId) (d : Bool) → p ≡ Free → done_by p g j d ≡ d
claimed_by_plan p g j d e = rw e refl

-- the outcome of the granted tick leaves rows that end jobs by their needs
pub settled_ends : (tasks : List Task) (s : State) (j : JobId) (done : Bool) → done ≡ (used s.rows j + 1 == live_need (task_at tasks j.task.0) j.count)
    → EndByNeed tasks s.rows → EndByNeed tasks (core_ended s j done).rows
settled_ends tasks s j done by ends =
    held_ends tasks s.set s.rule s.held (row.Tick j (outcome_of s.set s.rule s.rows j done) ∷ s.rows) (done_as s.set s.rule s.rows j done ∙ by, ends)

ends_then : (tasks : List Task) (f : FloorState) (k : ℕ) (c : Call) (lasts : ℕ → Option Granted) → f.plan ≡ Free → MayCall f k c → Knows f lasts → IsByNeed (live_need (task_at tasks k)) (lasts k) c → EndByNeed tasks f.core.rows
    → EndByNeed tasks (after_call f k c).core.rows
ends_then tasks f k c lasts free may knows by h = go (way f k c) may by
  where
    go : {d : Call} {a : Answer} {g : FloorState} → Way f k d a g → MayCall f k d → IsByNeed (live_need (task_at tasks k)) (lasts k) d → EndByNeed tasks g.core.rows
    go (outcome_written claimed done j out is) may by =
        let own : k ≡ j.task.0 = sym (eqb-true j.task.0 k (ap (λ (o : Option JobId). is_of_task o k) (sym out) ∙ may)) in
        let own_by = subst (λ (i : ℕ). IsByNeed (live_need (task_at tasks i)) (lasts i) (Outcome claimed)) own by in
        let met = subst (λ (l : Option Granted). IsByNeed (live_need (task_at tasks j.task.0)) l (Outcome claimed)) (knows j out) own_by in
        settled_ends tasks f.core j done (is ∙ (claimed_by_plan f.plan f.core.rows j claimed free ∙ met)) h
    go w may by = h

-- Histories.

own_call : (need : ℕ → ℕ) (was : Option Granted) (b : Bool) (e : Entry) (es : List Entry) → b ≡ true → AreByNeed need was (cond b (e ∷ es) es) → IsByNeed need was e.call
own_call need was true e es is h = h.0
own_call need was false e es is h = absurd (cc)

later_calls : (need : ℕ → ℕ) (was : Option Granted) (b : Bool) (e : Entry) (a : Answer) (es : List Entry) → e.answer ≡ a → AreByNeed need was (cond b (e ∷ es) es) → AreByNeed need (cond b (granted_then a was) was) es
later_calls need was true e a es same h = subst (λ (x : Answer). AreByNeed need (granted_then x was) es) same h.1
later_calls need was false e a es same h = h

rows_by_need : (tasks : List Task) (f : FloorState) (log : List Entry) (lasts : ℕ → Option Granted) → f.core.set ≡ tasks → f.plan ≡ Free → IsLegal f log → Knows f lasts
    → ((k : ℕ) → IsIn tasks k → AreByNeed (live_need (task_at tasks k)) (lasts k) (calls_of k log)) → EndByNeed tasks f.core.rows → EndByNeed tasks (after f log).core.rows
rows_by_need tasks f [] lasts same free legal knows calls h = h
rows_by_need tasks f (e ∷ es) lasts same free legal knows calls h =
    let k : ℕ = e.task.0 in
    let opened = opening_call f k e.call in
    let in_set : IsIn tasks k = subst (λ (s : List Task). IsIn s k) same legal.0.in_set in
    let by = own_call (live_need (task_at tasks k)) (lasts k) (k == k) e (calls_of k es) (eq-eqb k k refl) (calls k in_set) in
    rows_by_need tasks (after_call f k e.call) es (next_lasts k (answer_to f k e.call) lasts) (ap (λ (g : FloorState). g.core.set) opened ∙ same) (ap (λ (g : FloorState). g.plan) opened ∙ free) legal.1
    (knows_then f k e.call lasts knows)
    (λ i inside. later_calls (live_need (task_at tasks i)) (lasts i) (k == i) e (answer_to f k e.call) (calls_of i es) legal.0.answered (calls i inside))
    (ends_then tasks f k e.call lasts free legal.0.may knows by h)

-- if the calls of each task end its jobs by their needs, a history from an opening floor without a plan
-- leaves rows that end jobs by their needs
pub live_rows : (o : FloorState) (log : List Entry) → o.plan ≡ Free → o.core.rows ≡ [] → o.core.out ≡ None → IsLegal o log
    → ((k : ℕ) → IsIn o.core.set k → AreByNeed (live_need (task_at o.core.set k)) None (calls_of k log)) → EndByNeed o.core.set (after o log).core.rows
live_rows o log free rows out legal calls =
    rows_by_need o.core.set o log (λ k. None) refl free legal (λ j e. absurd (cc)) calls (subst (EndByNeed o.core.set) (sym rows) tt)

-- calls that end jobs by their needs do so with one more such call
pub by_need_more : (need : ℕ → ℕ) (was : Option Granted) (calls : List Entry) (e : Entry) → AreByNeed need was calls → IsByNeed need (granted_last was calls) e.call → AreByNeed need was (calls ++ e ∷ [])
by_need_more need was [] e h by = (by, tt)
by_need_more need was (x ∷ xs) e h by = (h.0, by_need_more need (granted_then x.answer was) xs e h.1 by)

pub granted_more : (was : Option Granted) (calls : List Entry) (e : Entry) → granted_last was (calls ++ e ∷ []) ≡ granted_then e.answer (granted_last was calls)
granted_more was [] e = refl
granted_more was (x ∷ xs) e = granted_more (granted_then x.answer was) xs e
