-- A task has the number of rows, held releases included, that the answers to its calls count.
use Rattle.std.proofs.Common.{◌≡◌, ℕ, ◌≤◌, ◌+◌, ◌==◌, List, [], ◌∷◌, length, Bool, true, false, refl, ap, sym, ◌∙◌, arith, cond}
use Rattle.std.proofs.lemmas.Bool.{eqb-true}
use Rattle.mc_task.specs.declared.task.Task.{Task}
use Rattle.mc_task.specs.declared.task.Rule.{Rule}
use Rattle.mc_task.specs.declared.task.JobId.{JobId}
use Rattle.mc_model.specs.declared.row.Row.{Row}
use Rattle.mc_model.specs.declared.row.Row.TheVariants as row
use Rattle.mc_model.specs.Rows.{releases}
use Rattle.mc_model.specs.Pending.{is_end}
use Rattle.mc_model.specs.Sums.{total}
use Rattle.mc_model.specs.Core.{jobs_of, released_so_far, add_held, outcome_of, places_used}
use Rattle.mc_model.proofs.Sums.{less_filtered, total-filter}
use Rattle.mode_core.specs.Events.{is_of_task}
use Rattle.mode_core.proofs.CallerLemmas.{releases-held, jobs-few}
use Rattle.timetable.specs.Floor.{FloorState}
use Rattle.turnstile.specs.History.{made_by}
use Rattle.executive.specs.declared.entry.Entry.{Entry}
use Rattle.executive.specs.declared.entry.Call.{Call}
use Rattle.executive.specs.declared.entry.Answer.{Answer}
use Rattle.executive.specs.Histories.{MayCall, answer_to, after_call, after, IsLegal, calls_of}
use Rattle.executive.specs.Counts.{released, ticked, ended, idled, tally, ticks_of, ends_of, idle_ticks, IsAtMost}
use Rattle.executive.proofs.Histories.{Way, release_written, release_held, outcome_written, idle_written, way}

-- what all answers of a history count for one number is what the answers to that task's own calls count
pub total_own : (by : Entry → ℕ) (f : Answer → ℕ) (k : ℕ) (log : List Entry) → total (λ (e : Entry). cond (by e == k) (f e.answer) 0) log ≡ total (λ (e : Entry). f e.answer) (made_by by k log)
total_own by f k log = sym (total-filter (λ (e : Entry). f e.answer) (λ (e : Entry). by e == k) log)

-- a number of the floor grows over a history by what each of its calls adds
pub measured : (m : FloorState → ℕ) (w : ℕ → Answer → ℕ) → ((f : FloorState) (k : ℕ) (c : Call) → MayCall f k c → m (after_call f k c) ≡ m f + w k (answer_to f k c))
    → (f : FloorState) (log : List Entry) → IsLegal f log → m (after f log) ≡ m f + total (λ (e : Entry). w e.task.0 e.answer) log
measured m w law f [] legal = omega arith
measured m w law f (e ∷ es) legal =
    let more = measured m w law (after_call f e.task.0 e.call) es legal.1 in
    let here : m (after_call f e.task.0 e.call) ≡ m f + w e.task.0 e.answer = law f e.task.0 e.call legal.0.may ∙ ap (λ (a : Answer). m f + w e.task.0 a) (sym legal.0.answered) in
    omega (arith, more, here)

-- what a call of task number j with this answer adds to the numbers of task number k, and to the idle ticks
record Gains (k j : ℕ) (f : FloorState) (a : Answer) (g : FloorState) : Type 0 where
  releases : released_so_far g.core k ≡ released_so_far f.core k + cond (j == k) (released a) 0
  ticks : ticks_of k g.core.rows ≡ ticks_of k f.core.rows + cond (j == k) (ticked a) 0
  ends : ends_of k g.core.rows ≡ ends_of k f.core.rows + cond (j == k) (ended a) 0
  idles : idle_ticks g.core.rows ≡ idle_ticks f.core.rows + idled a

-- held releases add nothing to a number that counts no releases
held : (m : List Row → ℕ) → ((j : JobId) (kept : Bool) (g : List Row) → m (row.Release j kept ∷ g) ≡ m g)
    → (set : List Task) (rule : Rule) (js : List JobId) (g : List Row) → m (add_held set rule js g) ≡ m g
held m same set rule [] g = refl
held m same set rule (j ∷ js) g = same j _ (add_held set rule js g) ∙ held m same set rule js g

none : (n : ℕ) (b : Bool) → n ≡ n + cond b 0 0
none n true = omega arith
none n false = omega arith

gains : (k : ℕ) (f : FloorState) (j : ℕ) (c : Call) → MayCall f j c → Gains k j f (answer_to f j c) (after_call f j c)
gains k f j c may = go (way f j c) may
  where
    go : {d : Call} {a : Answer} {g : FloorState} → Way f j d a g → MayCall f j d → Gains k j f a g
    go (release_written x n out) may = record { releases = omega arith; ticks = none _ _; ends = none _ _; idles = omega arith }
    go (release_held x n i out) may = record { releases = omega arith; ticks = none _ _; ends = none _ _; idles = omega arith }
    go (outcome_written claimed done i out is) may =
        let rows : List Row = row.Tick i (outcome_of f.core.set f.core.rule f.core.rows i done) ∷ f.core.rows in
        let own : i.task.0 ≡ j = eqb-true i.task.0 j (ap (λ o. is_of_task o j) (sym out) ∙ may) in
        let of_job = λ (n : ℕ). ap (λ (l : ℕ). cond (l == k) n 0) own in
        let r = releases-held f.core.set f.core.rule f.core.held rows k in
        let zero = none (released_so_far f.core k) (j == k) in
        let t = held (ticks_of k) (λ l kept g. refl) f.core.set f.core.rule f.core.held rows in
        let e = held (ends_of k) (λ l kept g. refl) f.core.set f.core.rule f.core.held rows in
        let n = held idle_ticks (λ l kept g. refl) f.core.set f.core.rule f.core.held rows in record {
          releases = omega (arith, r, zero);
          ticks = omega (arith, t, of_job 1);
          ends = omega (arith, e, of_job (cond (is_end (outcome_of f.core.set f.core.rule f.core.rows i done)) 1 0));
          idles = omega (arith, n);
        }
    go (idle_written out) may = record { releases = none _ _; ticks = none _ _; ends = none _ _; idles = omega arith }
    go w may = record { releases = none _ _; ticks = none _ _; ends = none _ _; idles = omega arith }

-- Over a whole history.

-- if the count is 0 on the first floor, a history leaves the count of the answers to the task's calls
counted : (m : FloorState → ℕ) (w : Answer → ℕ) (k : ℕ) → ((f : FloorState) (j : ℕ) (c : Call) → MayCall f j c → m (after_call f j c) ≡ m f + cond (j == k) (w (answer_to f j c)) 0)
    → (f : FloorState) (log : List Entry) → m f ≡ 0 → IsLegal f log → total (λ (e : Entry). w e.answer) (calls_of k log) ≡ m (after f log)
counted m w k law f log empty legal =
    let all = measured m (λ (j : ℕ) (a : Answer). cond (j == k) (w a) 0) law f log legal in
    let own = total_own (λ (e : Entry). e.task.0) w k log in
    omega (arith, all, empty, own)

-- a floor with no rows, no granted tick and nothing held
pub record IsEmpty (f : FloorState) : Type 0 where
  pub rows : f.core.rows ≡ []
  pub held : f.core.held ≡ []

-- after a history of an empty floor, a task has the rows that the answers to its calls count
pub record Counted (k : ℕ) (f : FloorState) (log : List Entry) : Type 0 where
  pub releases : (tally (calls_of k log)).releases ≡ released_so_far (after f log).core k
  pub ticks : (tally (calls_of k log)).ticks ≡ ticks_of k (after f log).core.rows
  pub ends : (tally (calls_of k log)).ends ≡ ends_of k (after f log).core.rows

pub all_counted : (k : ℕ) (f : FloorState) (log : List Entry) → IsEmpty f → IsLegal f log → Counted k f log
all_counted k f log empty legal =
    let a = ap (λ (g : List Row). releases g k) empty.rows in
    let b = ap (jobs_of k) empty.held in record {
      releases = counted (λ (g : FloorState). released_so_far g.core k) released k (λ g j c may. (gains k g j c may).releases) f log (omega (arith, a, b)) legal;
      ticks = counted (λ (g : FloorState). ticks_of k g.core.rows) ticked k (λ g j c may. (gains k g j c may).ticks) f log (ap (ticks_of k) empty.rows) legal;
      ends = counted (λ (g : FloorState). ends_of k g.core.rows) ended k (λ g j c may. (gains k g j c may).ends) f log (ap (ends_of k) empty.rows) legal;
    }

-- after a history of an empty floor, the number of idle ticks is what all answers count
pub idles_counted : (f : FloorState) (log : List Entry) → IsEmpty f → IsLegal f log → total (λ (e : Entry). idled e.answer) log ≡ idle_ticks (after f log).core.rows
idles_counted f log empty legal =
    let all = measured (λ (g : FloorState). idle_ticks g.core.rows) (λ (j : ℕ) (a : Answer). idled a) (λ g j c may. (gains 0 g j c may).idles) f log legal in
    let zero = ap idle_ticks empty.rows in
    omega (arith, all, zero)

-- 1 for true and 0 for false is at most 1

one_at_most : (b : Bool) → cond b 1 0 ≤ 1
one_at_most true = omega arith
one_at_most false = omega arith

-- the rows of a task and the idle ticks together are at most all rows
few_rows : (k : ℕ) (g : List Row) → releases g k + ticks_of k g + idle_ticks g ≤ length g
few_rows k [] = omega arith
few_rows k (row.Release j kept ∷ g) = omega (arith, few_rows k g, one_at_most (j.task.0 == k))
few_rows k (row.Tick j how ∷ g) = omega (arith, few_rows k g, one_at_most (j.task.0 == k))
few_rows k (row.Idle ∷ g) = omega (arith, few_rows k g)

-- the ticks that end a job are at most the ticks
few_ends : (k : ℕ) (g : List Row) → ends_of k g ≤ ticks_of k g
few_ends k [] = omega arith
few_ends k (row.Release j kept ∷ g) = few_ends k g
few_ends k (row.Tick j how ∷ g) = omega (arith, few_ends k g, less (j.task.0 == k) (is_end how))
  where
    less : (b c : Bool) → cond b (cond c 1 0) 0 ≤ cond b 1 0
    less true true = omega arith
    less true false = omega arith
    less false c = omega arith
few_ends k (row.Idle ∷ g) = few_ends k g

-- the answers to a task's calls count no more than the capacity of the core that the history leaves
pub few : (k : ℕ) (f : FloorState) (log : List Entry) (n : ℕ) → IsEmpty f → IsLegal f log → places_used (after f log).core ≤ n → IsAtMost (tally (calls_of k log)) n
few k f log n empty legal room =
    let s = (after f log).core in
    let c = all_counted k f log empty legal in
    let r = c.releases in
    let t = c.ticks in
    let e = c.ends in
    let i = idles_counted f log empty legal in
    let rows = few_rows k s.rows in
    let ends = few_ends k s.rows in
    let jobs = jobs-few k s.held in
    let some = less_filtered (λ (x : Entry). idled x.answer) (λ (x : Entry). x.task.0 == k) log in record {
      releases = omega (arith, r, rows, jobs, room);
      ticks = omega (arith, t, rows, room);
      ends = omega (arith, e, ends, rows, room);
      idles = omega (arith, i, some, rows, room);
    }
