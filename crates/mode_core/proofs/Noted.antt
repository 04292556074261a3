-- What the notes of a state say of each task, and that an outcome changes none of them.
use Rattle.std.proofs.Common.{◌≡◌, ℕ, ◌+◌, ◌≤◌, ◌==◌, Bool, cond, List, [], ◌∷◌, ◌++◌, map, Option, option_map, Some, None, refl, ap, ap₂, ◌∙◌, arith}
use Rattle.std.specs.Prelude.{unwrap_or}
use Rattle.mc_task.specs.declared.task.Rule.{Rule}
use Rattle.mc_task.specs.declared.task.Task.{Task}
use Rattle.mc_task.specs.declared.task.JobId.{JobId}
use Rattle.mc_task.specs.TaskSet.{AreTasks, IsIn, task_at}
use Rattle.mc_model.specs.declared.row.Row.{Row}
use Rattle.mc_model.specs.declared.row.Row.TheVariants.{Release, Tick}
use Rattle.mc_model.specs.TaskNumbers.{period_in}
use Rattle.mc_model.specs.Rows.{ticks, releases, next_release}
use Rattle.mc_model.specs.Core.{State, next_after, jobs_of, released_so_far, add_held, outcome_of, settled, IsOut}
use Rattle.mc_model.specs.Core
use Rattle.mc_model.proofs.Tasks.{known}
use Rattle.arrivals.specs.Notes.{Note, count, next}
use Rattle.arrivals.specs.Notes
use Rattle.mode_core.specs.Noted.{note_at, notes_of_rows, notes_of}
use Rattle.mode_core.proofs.Held.{ticks-held}

-- once held releases are written, they are noted where their rows stand
notes-held : (set : List Task) (rule : Rule) (js : List JobId) (g : List Row) → notes_of_rows (add_held set rule js g) ≡ map (note_at (ticks g)) js ++ notes_of_rows g
notes-held set rule [] g = refl
notes-held set rule (j ∷ js) g = ap₂ (λ (t : ℕ) (notes : List Note). note_at t j ∷ notes) (ticks-held set rule js g) (notes-held set rule js g)

-- the notes of the settled rows are those of the state
pub notes_settled : (set : List Task) (rule : Rule) (rows : List Row) (out : Option JobId) (held : List JobId) (done : Bool) → IsOut set rule rows out held →
    notes_of_rows (settled set rule done rows out held) ≡ map (note_at (ticks rows + 1)) held ++ notes_of_rows rows
notes_settled set rule rows None [] done o = refl
notes_settled set rule rows None (j ∷ js) done o = cc
notes_settled set rule rows (Some j) held done o = notes-held set rule held (Tick j (outcome_of set rule rows j done) ∷ rows)

-- each release of the rows is noted once
count-rows : (h : List Row) (k : ℕ) → count (notes_of_rows h) k ≡ releases h k
count-rows [] k = refl
count-rows (Release j kept ∷ g) k = ap (λ (n : ℕ). cond (j.task.0 == k) 1 0 + n) (count-rows g k)
count-rows (row ∷ g) k = count-rows g k

-- each held release is noted once
count-held : (at k : ℕ) (js : List JobId) (h : List Row) → count (map (note_at at) js ++ notes_of_rows h) k ≡ releases h k + jobs_of k js
count-held at k [] h = omega (arith, count-rows h k)
count-held at k (j ∷ js) h = omega (arith, count-held at k js h)

-- a state's notes count the releases of each task
pub count_noted : (s : State) (k : ℕ) → count (notes_of s) k ≡ released_so_far s k
count_noted s k = count-held (ticks s.rows + 1) k s.held s.rows

-- by the notes of the rows the next release is allowed from the same boundary as by the rows
next-rows : (set : List Task) (h : List Row) (k : ℕ) → Notes.next_after (period_in (task_at set k)) (notes_of_rows h) k ≡ next_release set h k
next-rows set [] k = refl
next-rows set (Release j kept ∷ g) k = ap (λ (n : ℕ). cond (j.task.0 == k) (ticks g + period_in (task_at set k)) n) (next-rows set g k)
next-rows set (row ∷ g) k = next-rows set g k

-- the boundary of the next release, by the notes of the rows and of the releases held after them
next-held : (set : List Task) (rows : List Row) (js : List JobId) (k : ℕ) → Notes.next_after (period_in (task_at set k)) (map (note_at (ticks rows + 1)) js ++ notes_of_rows rows) k ≡ next_after set rows js k
next-held set rows [] k = next-rows set rows k
next-held set rows (j ∷ js) k = ap (λ (n : ℕ). cond (j.task.0 == k) (ticks rows + 1 + period_in (task_at set k)) n) (next-held set rows js k)

-- the boundary of the next release of a task that is there, by its period and the notes
next_known : (o : Option Task) (notes : List Note) (k : ℕ) → 1 ≤ period_in o → unwrap_or (option_map (λ (t : Task). Notes.next_after t.period notes k) o) 0 ≡ Notes.next_after (period_in o) notes k
next_known None notes k p = absurd (omega (arith, p))
next_known (Some t) notes k p = refl

-- by a state's notes a task of the set may be released from the same boundary as by the state
pub next_noted : (s : State) (k : ℕ) → AreTasks s.set → IsIn s.set k → next s.set (notes_of s) k ≡ Core.next s k
next_noted s k tasks inside = next_known (task_at s.set k) (notes_of s) k (known s.set k tasks.each inside).period ∙ next-held s.set s.rows s.held k
