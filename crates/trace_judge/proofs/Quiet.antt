-- When no pending job has its deadline in a stretch of time, and that none turns late in it.
use Rattle.std.proofs.Common.{[], ◌≡◌, ℕ, zero, suc, ◌+◌, ◌<◌, ◌≤◌, Bool, true, List, ◌∷◌, ◌++◌, filter, min, replicate, refl, arith}
use Rattle.std.specs.List.{list_all}
use Rattle.std.proofs.lemmas.Bool.Decides.{nat_tests}
use Rattle.mc_task.specs.declared.task.JobId.{JobId}
use Rattle.mc_task.specs.declared.task.Rule.{Rule}
use Rattle.mc_task.specs.declared.task.Task.{Task}
use Rattle.mc_task.specs.TaskSet.{task_at}
use Rattle.mc_model.specs.declared.row.How.{How}
use Rattle.mc_model.specs.declared.row.Row.{Row}
use Rattle.mc_model.specs.declared.row.Row.TheVariants.{Tick}
use Rattle.mc_model.specs.declared.run.Run.TheVariants as run
use Rattle.mc_model.specs.TaskNumbers.{period_in}
use Rattle.mc_model.specs.Rows.{ticks}
use Rattle.mc_model.specs.Runs.{row_of, rows_of}
use Rattle.mc_model.specs.declared.run.Run.{Run}
use Rattle.trace_judge.specs.declared.step.Misfit.{Misfit}
use Rattle.mc_model.specs.Late.{deadline}
use Rattle.trace_judge.specs.declared.turned.Quiet.{Quiet}
use Rattle.trace_judge.specs.declared.state.State.{State}
use Rattle.trace_judge.specs.Entries.{Entry}
use Rattle.trace_judge.specs.Placed.{Placed, waiting}
use Rattle.trace_judge.specs.Quiet.{is_outside, deadline_at, are_quiet, IsQuiet}
use Rattle.trace_judge.specs.Tracks.{Tracks, StopsAt, entry_of}
use Rattle.trace_judge.specs.Turned.{turned_of}
use Rattle.trace_judge.proofs.Same.{same_all}
use Rattle.trace_judge.proofs.Keeps.{waiting_idle}

-- what all elements pass, those of a part pass
list_all-filter : {X : Type 0} (p q : X → Bool) → (xs : List X) → list_all p xs ≡ true → list_all p (filter q xs) ≡ true
list_all-filter p q [] h = refl
list_all-filter p q (x ∷ xs) h = grind (arith, list_all-filter p q xs)

-- elements that all pass a test all pass a weaker one
list_all-weaker : {X : Type 0} (p q : X → Bool) → ((x : X) → p x ≡ true → q x ≡ true) → (xs : List X) → list_all p xs ≡ true → list_all q xs ≡ true
list_all-weaker p q w [] h = refl
list_all-weaker p q w (x ∷ xs) h = grind (arith, w x, list_all-weaker p q w xs)

-- a deadline outside a stretch of time is outside one that ends sooner
outside_sooner : (after until until' d : ℕ) → until' ≤ until → is_outside after until d ≡ true → is_outside after until' d ≡ true
outside_sooner after until until' d s h = grind (arith, nat_tests)

-- ticks of a job bring no pending job
ticks_wait : (set : List Task) (p : Placed → Bool) (j : JobId) (how : How) (n : ℕ) (h : List Row) → list_all p (waiting set h) ≡ true → list_all p (waiting set (replicate n (Tick j how) ++ h)) ≡ true
ticks_wait set p j how zero h all = all
ticks_wait set p j how (suc n) h all = list_all-filter p _ (waiting set (replicate n (Tick j how) ++ h)) (ticks_wait set p j how n h all)

-- the stretch of time after a run of ticks is that before it
pub quiet_ticks : (set : List Task) (j : JobId) (how : How) (n : ℕ) (h : List Row) (q : Quiet) → IsQuiet set h q → IsQuiet set (rows_of (run.Ticks j how n) ++ h) q
quiet_ticks set j how n h q all = ticks_wait set (λ (x : Placed). is_outside q.after q.until (deadline set x.kept)) j how n h all

-- the stretch of time after idle ticks is that before them
pub quiet_idles : (set : List Task) (n : ℕ) (h : List Row) (q : Quiet) → IsQuiet set h q → IsQuiet set (rows_of (run.Idles n) ++ h) q
quiet_idles set n h q all = rw (waiting_idle set n h) all

-- the stretch of time before the first row of a run that does not fit is that before the run
pub quiet_until : (set : List Task) (rule : Rule) (r : Run) (m : Misfit) (h : List Row) (q : Quiet) → StopsAt set rule r h m → IsQuiet set h q → IsQuiet set (replicate m.after (row_of r) ++ h) q
quiet_until set rule (run.Release j kept) m h q stop all =
    let none : m.after ≡ 0 = omega (arith, stop.inside) in
    rw none all
quiet_until set rule (run.Ticks j how n) m h q stop all = quiet_ticks set j how m.after h q all
quiet_until set rule (run.Idles n) m h q stop all = quiet_idles set m.after h q all

-- a release ends the stretch of time at the job's deadline
pub quiet_release : (set : List Task) (j : JobId) (h : List Row) (q : Quiet) (deadline : ℕ) → deadline ≤ ticks h + period_in (task_at set j.task.0) → IsQuiet set h q →
    IsQuiet set (rows_of (run.Release j true) ++ h) (record { after = q.after; until = min q.until deadline })
quiet_release set j h q d e all =
    let more = list_all-weaker (λ (x : Placed). is_outside q.after q.until (deadline set x.kept)) (λ (x : Placed). is_outside q.after (min q.until d) (deadline set x.kept))
    (λ x. outside_sooner q.after q.until (min q.until d) (deadline set x.kept) (omega arith)) (waiting set h) all in
    let here : is_outside q.after (min q.until d) (ticks h + period_in (task_at set j.task.0)) ≡ true = grind (arith, nat_tests, e) in
    rw (here, more) refl

-- the entries have no deadline in a stretch of time exactly if the pending jobs have none
pub quiet_same : (set : List Task) (rule : Rule) (h : List Row) (s : State) (q : Quiet) → Tracks set rule h s →
    are_quiet set q.after q.until s.waiting.entries ≡ list_all (λ (x : Placed). is_outside q.after q.until (deadline set x.kept)) (waiting set h)
quiet_same set rule h s q t = same_all s.waiting.entries (entry_of set rule h) (waiting set h) t.waiting (λ e. is_outside q.after q.until (deadline_at set e))

-- in a stretch of time in which no entry has its deadline no job turns late
pub none_turned : (set : List Task) (after until since now : ℕ) → after ≤ since → now < until → (es : List Entry) → are_quiet set after until es ≡ true → turned_of set since now es ≡ []
none_turned set after until since now a b [] h = refl
none_turned set after until since now a b (e ∷ es) h = grind (arith, nat_tests, none_turned set after until since now a b es)

-- no deadline is in an empty stretch of time
pub quiet_empty : (set : List Task) (h : List Row) → IsQuiet set h (record { after = 0; until = 0 })
quiet_empty set h = none (waiting set h)
  where
    none : (xs : List Placed) → list_all (λ (x : Placed). is_outside 0 0 (deadline set x.kept)) xs ≡ true
    none [] = refl
    none (x ∷ xs) = grind (arith, nat_tests, none xs)
