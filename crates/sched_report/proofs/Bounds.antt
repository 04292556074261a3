-- How large the counts of a trace can be: those of jobs by the number of its runs, those of ticks by its
-- ticks.
use Rattle.std.proofs.Common.{◌≡◌, ℕ, zero, suc, ◌+◌, ◌<◌, ◌≤◌, All, Bool, true, false, not, ◌&&◌, ◌==◌, cond, List, [], ◌∷◌, ◌++◌, length, reverse, replicate, take, drop, get_or, refl, sym, ap, ◌∙◌, subst, arith}
use Rattle.std.proofs.Math.Bool.{and-false}
use Rattle.std.proofs.lemmas.List.{reverse-append, take-append-drop, drop_more, take_all}
use Rattle.std.specs.List.{AllByRecursion}
use Rattle.mc_task.proofs.TaskLemmas.{each_of_all}
use Rattle.mc_model.specs.declared.row.How.{How}
use Rattle.mc_model.specs.declared.run.Run.{Run}
use Rattle.mc_model.specs.declared.run.Run.TheVariants as run
use Rattle.mc_model.specs.Sums.{total}
use Rattle.mc_model.specs.Runs.{rows_of, expand, length_of, IsRun, AreRuns}
use Rattle.mc_model.proofs.Sums.{total-append}
use Rattle.mc_model.proofs.Runs.{alone, ticks-expand, expand-append}
use Rattle.std.proofs.lemmas.List.Elements.{All-from_recursion}
use Rattle.mc_task.specs.declared.task.Task.{Task}
use Rattle.mc_model.specs.declared.row.How.TheVariants.{More, Done, Stop, Over}
use Rattle.mc_model.specs.declared.row.Row.{Row}
use Rattle.mc_model.specs.declared.row.Row.TheVariants.{Release, Tick, Idle}
use Rattle.mc_model.specs.Pending.{released}
use Rattle.mc_model.specs.Rows.{ticks, releases}
use Rattle.mc_model.specs.Legal.{IsOfSet, same_how}
use Rattle.sched_report.specs.ReportText.{how_many, is_of, is_drop_of, is_discarded, is_how_of, is_tick_of, is_tick, is_idle, is_switch}
use Rattle.mc_model.proofs.Lists.{Each}
use Rattle.mc_model.proofs.Ticks.{ticks-append, ticks-reverse}
use Rattle.sched_report.specs.declared.task_tally.TaskTally.{TaskTally}
use Rattle.sched_report.specs.declared.tally.Tally.{Tally}
use Rattle.sched_report.specs.TaskTally.{tally_of, IsSmall}
use Rattle.sched_report.specs.Tally.{numbered, Tallies, HasRoom, IsAmong}
use Rattle.sched_report.proofs.HowMany.{one, one-le, how_many-cons, how_many-le}

-- 1 for a row that is alone in its run: a release, or a tick after which its job does not go on
abbrev event : Row → ℕ
event (Release j kept) = 1
event (Tick j how) = cond (same_how how More) 0 1
event Idle = 0

-- how many rows are alone in their runs
abbrev pub events : List Row → ℕ
events h = total event h

released-le : (h : List Row) → length (released h) ≤ events h
released-le [] = omega arith
released-le (Release j true ∷ g) = omega (arith, released-le g)
released-le (row ∷ g) = omega (arith, released-le g)

releases-le : (h : List Row) (k : ℕ) → releases h k ≤ events h
releases-le [] k = omega arith
releases-le (Release j kept ∷ g) k = omega (arith, releases-le g k, one-le (j.task.0 == k))
releases-le (row ∷ g) k = omega (arith, releases-le g k)

-- a test that only rows alone in their runs pass counts at most as many rows as are alone in their runs
few_events : (p : Row → Bool) → ((row : Row) → one (p row) ≤ event row) → (h : List Row) → how_many p h ≤ events h
few_events p le [] = omega arith
few_events p le (row ∷ g) = omega (arith, le row, few_events p le g, how_many-cons p row g)

drop-le : (k : ℕ) (row : Row) → one (is_drop_of k row) ≤ event row
drop-le k (Release j kept) = one-le ((j.task.0 == k) && not kept)
drop-le k row = omega arith

-- a tick with another outcome than More is alone in its run
how-le : (k : ℕ) (how : How) → same_how More how ≡ false → (row : Row) → one (is_how_of k how row) ≤ event row
how-le k how other (Tick j More) = rw (other, and-false) (omega arith)
how-le k how other (Tick j kind) = one-le ((j.task.0 == k) && same_how kind how)
how-le k how other row = omega arith

switch-le : (row : Row) → one (is_switch row) ≤ event row
switch-le (Tick j Over) = omega arith
switch-le row = omega arith

-- the ticks of a task are at most all ticks
ticks_of-le : (k : ℕ) (h : List Row) → how_many (is_tick_of k) h ≤ ticks h
ticks_of-le k [] = omega arith
ticks_of-le k (Tick j how ∷ g) = omega (arith, ticks_of-le k g, one-le (j.task.0 == k), how_many-cons (is_tick_of k) (Tick j how) g)
ticks_of-le k (row ∷ g) = omega (arith, ticks_of-le k g)

-- rows in a run of several are not alone in it
no_events : (row : Row) → event row ≡ 0 → (n : ℕ) → events (replicate n row) ≡ 0
no_events row none zero = refl
no_events row none (suc n) = omega (arith, none, no_events row none n)

-- a run has at most one row that is alone
run_event : (r : Run) → IsRun r → events (rows_of r) ≤ 1
run_event (run.Release j kept) v = omega arith
run_event (run.Ticks j More n) v = omega (arith, no_events (Tick j More) refl n)
run_event (run.Ticks j how n) v = rw (alone j how n v (λ e. cc)) (omega arith)
run_event (run.Idles n) v = omega (arith, no_events Idle refl n)

-- there are at most as many rows alone in their runs as runs
events_expand : (runs : List Run) → AllByRecursion IsRun runs → events (expand runs) ≤ length runs
events_expand [] v = omega arith
events_expand (r ∷ runs) v = omega (arith, run_event r v.0, events_expand runs v.1, total-append event (rows_of r) (expand runs))

events-reverse : (h : List Row) → events (reverse h) ≡ events h
events-reverse [] = refl
events-reverse (row ∷ h) =
    let turned : events (reverse (row ∷ h)) ≡ events (reverse h) + events (row ∷ []) = ap events (reverse-append (row ∷ []) h) ∙ total-append event (reverse h) (row ∷ []) in
    omega (arith, turned, events-reverse h)

-- the rows of a valid list of runs, and of its first runs, are few enough to count
pub record AreFew (h : List Row) : Type 0 where
  pub events : events h ≤ 2000000
  pub ticks : ticks h ≤ 100000000

pub few_read : (runs : List Run) (i : ℕ) → AreRuns runs → AreFew (reverse (expand (take i runs)))
few_read runs i v = record {
  events =
      let all = events_expand runs (each_of_all IsRun runs v.each) in
      let parts = total-append event (expand (take i runs)) (expand (drop i runs)) in
      omega (arith, all, v.few, ap events whole, parts, events-reverse (expand (take i runs)));
  ticks =
      let parts = ticks-append (expand (take i runs)) (expand (drop i runs)) in
      omega (arith, v.short, ap ticks whole, parts, ticks-expand runs, ticks-reverse (expand (take i runs)));
}
  where
    whole : expand runs ≡ expand (take i runs) ++ expand (drop i runs)
    whole = ap expand (sym (take-append-drop i runs)) ∙ expand-append (take i runs) (drop i runs)

pub few_rows : (runs : List Run) → AreRuns runs → AreFew (reverse (expand runs))
few_rows runs v = subst (λ (xs : List Run). AreFew (reverse (expand xs))) (take_all (length runs) runs (omega arith)) (few_read runs (length runs) v)

-- each Tick or Idle row is a tick
pub ticks-idle : (h : List Row) → ticks h ≡ how_many is_tick h + how_many is_idle h
ticks-idle [] = omega arith
ticks-idle (Release j kept ∷ g) = ticks-idle g
ticks-idle (Tick j how ∷ g) = omega (arith, ticks-idle g, how_many-cons is_tick (Tick j how) g)
ticks-idle (Idle ∷ g) = omega (arith, ticks-idle g, how_many-cons is_idle Idle g)

-- at most 2,000,000 ticks of one task have a given outcome other than More
pub few_ended : (h : List Row) (k : ℕ) (how : How) → same_how More how ≡ false → AreFew h → how_many (is_how_of k how) h ≤ 2000000
few_ended h k how other few = omega (arith, few.events, few_events (is_how_of k how) (how-le k how other) h)

-- all that is counted of a task is small enough
pub small : (tasks : List Task) (h : List Row) (k : ℕ) → AreFew h → IsSmall (tally_of tasks h k)
small tasks h k few = record {
  released = omega (arith, few.events, releases-le h k);
  kept = omega (arith, few.events, released-le h, how_many-le (is_of k) (released h));
  dropped = omega (arith, few.events, few_events (is_drop_of k) (drop-le k) h);
  discarded = omega (arith, few.events, released-le h, how_many-le (λ i. is_of k i && is_discarded tasks h i) (released h));
  done = omega (arith, few_ended h k Done refl few);
  stopped = omega (arith, few_ended h k Stop refl few);
  ticks = omega (arith, few.ticks, ticks_of-le k h);
}

each_numbered : (P : TaskTally → Type 0) (f : ℕ → TaskTally) (k : ℕ) (ts : List Task) → ((m : ℕ) → P (f m)) → Each P (numbered f k ts)
each_numbered P f k [] h = tt
each_numbered P f k (t ∷ ts) h = (h k, each_numbered P f (k + 1) ts h)

-- all that is counted of all tasks is small enough
pub all_small : (tasks : List Task) (h : List Row) (s : List TaskTally) → s ≡ numbered (tally_of tasks h) 1 tasks → AreFew h → All IsSmall s
all_small tasks h s is few =
    subst (All IsSmall) (sym is)
    (All-from_recursion IsSmall (numbered (tally_of tasks h) 1 tasks) (each_numbered IsSmall (tally_of tasks h) 1 tasks (λ m. small tasks h m few)))

-- the tally of rows that are few enough has capacity for one more run
pub has_room : (tasks : List Task) (h : List Row) (s : Tally) → Tallies tasks h s → AreFew h → HasRoom s
has_room tasks h s t few = record {
  tasks = all_small tasks h s.tasks.items t.tasks few;
  tick = let n = few.ticks in omega (arith, n, t.tick);
  idle = let n = few.ticks in omega (arith, n, t.idle, ticks-idle h);
  switches = let e = few.events in omega (arith, e, t.switches, few_events is_switch switch-le h);
}

-- a row of the set is of one of its tasks
pub among : (tasks : List Task) (n : ℕ) (row : Row) → n ≡ length tasks → IsOfSet tasks row → IsAmong n row
among tasks n Idle e i = tt
among tasks n row e i = rw e i

-- no run of a valid list has more than 100,000,000 ticks
pub short_run : (runs : List Run) (i : ℕ) (d : Run) → i < length runs → AreRuns runs → length_of (get_or runs i d) ≤ 100000000
short_run runs i d h v =
    let parts = total-append length_of (take i runs) (drop i runs) in
    omega (arith, v.short, parts, ap (total length_of) (take-append-drop i runs), ap (total length_of) (drop_more runs i d h))
