-- A trace that is judged while it is read: before and after one more run, and after the stored runs are judged.
use Rattle.std.proofs.Common.{◌≡◌, ◌+◌, ◌^◌, ◌≤◌, Bool, true, false, All, List, [], ◌∷◌, ◌++◌, length, reverse, sym, ap, subst, ◌∙◌, arith, append-nil}
use Rattle.std.proofs.lemmas.List.{append_assoc, length-append, length-reverse, reverse-append}
use Rattle.std.proofs.lemmas.List.Elements.{All-nil, All-push}
use Rattle.mc_task.specs.declared.task.Rule.{Rule}
use Rattle.mc_task.specs.declared.task.Task.{Task}
use Rattle.mc_task.specs.TaskSet.{Set}
use Rattle.mc_model.specs.declared.row.Row.{Row}
use Rattle.mc_model.specs.declared.run.Run.{Run}
use Rattle.mc_model.specs.Sums.{total}
use Rattle.mc_model.specs.Runs.{expand, length_of, AreRuns, IsRun, IsRunOfSet}
use Rattle.mc_model.proofs.Runs.{expand-append, length-expand-le}
use Rattle.mc_model.proofs.Sums.{total-append}
use Rattle.trace_format.specs.Reading.{MayComeNext}
use Rattle.trace_judge.specs.Watched.{Watched, Watches, fits_so_far, seen}
use Rattle.trace_judge.proofs.Watching.{none_found, tracked}
use Rattle.trace_commands.specs.declared.judged_text.Judging.{Judging}
use Rattle.trace_commands.specs.JudgedText.{IsMonitorOf, HasRead}

-- a monitor that has seen the rows of more runs is a monitor of all these runs
pub seen_more : (tasks : List Task) (rule : Rule) (before more : List Run) (m new : Watched) → IsMonitorOf tasks rule before m → new.set ≡ m.set → new.rule ≡ m.rule
    → ((h : List Row) → Watches h m → Watches (reverse (expand more) ++ h) new) → IsMonitorOf tasks rule (before ++ more) new
seen_more tasks rule before more m new is set same watches = record {
  same_tasks = ap (λ (s : Set). s.tasks) set ∙ is.same_tasks;
  same_rule = same ∙ is.same_rule;
  seen_rows = subst (λ (h : List Row). Watches h new) (sym (ap reverse (expand-append before more) ∙ reverse-append (expand before) (expand more))) (watches (reverse (expand before)) is.seen_rows);
}

-- a monitor has capacity for the rows of later runs of a trace
pub room_left : (tasks : List Task) (rule : Rule) (before more : List Run) (m : Watched) → IsMonitorOf tasks rule before m → length (before ++ more) ≤ 2000000 → total length_of (before ++ more) ≤ 100000000
    → fits_so_far m ≡ true → seen m + length (expand more) ≤ 2 ^ 62
room_left tasks rule before more m is few short fits =
    let k = tracked (reverse (expand before)) m (none_found m.unfit fits) is.seen_rows in
    let rows = k.1.rows in
    let all : length (expand (before ++ more)) ≡ length (expand before) + length (expand more) = ap length (expand-append before more) ∙ length-append (expand before) (expand more) in
    omega (arith, rows, few, short, all, length-reverse (expand before), length-expand-le (before ++ more))

-- a list of no runs is valid
pub no_runs : AreRuns []
no_runs = record { each = All-nil IsRun; few = omega arith; short = omega arith }

-- a run added to all runs is a run added to the stored ones
pub with_next : (before first items : List Run) (run : Run) → before ≡ first ++ items → before ++ run ∷ [] ≡ first ++ (items ++ run ∷ [])
with_next before first items run split = ap (λ xs. xs ++ run ∷ []) split ∙ append_assoc first items (run ∷ [])

-- with a run that may come next there are at most 2,000,000 runs, of at most 100,000,000 ticks
pub few_next : (tasks : List Task) (before : List Run) (run : Run) → MayComeNext tasks before run → (length (before ++ run ∷ []) ≤ 2000000) × (total length_of (before ++ run ∷ []) ≤ 100000000)
few_next tasks before run next =
    let few = next.0 in
    let short = next.1.short in
    (omega (arith, few, length-append before (run ∷ [])), omega (arith, short, total-append length_of before (run ∷ [])))

-- if a run that may come next is stored, the runs with that one were read
pub one_stored : (keeps_runs : Bool) (rule : Rule) (tasks : List Task) (before : List Run) (run : Run) (old new : Judging) → HasRead keeps_runs rule tasks before old
    → (tasks' : List Task) (before' : List Run) → HasRead keeps_runs rule tasks' before' old → MayComeNext tasks' before' run
    → new.monitor ≡ old.monitor → new.runs.items ≡ old.runs.items ++ run ∷ [] → HasRead keeps_runs rule tasks (before ++ run ∷ []) new
one_stored keeps_runs rule tasks before run old new has tasks' before' had next same more =
    let items = old.runs.items in
    let tasks_are : tasks' ≡ tasks = sym had.judged.same_tasks ∙ has.judged.same_tasks in
    let next_split = with_next before' had.first items run had.split in
    let bounds = few_next tasks' before' run next in
    let few : length (had.first ++ (items ++ run ∷ [])) ≤ 2000000 = subst (λ xs. length xs ≤ 2000000) next_split bounds.0 in
    let short : total length_of (had.first ++ (items ++ run ∷ [])) ≤ 100000000 = subst (λ xs. total length_of xs ≤ 100000000) next_split bounds.1 in
    let stored : AreRuns (items ++ run ∷ []) = record {
      each = All-push IsRun items run has.valid.each next.1.is_run;
      few = omega (arith, few, length-append had.first (items ++ run ∷ []));
      short = omega (arith, short, total-append length_of had.first (items ++ run ∷ []));
    } in
    let room = room_left tasks' rule had.first (items ++ run ∷ []) old.monitor had.judged few short in
    record {
      first = has.first;
      split = with_next before has.first items run has.split ∙ ap (λ xs. has.first ++ xs) (sym more);
      judged = subst (IsMonitorOf tasks rule has.first) (sym same) has.judged;
      keeps = has.keeps;
      valid = subst AreRuns (sym more) stored;
      of_set = subst (All (IsRunOfSet tasks)) (sym more) (All-push (IsRunOfSet tasks) items run has.of_set (subst (λ ts. IsRunOfSet ts run) tasks_are next.1.task));
      room = rw (same, more) room;
    }

-- if the stored runs and one more are judged, and none is stored, the runs with that one were read
pub stored_judged : (keeps_runs : Bool) (rule : Rule) (tasks : List Task) (before : List Run) (run : Run) (old new : Judging) → HasRead keeps_runs rule tasks before old
    → (tasks' : List Task) (before' : List Run) → HasRead keeps_runs rule tasks' before' old → MayComeNext tasks' before' run
    → keeps_runs ≡ false → new.monitor.set ≡ old.monitor.set → new.monitor.rule ≡ old.monitor.rule
    → ((h : List Row) → Watches h old.monitor → Watches (reverse (expand (old.runs.items ++ run ∷ [])) ++ h) new.monitor)
    → new.runs.items ≡ [] → HasRead keeps_runs rule tasks (before ++ run ∷ []) new
stored_judged keeps_runs rule tasks before run old new has tasks' before' had next none set same watches empty =
    let more = old.runs.items ++ run ∷ [] in
    let bounds = few_next tasks' before' run next in
    let is = seen_more tasks rule has.first more old.monitor new.monitor has.judged set same watches in
    let was = seen_more tasks' rule had.first more old.monitor new.monitor had.judged set same watches in
    let all = with_next before has.first old.runs.items run has.split in
    let all' = with_next before' had.first old.runs.items run had.split in
    let few : length ((had.first ++ more) ++ []) ≤ 2000000 = subst (λ xs. length xs ≤ 2000000) (all' ∙ sym (append-nil (had.first ++ more))) bounds.0 in
    let short : total length_of ((had.first ++ more) ++ []) ≤ 100000000 = subst (λ xs. total length_of xs ≤ 100000000) (all' ∙ sym (append-nil (had.first ++ more))) bounds.1 in
    record {
      first = has.first ++ more;
      split = all ∙ sym (ap (λ xs. (has.first ++ more) ++ xs) empty ∙ append-nil (has.first ++ more));
      judged = is;
      keeps = λ kept. absurd (cc);
      valid = subst AreRuns (sym empty) no_runs;
      of_set = subst (All (IsRunOfSet tasks)) (sym empty) (All-nil (IsRunOfSet tasks));
      room = λ fits. rw empty (room_left tasks' rule (had.first ++ more) [] new.monitor was few short fits);
    }
