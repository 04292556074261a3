-- What the commands on several processors promise: `partition` and `runall`.
use Rattle.std.proofs.Common.{◌≡◌, ◌≢◌, ◌⊎◌, ◌≤◌, inl, inr, ℕ, nat_lt, true, List, [], ◌∷◌, ◌++◌, length, reverse, flat_map, zip, Some, Result, Ok, Err, refl, ap, ◌∙◌, arith}
use Rattle.std.specs.List.{AllByRecursion, AllZip, range_with_len}
use Rattle.mc_task.specs.declared.task.Task.{Task}
use Rattle.mc_world.specs.Shelf.{Files}
use Rattle.mc_task.specs.TaskSet.{Set, AreTasks, task_at, name_in}
use Rattle.mc_model.specs.declared.row.Row.{Row}
use Rattle.mc_model.specs.declared.work.WorkRow.{WorkRow}
use Rattle.mc_model.specs.TraceText.{trace_text}
use Rattle.mc_model.proofs.Lists.{Each-all, Each-filter_if}
use Rattle.mc_model.proofs.RuleHolds.{published-holds}
use Rattle.demand_law.proofs.Promise.{keeps_deadlines}
use Rattle.task_file.proofs.SaysSet.{says_set}
use Rattle.part_fit.specs.FirstFit.{first_fit}
use Rattle.part_fit.specs.Partition.{IsPartition, IsAdmittedPart}
use Rattle.part_fit.specs.PartWork.{part_rows}
use Rattle.part_fit.proofs.Placed.{first_fit-IsPartition}
use Rattle.part_fit.proofs.WorkRows.{part_rows-length}
use Rattle.command_line.specs.declared.form.Form.TheVariants as form
use Rattle.run_commands.proofs.PlannedTrace.{follows-few}
use Rattle.part_commands.specs.declared.partition.PartitionCommand.{PartitionCommand}
use Rattle.part_commands.specs.declared.run_parts.RunAllCommand.{RunAllCommand}
use Rattle.replies.specs.Reply.{Reply}
use Rattle.replies.specs.Refusal.{NoRoom}
use Rattle.replies.specs.Reading.{◌>>=◌, refused_as}
use Rattle.command.specs.Command.{Command, read_or_refuse}
use Rattle.command.specs.Outcome.{IsAnswer}
use Rattle.part_commands.specs.Parted.{Parted, tasks_on, spread, fitted}
use Rattle.part_commands.specs.RunAll.{is_used, used, IsTraceOn, trace_lines}
use Rattle.promises.specs.Headline.{bytes_of, SaysSet, IsSpread, SpreadsExactly, IsTimelyOn, lines_of}
use Rattle.promises.specs.RightText.{WritesParts}
use Rattle.promises.proofs.AnswerSteps.{KeepsPromises, same_status, same_written, on_set, file_says_set, answer_by_set}
use Rattle.promises.proofs.TraceTexts.{text_says_timely}
use Rattle.promises.proofs.WorkFiles.{work-few, file_says_work, answer_by_work}

-- the command that goes on with the set in a task file on processors 1 to m
abbrev on_parts : ℕ → List ℕ → (Parted → Command) → Command
on_parts m tasks next = on_set tasks (λ set. fitted m set.tasks) next

module _ (files : Files) (reply : Reply) (m : ℕ) (next : Parted → Command) where
  -- first fit finds no processor for a task, with status 12, or the reply is an answer by the set on the processors that it finds
  by_fit : (set : Set) → IsAnswer files 2 (read_or_refuse (fitted m set.tasks) next) reply
      → ((task : ℕ) × (first_fit set.tasks m ≡ Err task) × (reply.status ≡ 12)) ⊎ ((of : List ℕ) × (first_fit set.tasks m ≡ Ok of) × IsAnswer files 2 (next (spread set.tasks of)) reply)
  by_fit set h = go (first_fit set.tasks m) refl h
    where
      go : (found : Result (List ℕ) ℕ) → first_fit set.tasks m ≡ found
          → IsAnswer files 2 (read_or_refuse (refused_as (λ k. NoRoom (name_in (task_at set.tasks k)) m) found >>= (λ of. Ok (spread set.tasks of))) next) reply
          → ((task : ℕ) × (first_fit set.tasks m ≡ Err task) × (reply.status ≡ 12)) ⊎ ((of : List ℕ) × (first_fit set.tasks m ≡ Ok of) × IsAnswer files 2 (next (spread set.tasks of)) reply)
      go (Ok of) e k = inr (of, e, k)
      go (Err task) e k = inl (task, e, same_status k)

  -- a reply to a command that goes on with the set in a task file on processors 1 to m
  module _ (tasks : List ℕ) (h : IsAnswer files 1 (on_parts m tasks next) reply) where
    -- status 12 comes exactly if a task fits on no processor, if what comes next has another status
    spreads_exactly : ((x : Parted) → IsAnswer files 2 (next x) reply → reply.status ≢ 12) → SpreadsExactly m (bytes_of files tasks) reply.status
    spreads_exactly other = record { refused = only; refuses = always }
      where
        only : reply.status ≡ 12 → (set : Set) × (task : ℕ) × SaysSet (bytes_of files tasks) set × (first_fit set.tasks m ≡ Err task)
        only e =
            let (set, says, k) = file_says_set files reply tasks (λ set. fitted m set.tasks) next h (omega arith) (omega arith) in
            elim (by_fit set k) [ inl none ↦ (set, none.0, says, none.1) | inr r ↦ absurd (other (spread set.tasks r.0) r.2 e) ]

        always : (set : Set) (task : ℕ) → SaysSet (bytes_of files tasks) set → first_fit set.tasks m ≡ Err task → (reply.status ≡ 12) ⊎ (reply.status ≡ 9)
        always set task says none =
            let refuses : fitted m set.tasks ≡ Err (NoRoom (name_in (task_at set.tasks task)) m) = rw none refl in
            inl (same_status (answer_by_set files reply tasks (λ set. fitted m set.tasks) next h set (Err (NoRoom (name_in (task_at set.tasks task)) m)) says refuses))

    -- with status 0 first fit puts the set's tasks on processors, and the reply is an answer by the set on these
    file_says_spread : reply.status ≡ 0 → (set : Set) × (of : List ℕ) × IsSpread m (bytes_of files tasks) set of × IsAnswer files 2 (next (spread set.tasks of)) reply
    file_says_spread e =
        let (set, says, k) = file_says_set files reply tasks (λ set. fitted m set.tasks) next h (omega arith) (omega arith) in
        elim (by_fit set k) [ inl none ↦ absurd (omega (arith, none.2)) | inr r ↦ (set, r.0, (says, r.1), r.2) ]

    -- if first fit puts the set's tasks on processors, the reply is an answer by the set on these
    answer_by_spread : (set : Set) (of : List ℕ) → IsSpread m (bytes_of files tasks) set of → IsAnswer files 2 (next (spread set.tasks of)) reply
    answer_by_spread set of is =
        let fits : fitted m set.tasks ≡ Ok (spread set.tasks of) = rw is.1 refl in
        answer_by_set files reply tasks (λ set. fitted m set.tasks) next h set (Ok (spread set.tasks of)) is.0 fits

-- first fit puts each task on one processor, and the tasks of each processor are admitted
spread_is_partition : (m : ℕ) (bytes : List ℕ) (set : Set) (of : List ℕ) → IsSpread m bytes set of → IsPartition set.tasks of m
spread_is_partition m bytes set of is = first_fit-IsPartition set.tasks m of (says_set bytes set is.0.1).tasks is.1

pub partition_keeps : (command : PartitionCommand) → KeepsPromises (form.Partition command)
partition_keeps command files old reply h = (
  tt,
  tt,
  tt,
  (
    spreads_exactly files reply command.processors _ command.tasks h (λ on k. omega (arith, same_status k)),
    record {
      writes = λ e. (let (set, of, is, k) = file_says_spread files reply command.processors _ command.tasks h e in
          (set, of, is, spread_is_partition command.processors (bytes_of files command.tasks) set of is, same_written old k));
      complete = λ set of is. inl (same_status (answer_by_spread files reply command.processors _ command.tasks h set of is));
    },
  ),
)

-- the tasks of an admitted part that has some are those of a set
used_are_tasks : (tasks : List Task) → nat_lt 0 (length tasks) ≡ true → IsAdmittedPart tasks → AreTasks tasks
used_are_tasks tasks some admitted = elim admitted [ inl none ↦ (let one = rw none at some in absurd (cc)) | inr are ↦ are.0 ]

-- the text of the trace that follows on a processor is a trace file, whose trace keeps the deadlines
timely_on : (ticks : ℕ) (parted : Parted) (work : List WorkRow) (n : ℕ) (h : List Row) → ticks ≤ 1000000 → length work ≤ 1000000 → is_used parted n ≡ true
    → IsAdmittedPart (tasks_on parted n) → IsTraceOn ticks parted work n h → IsTimelyOn ticks parted n (trace_text (tasks_on parted n) (reverse h))
timely_on ticks parted work n h short rows used admitted is =
    let tasks = used_are_tasks (tasks_on parted n) used admitted in
    let follows = follows-few (tasks_on parted n) is.rule (part_rows n parted.of work) ticks h is.follows in
    let few : length h ≤ 2000000 = omega (arith, short, rows, follows, part_rows-length n parted.of work) in
    let keeps = keeps_deadlines (tasks_on parted n) is.rule h tasks.each (published-holds (tasks_on parted n) is.rule tasks is.test) is.follows.legal in
    (is.rule, is.test, text_says_timely ticks (tasks_on parted n) is.rule h tasks few is.follows.ticks (is.follows.legal, keeps))

-- what is written of the traces on processors with tasks is the lines of trace files whose traces keep the deadlines
all_timely : (ticks : ℕ) (parted : Parted) (work : List WorkRow) (ns : List ℕ) (traces : List (List Row)) → ticks ≤ 1000000 → length work ≤ 1000000
    → AllByRecursion (λ n. is_used parted n ≡ true) ns → ((n : ℕ) → IsAdmittedPart (tasks_on parted n)) → AllZip (IsTraceOn ticks parted work) ns traces
    → (texts : List (List ℕ)) × AllZip (IsTimelyOn ticks parted) ns texts × (flat_map (trace_lines parted) (zip ns traces) ≡ flat_map lines_of (zip ns texts))
all_timely ticks parted work [] [] short rows used admitted h = ([], tt, refl)
all_timely ticks parted work [] (t ∷ ts) short rows used admitted h = absurd h
all_timely ticks parted work (n ∷ ns) [] short rows used admitted h = absurd h
all_timely ticks parted work (n ∷ ns) (t ∷ ts) short rows used admitted h =
    let (texts, timely, same) = all_timely ticks parted work ns ts short rows used.1 admitted h.1 in (
      trace_text (tasks_on parted n) (reverse t) ∷ texts,
      (timely_on ticks parted work n t short rows used.0 (admitted n) h.0, timely),
      ap (λ more. trace_lines parted (n, t) ++ more) same,
    )

-- each processor that is listed among the used ones has tasks
used_have_tasks : (m : ℕ) (parted : Parted) → AllByRecursion (λ n. is_used parted n ≡ true) (used m parted)
used_have_tasks m parted =
    Each-filter_if (λ n. is_used parted n ≡ true) (is_used parted) (range_with_len 1 m)
    (Each-all {P = λ n. is_used parted n ≡ true → is_used parted n ≡ true} (λ n h. h) (range_with_len 1 m))

pub run_all_keeps : (command : RunAllCommand) → command.ticks ≤ 1000000 → KeepsPromises (form.RunAll command)
run_all_keeps command short files old reply h = (
  (
    spreads_exactly files reply command.processors _ command.tasks h (λ on k e.
        (let (rows, says, t) = file_says_work files reply on.set command.work _ k (omega arith) (omega arith) in absurd (omega (arith, same_status t.2)))),
    λ e. (let (set, of, rows, traces, is, says, each, written) = writes e in
        let on : Parted = spread set.tasks of in
        let (texts, timely, same) = all_timely command.ticks on rows (used command.processors on) traces short (work-few set.tasks more rows says.1) (used_have_tasks command.processors on)
        (spread_is_partition command.processors bytes set of is).admitted each in
        (set, of, texts, is, timely, written ∙ ap (λ text. Some (old ++ text)) same)),
  ),
  writes,
  λ set of rows is says.
      inl (same_status (answer_by_work files reply set.tasks command.work _ (answer_by_spread files reply command.processors _ command.tasks h set of is) rows says).2),
  tt,
)
  where
    bytes : List ℕ
    bytes = bytes_of files command.tasks

    more : List ℕ
    more = bytes_of files command.work

    writes : WritesParts command.ticks command.processors bytes more old reply.status (Some (old ++ reply.text))
    writes e =
        let (set, of, is, k) = file_says_spread files reply command.processors _ command.tasks h e in
        let (rows, says, t) = file_says_work files reply set.tasks command.work _ k (omega arith) (omega arith) in
        (set, of, rows, t.0, is, says, t.1, same_written old t.2)
