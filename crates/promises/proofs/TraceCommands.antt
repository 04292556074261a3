-- What the commands on a trace promise: `judge`, `chart`, `report` and `migrate`.
use Rattle.std.proofs.Common.{◌≡◌, ◌≢◌, ◌⊎◌, inl, inr, ℕ, ◌^◌, nat_le, if◌then◌else◌, Bool, true, false, List, ◌++◌, reverse, Option, Some, Result, Ok, Err, refl, sym, ap, ◌∙◌, subst, arith, le-leb}
use Rattle.std.specs.List.{AllByRecursion}
use Rattle.mc_world.specs.Shelf.{Files}
use Rattle.mc_task.specs.declared.task.Rule.{Rule}
use Rattle.mc_task.specs.declared.task.Rule.TheVariants.{Virtual}
use Rattle.mc_task.specs.TaskSet.{Set, AreTasks}
use Rattle.mc_model.specs.declared.row.Row.{Row}
use Rattle.mc_model.specs.Rows.{ticks}
use Rattle.mc_model.specs.declared.run.Run.{Run}
use Rattle.mc_model.specs.Runs.{pack}
use Rattle.mc_model.specs.Legal.{Legal, IsOfSet}
use Rattle.mc_model.specs.Late.{late}
use Rattle.mc_model.specs.TraceText.{trace_text}
use Rattle.mc_model.specs.Verdict.{first_unfit, verdict}
use Rattle.mc_model.proofs.Verdicts.{legal_by_verdict, verdict-good}
use Rattle.demand_law.proofs.Laws.{none_late}
use Rattle.sched_chart.specs.ChartText.{chart_text}
use Rattle.csv_records.specs.declared.fault.Fault.{Fault}
use Rattle.trace_format.specs.declared.fault.TraceCause.{TraceCause}
use Rattle.trace_format.specs.TraceFile.{trace_file}
use Rattle.trace_format.proofs.RunsOfSet.{runs_of_set}
use Rattle.trace_commands.specs.declared.action.TraceAction.{TraceAction}
use Rattle.trace_commands.specs.declared.action.TraceAction.TheVariants.{JudgeBy, Chart, Migrate}
use Rattle.command_line.specs.declared.form.Form.TheVariants as form
use Rattle.trace_commands.specs.declared.on_trace.TraceCommand.{TraceCommand}
use Rattle.replies.specs.Reply.{Reply, reply_of}
use Rattle.replies.specs.Refusal.{Refusal, Trace, BadTrace, LongChart, status_of}
use Rattle.replies.specs.Reading.{◌>>=◌, refused_as, reply_by}
use Rattle.command.specs.Command.{Command, answer, fetch}
use Rattle.command.specs.Outcome.{IsAnswer}
use Rattle.command.specs.Admitted.{with_rule, tested}
use Rattle.command.specs.declared.admitted.SetWithRule.{SetWithRule}
use Rattle.trace_commands.specs.OnTrace.{is_good, good_text, judged, output_for, on_trace}
use Rattle.trace_commands.proofs.GoodTrace.{no_fault_in, rows_of_runs}
use Rattle.promises.specs.Headline.{bytes_of, IsAdmitted, SchedulesExactly, trace_of, SaysTrace, WritesAgain, Finds, FindsUnder}
use Rattle.promises.specs.RightText.{WritesAbout, WritesAboutUnder}
use Rattle.promises.specs.Complete.{IsShortEnough, FindsEach, FindsBy, FindsAll}
use Rattle.promises.proofs.AnswerSteps.{KeepsPromises, same_status, same_written, on_set, fetch_accepts, answer_by_bytes, answer_by_set}
use Rattle.promises.proofs.AdmittedSets.{rule_holds, legal_is_timely, file_says_admitted, answer_by_admitted, schedules_exactly}
use Rattle.promises.proofs.TraceTexts.{rewritten_text_is_read}

-- the answer by the bytes of a trace file, of the set under the rule
abbrev by_trace : TraceAction → SetWithRule → List ℕ → Command
by_trace action ruled more = answer (λ reply. reply ≡ reply_by (output_for action ruled more))

-- the command that writes about the trace in a trace file, of the set under the rule
abbrev on_trace_file : TraceAction → List ℕ → SetWithRule → Command
on_trace_file action trace ruled = fetch trace (2 ^ 27) (by_trace action ruled)

-- a command writes its text about each good trace, except a chart that is too long
short_has_text : (action : TraceAction) (ruled : SetWithRule) (h : List Row) → IsShortEnough action h → (text : List ℕ) × (good_text action ruled h ≡ Ok text)
short_has_text Chart ruled h short = (chart_text ruled.set.tasks h, rw (le-leb (ticks h) 2000000 short) refl)
short_has_text action ruled h k = (_, refl)

-- a good trace about which a command writes no text is refused with status 5
no_text_is_5 : (action : TraceAction) (ruled : SetWithRule) (h : List Row) (refusal : Refusal) → good_text action ruled h ≡ Err refusal → status_of refusal ≡ 5
no_text_is_5 Chart ruled h refusal k = go (nat_le (ticks h) 2000000) k
  where
    go : (b : Bool) → (if b then Ok (chart_text ruled.set.tasks h) else Err (LongChart (ticks h))) ≡ Err refusal → status_of refusal ≡ 5
    go true e = cc
    go false e = let same : LongChart (ticks h) ≡ refusal = cc in rw (← same) refl
no_text_is_5 action ruled h refusal k = cc

-- the reply to the rows of a trace reports with status 6 that the trace is not good, or is the command's text about a good trace
abbrev IsJudged : TraceAction → SetWithRule → List Row → Reply → Type 0
IsJudged action ruled h reply =
    ((is_good (verdict ruled.set.tasks ruled.rule h) ≡ false) × (reply.status ≡ 6))
    ⊎ ((text : List ℕ) × (is_good (verdict ruled.set.tasks ruled.rule h) ≡ true) × (good_text action ruled h ≡ Ok text) × (reply ≡ reply_of 0 text))

is_judged : (action : TraceAction) (ruled : SetWithRule) (h : List Row) (reply : Reply) → reply ≡ reply_by (judged action ruled h) → reply.status ≢ 5 → IsJudged action ruled h reply
is_judged action ruled h reply k not_5 = go (is_good (verdict ruled.set.tasks ruled.rule h)) refl k
  where
    with_text : is_good (verdict ruled.set.tasks ruled.rule h) ≡ true → (t : Result (List ℕ) Refusal) → good_text action ruled h ≡ t → reply ≡ reply_by t
        → IsJudged action ruled h reply
    with_text good (Ok text) e k = inr (text, good, e, k)
    with_text good (Err refusal) e k = absurd (not_5 (same_status k ∙ no_text_is_5 action ruled h refusal e))

    go : (b : Bool) → is_good (verdict ruled.set.tasks ruled.rule h) ≡ b
        → reply ≡ reply_by (if b then good_text action ruled h else Err (BadTrace ruled.set.tasks (verdict ruled.set.tasks ruled.rule h))) → IsJudged action ruled h reply
    go true e k = with_text e (good_text action ruled h) refl k
    go false e k = inl (e, same_status k)

-- if the status of a reply by what a reader of traces returned is not that of the reader's refusals, it returned runs, and the
-- reply is one by their rows
reader_gives_runs : (read : Result (List Run) (Fault TraceCause)) (f : List Row → Result (List ℕ) Refusal) (reply : Reply)
    → reply ≡ reply_by (refused_as Trace read >>= (λ runs. Ok (trace_of runs)) >>= f) → reply.status ≢ 5 → (runs : List Run) × (read ≡ Ok runs) × (reply ≡ reply_by (f (trace_of runs)))
reader_gives_runs (Ok runs) f reply k not_5 = (runs, refl, k)
reader_gives_runs (Err fault) f reply k not_5 = absurd (not_5 (same_status k))

-- what `migrate` writes of a trace that it finds legal is a trace file of the same rows
writes_again : (action : TraceAction) (ruled : SetWithRule) (more : List ℕ) (runs : List Run) (text old : List ℕ) (new : Option (List ℕ)) → AreTasks ruled.set.tasks
    → SaysTrace more ruled.set.tasks runs → Legal ruled.set.tasks ruled.rule (trace_of runs) → good_text action ruled (trace_of runs) ≡ Ok text → new ≡ Some (old ++ text)
    → WritesAgain action ruled.set.tasks runs old new
writes_again Migrate ruled more runs text old new is said legal t w =
    let same : trace_text ruled.set.tasks (reverse (trace_of runs)) ≡ text = cc in
    let (read, rows) = rewritten_text_is_read ruled.set.tasks ruled.rule more runs is said.1 legal in
    (text, pack (reverse (trace_of runs)), w, subst (λ (bytes : List ℕ). trace_file ruled.set.tasks bytes ≡ Ok (pack (reverse (trace_of runs)))) same read, rows)
writes_again action ruled more runs text old new is said legal t w = tt

-- a legal trace of an admitted set is good
legal_is_good : {bytes : List ℕ} (set : Set) (rule : Rule) (h : List Row) → IsAdmitted bytes set rule → Legal set.tasks rule h → is_good (verdict set.tasks rule h) ≡ true
legal_is_good set rule h admitted legal = let s = rule_holds set rule admitted in ap is_good (verdict-good set.tasks rule h legal (none_late set.tasks rule h s.0.each s.1 legal))

module _ (files : Files) (reply : Reply) (action : TraceAction) (trace : List ℕ) where
  -- a reply to a command on the trace in a file, of the set under the rule
  module _ (ruled : SetWithRule) (h : IsAnswer files 2 (on_trace_file action trace ruled) reply) where
    -- if the status is none of the file's refusals, the file says runs, the rows of which are of the set, and the reply judges them
    file_says_trace : reply.status ≢ 7 → reply.status ≢ 5
        → (runs : List Run) × SaysTrace (bytes_of files trace) ruled.set.tasks runs × AllByRecursion (IsOfSet ruled.set.tasks) (trace_of runs) × IsJudged action ruled (trace_of runs) reply
    file_says_trace not_7 not_5 =
        let more = bytes_of files trace in
        let (short, by_bytes) = fetch_accepts files reply 2 (2 ^ 27) trace (by_trace action ruled) h not_7 in
        let (runs, is, by_rows) = reader_gives_runs (trace_file ruled.set.tasks more) (judged action ruled) reply by_bytes not_5 in
        (runs, (short, is), rows_of_runs ruled.set.tasks runs (runs_of_set ruled.set.tasks more runs is), is_judged action ruled (trace_of runs) reply by_rows not_5)

    -- a good trace that is short enough for the command gets status 0
    good_gets_0 : (runs : List Run) → SaysTrace (bytes_of files trace) ruled.set.tasks runs → is_good (verdict ruled.set.tasks ruled.rule (trace_of runs)) ≡ true
        → IsShortEnough action (trace_of runs) → reply.status ≡ 0
    good_gets_0 runs said good is =
        let (text, t) = short_has_text action ruled (trace_of runs) is in
        let writes : judged action ruled (trace_of runs) ≡ Ok text = rw (good, t) refl in
        let rows = ap (λ read. (refused_as Trace read >>= (λ runs. Ok (trace_of runs))) >>= judged action ruled) said.1 in
        same_status (answer_by_bytes files reply 2 (2 ^ 27) trace (by_trace action ruled) h said.0 ∙ ap reply_by (rows ∙ writes))

  -- what a command on a trace promises under the test's rule
  keeps_under_test : (tasks old : List ℕ) → IsAnswer files 1 (on_set tasks tested (on_trace_file action trace)) reply
      → (SchedulesExactly (bytes_of files tasks) reply.status × Finds action (bytes_of files tasks) (bytes_of files trace) old reply.status (Some (old ++ reply.text)))
      × WritesAbout action (bytes_of files tasks) (bytes_of files trace) old reply.status (Some (old ++ reply.text))
      × FindsEach action (bytes_of files tasks) (bytes_of files trace) reply.status × Unit {0}
  keeps_under_test tasks old h = (
    (
      schedules_exactly files reply tasks (on_trace_file action trace) h not_1,
      record {
        finds = λ e. (let (set, rule, runs, text, legal, admitted, said, t, w) = good e in (
          set,
          rule,
          runs,
          admitted,
          said,
          legal_is_timely set rule (trace_of runs) admitted legal,
          writes_again action (with_rule rule set) more runs text old (Some (old ++ reply.text)) (rule_holds set rule admitted).0 said legal t w,
        ));
        illegal = illegal;
      },
    ),
    λ e. (let (set, rule, runs, text, legal, admitted, said, t, w) = good e in (set, rule, runs, text, admitted, said, t, w)),
    λ set rule runs admitted said legal is.
        inl (good_gets_0 (with_rule rule set) (answer_by_admitted files reply tasks (on_trace_file action trace) h set rule admitted) runs said (legal_is_good set rule (trace_of runs) admitted legal) is),
    tt,
  )
    where
      bytes : List ℕ
      bytes = bytes_of files tasks

      more : List ℕ
      more = bytes_of files trace

      not_1 : (ruled : SetWithRule) → IsAnswer files 2 (on_trace_file action trace ruled) reply → reply.status ≢ 1
      not_1 ruled k e =
          let (t, said, of, verdict) = file_says_trace ruled k (omega arith) (omega arith) in
          elim verdict [ inl bad ↦ absurd (omega (arith, bad.1)) | inr w ↦ absurd (omega (arith, same_status w.3)) ]

      good : reply.status ≡ 0 → (set : Set) × (rule : Rule) × (runs : List Run) × (text : List ℕ) × Legal set.tasks rule (trace_of runs)
          × IsAdmitted bytes set rule × SaysTrace more set.tasks runs × (good_text action (with_rule rule set) (trace_of runs) ≡ Ok text)
          × (Some (old ++ reply.text) ≡ Some (old ++ text))
      good e =
          let (set, rule, admitted, k) = file_says_admitted files reply tasks (on_trace_file action trace) h (omega arith) (omega arith) (omega arith) in
          let (runs, said, of, verdict) = file_says_trace (with_rule rule set) k (omega arith) (omega arith) in
          elim verdict [
            | inl bad ↦ absurd (omega (arith, bad.1))
            | inr w ↦
                let t = trace_of runs in
                let legal = legal_by_verdict set.tasks rule t of (no_fault_in (first_unfit set.tasks rule t) (late set.tasks t) w.1) in
                (set, rule, runs, w.0, legal, admitted, said, w.2, same_written old w.3)
          ]

      illegal : reply.status ≡ 6 → (set : Set) × (rule : Rule) × (runs : List Run) × IsAdmitted bytes set rule × SaysTrace more set.tasks runs
          × (Legal set.tasks rule (trace_of runs) → ⊥)
      illegal e =
          let (set, rule, admitted, k) = file_says_admitted files reply tasks (on_trace_file action trace) h (omega arith) (omega arith) (omega arith) in
          let (runs, said, of, verdict) = file_says_trace (with_rule rule set) k (omega arith) (omega arith) in
          elim verdict [
            | inl bad ↦ (set, rule, runs, admitted, said, λ legal. (let clash : true ≡ false = sym (legal_is_good set rule (trace_of runs) admitted legal) ∙ bad.0 in cc))
            | inr w ↦ absurd (omega (arith, same_status w.3))
          ]

-- what `judge` promises under a scale that the words give
keeps_under_scale : (p q : ℕ) (tasks trace : List ℕ) (files : Files) (reply : Reply) → IsAnswer files 1 (on_trace (JudgeBy p q) tasks trace) reply
    → FindsBy (Virtual p q) (bytes_of files tasks) (bytes_of files trace) reply.status
keeps_under_scale p q tasks trace files reply h set runs says said legal none =
    let ruled = with_rule (Virtual p q) set in
    let by_set = answer_by_set files reply tasks (λ set. Ok (with_rule (Virtual p q) set)) (on_trace_file (JudgeBy p q) trace) h set (Ok ruled) says refl in
    inl (good_gets_0 files reply (JudgeBy p q) trace ruled by_set runs said (ap is_good (verdict-good set.tasks (Virtual p q) (trace_of runs) legal none)) tt)

-- what a command on a trace promises, under the rule that the words give or else the test's
under_rule : (action : TraceAction) (tasks trace : List ℕ) (files : Files) (old : List ℕ) (reply : Reply) → IsAnswer files 1 (on_trace action tasks trace) reply
    → FindsUnder action (bytes_of files tasks) (bytes_of files trace) old reply.status (Some (old ++ reply.text))
    × WritesAboutUnder action (bytes_of files tasks) (bytes_of files trace) old reply.status (Some (old ++ reply.text))
    × FindsAll action (bytes_of files tasks) (bytes_of files trace) reply.status × Unit {0}
under_rule (JudgeBy p q) tasks trace files old reply h = (tt, tt, keeps_under_scale p q tasks trace files reply h, tt)
under_rule action tasks trace files old reply h = keeps_under_test files reply action trace tasks old h

pub trace_keeps : (command : TraceCommand) → KeepsPromises (form.OnTrace command)
trace_keeps command = under_rule command.action command.tasks command.trace
