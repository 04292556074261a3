-- What `run`, `live` and `soak` promise.
use Rattle.std.proofs.Common.{inl, ◌≤◌, ◌++◌, length, reverse, Some, arith}
use Rattle.mc_model.specs.TraceText.{trace_text}
use Rattle.mc_model.proofs.RuleHolds.{published-holds}
use Rattle.demand_law.proofs.Promise.{keeps_deadlines}
use Rattle.set_gen.specs.Words.{words_of}
use Rattle.set_gen.proofs.Admitted.{generated_sets-admitted}
use Rattle.command_line.specs.declared.form.Form.TheVariants as form
use Rattle.run_commands.specs.declared.run.RunCommand.{RunCommand}
use Rattle.run_commands.specs.declared.live.LiveCommand.{LiveCommand}
use Rattle.run_commands.specs.declared.soak.SoakCommand.{SoakCommand}
use Rattle.run_commands.specs.Soak.{workload_set}
use Rattle.run_commands.proofs.LiveCapacity.{few_rows}
use Rattle.run_commands.proofs.PlannedTrace.{follows-few}
use Rattle.promises.specs.Headline.{bytes_of}
use Rattle.promises.specs.RightText.{WritesRun, WritesLive}
use Rattle.promises.proofs.AnswerSteps.{KeepsPromises, same_status, same_written}
use Rattle.promises.proofs.AdmittedSets.{rule_holds, legal_is_timely, file_says_admitted, answer_by_admitted, schedules_exactly}
use Rattle.promises.proofs.TraceTexts.{text_says_timely}
use Rattle.promises.proofs.WorkFiles.{work-few, file_says_work, answer_by_work}

pub run_keeps : (command : RunCommand) → command.ticks ≤ 1000000 → KeepsPromises (form.Run command)
run_keeps command short files old reply h = (
  (
    schedules_exactly files reply command.tasks _ h (λ ruled k e.
        (let (rows, says, t) = file_says_work files reply ruled.set.tasks command.work _ k (omega arith) (omega arith) in absurd (omega (arith, same_status t.2)))),
    λ e. (let (set, rule, rows, t, admitted, says, follows, written) = writes e in
        let few : length t ≤ 2000000 = omega (arith, short, work-few set.tasks (bytes_of files command.work) rows says.1, follows-few set.tasks rule rows command.ticks t follows) in
        let timely = legal_is_timely set rule t admitted follows.legal in
        (set, rule, trace_text set.tasks (reverse t), admitted, written, text_says_timely command.ticks set.tasks rule t (rule_holds set rule admitted).0 few follows.ticks timely)),
  ),
  writes,
  λ set rule rows admitted says.
      inl (same_status (answer_by_work files reply set.tasks command.work _ (answer_by_admitted files reply command.tasks _ h set rule admitted) rows says).2),
  tt,
)
  where
    writes : WritesRun command.ticks (bytes_of files command.tasks) (bytes_of files command.work) old reply.status (Some (old ++ reply.text))
    writes e =
        let (set, rule, admitted, k) = file_says_admitted files reply command.tasks _ h (omega arith) (omega arith) (omega arith) in
        let (rows, says, t) = file_says_work files reply set.tasks command.work _ k (omega arith) (omega arith) in
        (set, rule, rows, t.0, admitted, says, t.1, same_written old t.2)

pub live_keeps : (command : LiveCommand) → command.ticks ≤ 100000 → KeepsPromises (form.Live command)
live_keeps command short files old reply h = (
  (
    schedules_exactly files reply command.tasks _ h (λ ruled k. omega (arith, same_status k.2)),
    λ e. (let (set, rule, t, admitted, is, written) = writes e in
        let (tasks, holds) = rule_holds set rule admitted in
        let few : length t ≤ 2000000 = omega (arith, short, is.ticks, few_rows set.tasks rule t tasks holds is.legal) in
        (set, rule, trace_text set.tasks (reverse t), admitted, written, text_says_timely command.ticks set.tasks rule t tasks few is.ticks (legal_is_timely set rule t admitted is.legal))),
  ),
  writes,
  λ set rule admitted. inl (same_status (answer_by_admitted files reply command.tasks _ h set rule admitted).2),
  tt,
)
  where
    writes : WritesLive command.ticks (bytes_of files command.tasks) old reply.status (Some (old ++ reply.text))
    writes e =
        let (set, rule, admitted, k) = file_says_admitted files reply command.tasks _ h (omega arith) (omega arith) (omega arith) in
        (set, rule, k.0, admitted, k.1, same_written old k.2)

-- each workload's set is admitted, so its trace keeps the deadlines
pub soak_keeps : (command : SoakCommand) → (2 ≤ command.tasks) × (command.tasks ≤ 32) → KeepsPromises (form.Soak command)
soak_keeps command range files old reply h =
    let set = workload_set command.number command.tasks in
    let is = generated_sets-admitted (words_of command.number) command.tasks range.0 range.1 in
    let s = h.2 in
    let keeps = keeps_deadlines set h.0 h.1 is.set.each (published-holds set h.0 is.set s.test) s.follows.legal in (
      tt,
      λ e. (h.0, h.1, s, (s.follows.legal, keeps), same_written old h.3),
      inl (same_status h.3),
      tt,
    )
