use Rattle.std.proofs.Common.{◌+◌, ◌≤◌, ◌++◌, inl, inr, ap, subst, sym, arith}
use Rattle.mc_task.specs.TaskSet.{task_at}
use Rattle.mc_model.specs.Rows.{ticks}
use Rattle.mc_model.specs.Runs.{rows_of}
use Rattle.mc_model.specs.TaskNumbers.{period_in}
use Rattle.trace_judge.specs.declared.turned.Quiet.{Quiet}
use Rattle.trace_judge.specs.Quiet.{IsQuiet}
use Rattle.trace_judge.proofs.Quiet.{quiet_release, quiet_ticks, quiet_idles}
use Rattle.trace_judge.proofs.turned.Quiet.after_run.Goals as goal

pub returns-then-kept : goal.returns-then-kept
returns-then-kept c h e q =
    let due : c.deadline_of.result ≤ ticks h + period_in (task_at c.args.set.now.tasks c.in-Release.job.task.0) =
    omega (arith, c.deadline_of.ensures, e, ap period_in c.get.ensures.value) in
    subst (λ (stretch : Quiet). IsQuiet c.args.set.now.tasks (rows_of c.args.run ++ h) stretch) (sym c.up_to.ensures)
    (rw (c.in-Release.is, c.if-kept.true) (quiet_release c.args.set.now.tasks c.in-Release.job h c.args.self c.deadline_of.result due q))

pub returns-else-kept : goal.returns-else-kept
returns-else-kept c h e q = rw (c.in-Release.is, c.if-kept.false) q

pub returns-in-Ticks : goal.returns-in-Ticks
returns-in-Ticks c h e q =
    elim c.in-Ticks.is [
      | inl w ↦ rw w.3 (quiet_ticks c.args.set.now.tasks w.0 w.1 w.2 h c.args.self q)
      | inr w ↦ rw w.1 (quiet_idles c.args.set.now.tasks w.0 h c.args.self q)
    ]
