-- What `check` promises.
use Rattle.std.proofs.Common.{inl, arith}
use Rattle.task_commands.specs.declared.check.CheckCommand.{CheckCommand}
use Rattle.command_line.specs.declared.form.Form.TheVariants as form
use Rattle.promises.proofs.AnswerSteps.{KeepsPromises, same_status}
use Rattle.promises.proofs.AdmittedSets.{answer_by_admitted, schedules_exactly}

pub check_keeps : (command : CheckCommand) → KeepsPromises (form.Check command)
check_keeps command files old reply h = (
  schedules_exactly files reply command.tasks _ h (λ ruled k. omega (arith, same_status k)),
  tt,
  λ set rule admitted. inl (same_status (answer_by_admitted files reply command.tasks _ h set rule admitted)),
  tt,
)
