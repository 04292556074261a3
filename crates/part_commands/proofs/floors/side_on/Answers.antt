use Rattle.std.proofs.Common.{◌∙◌, length, ap, sym}
use Rattle.part_commands.specs.declared.run_parts.RunAllJob.{RunAllJob}
use Rattle.part_commands.proofs.floors.side_on.Goals as goal

pub numbers_on-requires : goal.numbers_on-requires
numbers_on-requires c =
    let long = ap length (c.deref.ensures.value ∙ ap (λ (j : RunAllJob). j.parted.parts) c.job.view_is) ∙ c.requires.parts in
    long ∙ sym (ap (λ (j : RunAllJob). length j.parted.set.tasks) c.job.view_is)
