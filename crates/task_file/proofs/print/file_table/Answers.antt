use Rattle.std.proofs.Common.{sym, ◌∙◌}
use Rattle.task_file.proofs.PrintLemmas.{put_scale}
use Rattle.task_file.proofs.print.file_table.Goals as goal

pub returns-in_ok-put-in-Some-clause-tree : goal.returns-in_ok-put-in-Some-clause-tree
returns-in_ok-put-in-Some-clause-tree c =
    rw (c.in_ok-put-in-Some.ensures, c.in_ok-table.ensures, c.as_slice-tasks.ensures.value, c.in_ok-scale_value-in-Some.ensures, sym c.scale-scale.ensures.value ∙ c.in-Some.is) (put_scale _ _ _)
