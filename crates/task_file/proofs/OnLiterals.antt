-- The definitions that must be unfolded to compute `task_file` on a literal.
use Rattle.std.specs.Prelude.{⊤}
use Rattle.std.specs.Str.{is_utf8, chars}
use Rattle.toml.proofs.OnLiterals.{toml_on_literals}
use Rattle.task_file.specs.TaskTable.{first_other, task_of}
use Rattle.tick_frac.specs.Numbers.{gcd_steps, gcd}
use Rattle.tick_frac.specs.Fraction.{lowest}
use Rattle.task_file.specs.ScaleArray.{scale_in}
use Rattle.task_file.specs.TaskFile.{tasks_from, tree_set, task_file}

unfoldable pub task_file_on_literals : ⊤
unfolding toml_on_literals is_utf8 chars first_other task_of gcd_steps gcd lowest scale_in tasks_from tree_set task_file
task_file_on_literals = tt
