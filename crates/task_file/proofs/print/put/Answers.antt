use Rattle.std.proofs.Common.{ap, ◌∙◌}
use Rattle.toml.specs.View.{members_view}
use Rattle.task_file.proofs.PrintLemmas.{members_view-insert}
use Rattle.task_file.proofs.print.put.Goals as goal

pub returns : goal.returns
returns c = ap members_view c.in_ok-insert.ensures.entries ∙ members_view-insert c.in_ok-key.key c.args.value c.args.table.now.entries ∙ rw (c.in_ok-key.ensures.ok, c.text.ensures)
