use Rattle.std.proofs.Common.{ap, ◌∙◌}
use Rattle.toml.specs.Data.{string}
use Rattle.task_file.proofs.PrintLemmas.{IsUtf8-name}
use Rattle.task_file.proofs.print.name_value.Goals as goal

pub returns : goal.returns
returns c = c.from.ensures ∙ ap string (c.in_ok-text.ensures.ok (rw c.bytes.ensures.value (IsUtf8-name c.args.name.now c.bytes.ensures.form)) ∙ c.bytes.ensures.value)
