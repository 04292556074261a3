use Rattle.std.proofs.Common.{codes, refl}
use Rattle.mc_model.specs.CheckText.{check_text}
use Rattle.replies.proofs.LoadTexts.{load_texts-set}
use Rattle.task_commands.proofs.check_lines.check_text.Goals as goal

pub unheld_text-requires-clause-loads : goal.unheld_text-requires-clause-loads
unheld_text-requires-clause-loads c = record { tasks = c.args.set.now.tasks; belong = c.requires }

pub returns : goal.returns
unfolding check_text
returns c =
    rw (c.into_bytes.ensures.value, c.in_ok-text.ensures.ok, c.in_ok-rule.ensures, c.in_ok-unheld.ensures c.args.set.now.tasks c.requires, c.in_ok-loads.ensures, load_texts-set (codes "\n") c.args.set.now.tasks c.args.loads.now c.requires, c.len-count.ensures.count, c.scale.ensures.value) refl
