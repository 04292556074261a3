use Rattle.std.proofs.Common.{rules}
use Rattle.trace_commands.proofs.on_trace.set_with_rule_for.Goals as goal

pub returns-in-JudgeBy : goal.returns-in-JudgeBy
returns-in-JudgeBy c = search rules
