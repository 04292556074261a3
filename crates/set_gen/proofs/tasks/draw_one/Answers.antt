use Rattle.set_gen.proofs.Drawn.{named}
use Rattle.set_gen.proofs.tasks.draw_one.Goals as goal

pub returns-clause-task : goal.returns-clause-task
returns-clause-task c = named c.args.words.now c.args.count c.args.number _ _ c.in_ok-name.ensures c.draw_numbers-gap.ensures.task
