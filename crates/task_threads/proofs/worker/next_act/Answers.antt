use Rattle.task_threads.proofs.LivePasses.{looked_live}
use Rattle.task_threads.proofs.worker.next_act.Goals as goal

pub returns-in-Unknown-clause-live : goal.returns-in-Unknown-clause-live
returns-in-Unknown-clause-live g c live = looked_live c.args.serving.now.executive.now c.args.task.0 _ c.args.pass.now c.look.new.pass c.look.ensures.of c.look.ensures.calls live
