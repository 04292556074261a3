use Rattle.task_threads.proofs.LivePasses.{released_live}
use Rattle.task_threads.proofs.live_round.release_first.Goals as goal

pub returns-then-is_ok : goal.returns-then-is_ok
returns-then-is_ok g c = released_live c.args.serving.now.executive.now c.args.task.0 _ c.args.pass c.release-answer.new.pass c.release-answer.ensures.of c.release-answer.ensures.calls c.requires

pub returns-else-is_ok : goal.returns-else-is_ok
returns-else-is_ok g c = released_live c.args.serving.now.executive.now c.args.task.0 _ c.args.pass c.release-answer.new.pass c.release-answer.ensures.of c.release-answer.ensures.calls c.requires
