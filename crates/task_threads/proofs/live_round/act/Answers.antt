use Rattle.task_threads.proofs.LivePasses.{idled_live}
use Rattle.task_threads.proofs.live_round.act.Goals as goal

pub returns-in-Idle : goal.returns-in-Idle
returns-in-Idle g c =
    idled_live c.args.serving.now.executive.now c.args.task.0 _ c.next_act.new.pass c.idle-answer.new.pass c.idle-answer.ensures.of c.idle-answer.ensures.calls
    (c.next_act.ensures.live c.requires.pass)
