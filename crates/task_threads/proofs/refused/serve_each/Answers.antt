use Rattle.std.proofs.Common.{arith, vec_len}
use Rattle.task_threads.proofs.InOrder.{replaced}
use Rattle.task_threads.proofs.refused.serve_each.Goals as goal

pub loop-position-preserved : goal.loop-position-preserved
loop-position-preserved g c =
    let kept = c.loop-position.invariant in
    (kept.0, kept.1, replaced g.T.Worker.is_of c.args.serving.now.executive.now (vec_len c.args.starts.now) c.len-tasks.result c.loop-position.starts.items c.loop-position.position c.serve_one-next.new.start kept.0 (omega (arith, kept.1, c.loop-position.starts.ok)) c.loop-position-test.true kept.2 c.serve_one-next.ensures)
