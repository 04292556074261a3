use Rattle.std.proofs.Common.{◌≡◌, vec_len}
use Rattle.task_threads.specs.Starts.{GoDown}
use Rattle.task_threads.proofs.refused.serve_each.Given as goal

abbrev pub invariant-loop-position : goal.invariant-loop-position
invariant-loop-position g l = (l.tasks ≡ vec_len l.fn.starts) × (vec_len l.starts ≡ vec_len l.fn.starts) × GoDown g.T.Worker.is_of l.serving.executive.now (vec_len l.fn.starts) l.starts.items
