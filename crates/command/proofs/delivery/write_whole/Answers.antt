use Rattle.std.proofs.Common.{◌≤◌, drop, ◌∙◌, arith, length, length-drop}
use Rattle.command.proofs.Written.{wrote_more}
use Rattle.command.proofs.delivery.write_whole.Goals as goal

pub pieces-preserved : goal.pieces-preserved
pieces-preserved g c =
    let tail = c.split_at.ensures.back in
    let count : c.in-Ok.n ≤ length (drop c.pieces.done c.args.text.now) = rw tail at c.in-Ok.ensures.count in
    record {
      within = omega (arith, count, length-drop c.pieces.done c.args.text.now);
      wrote = wrote_more _ _ _ _ _ _ c.pieces.invariant.wrote (rw tail at c.in-Ok.ensures.appends);
      faults = c.in-Ok.ensures.no_fault c.if-n-gt0.true ∙ c.pieces.invariant.faults;
    }
