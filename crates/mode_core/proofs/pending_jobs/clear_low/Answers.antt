use Rattle.std.proofs.Common.{◌≡◌, ℕ, length, get_or, None, subst, arith}
use Rattle.mode_core.proofs.Changes.{cleared, cleared_start, cleared_more, cleared_all}
use Rattle.mode_core.proofs.pending_jobs.clear_low.Goals as goal

pub loop-k-init : goal.loop-k-init
loop-k-init c = cleared_start c.args.set.now.tasks c.args.jobs.now

pub loop-k-preserved : goal.loop-k-preserved
loop-k-preserved c = cleared_more c.args.set.now.tasks c.args.jobs.now c.loop-k.jobs c.loop-k.k c.if_high.result (omega arith) c.loop-k.invariant c.if_high.ensures

pub returns : goal.returns
returns c =
    let end : c.loop-k.k ≡ length c.args.jobs.now = omega arith in
    cleared_all c.args.set.now.tasks c.args.jobs.now c.loop-k.jobs c.loop-k.auto.jobs (subst (λ (n : ℕ). (i : ℕ) → get_or c.loop-k.jobs i None ≡ cleared c.args.set.now.tasks c.args.jobs.now n i) end c.loop-k.invariant)
