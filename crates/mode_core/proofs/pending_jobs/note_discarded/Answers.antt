use Rattle.std.proofs.Common.{◌≡◌, ℕ, length, get_or, None, subst, ◌∙◌, arith}
use Rattle.mode_core.proofs.Changes.{noted, noted_start, noted_more, noted_all}
use Rattle.mode_core.proofs.pending_jobs.note_discarded.Goals as goal

pub loop-k-init : goal.loop-k-init
loop-k-init c = noted_start c.args.set.now.tasks c.args.jobs.now c.args.numbers.now

pub loop-k-preserved : goal.loop-k-preserved
loop-k-preserved c = noted_more c.args.set.now.tasks c.args.jobs.now c.args.numbers.now c.loop-k.numbers c.loop-k.k c.if_low.result (omega arith) c.loop-k.invariant c.if_low.ensures

pub returns : goal.returns
returns c =
    let end : c.loop-k.k ≡ length c.args.jobs.now = omega (arith, c.requires.each) in
    noted_all c.args.set.now.tasks c.args.jobs.now c.args.numbers.now c.loop-k.numbers (c.loop-k.auto.numbers ∙ c.requires.each) (subst (λ (n : ℕ). (i : ℕ) → get_or c.loop-k.numbers i None ≡ noted c.args.set.now.tasks c.args.jobs.now c.args.numbers.now n i) end c.loop-k.invariant)
