use Rattle.std.proofs.Common.{◌≡◌, ℕ, length, get_or, subst, arith}
use Rattle.restart.proofs.FirstAllowed.{noted, noted_start, noted_all}
use Rattle.restart.proofs.restartable.note_earliest.Goals as goal

pub loop-index-init : goal.loop-index-init
loop-index-init g c = noted_start c.args.core.now c.args.first_allowed.now

pub returns : goal.returns
returns g c =
    let end : c.loop-index.index ≡ length c.args.core.now.set = omega (arith, c.requires) in
    λ k i. noted_all c.args.core.now c.args.first_allowed.now c.loop-index.first_allowed (subst (λ (n : ℕ). (j : ℕ) → get_or c.loop-index.first_allowed j 0 ≡ noted c.args.core.now c.args.first_allowed.now n j) end c.loop-index.invariant) k i.0 i.1
