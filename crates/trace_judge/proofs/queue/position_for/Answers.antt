use Rattle.std.proofs.Common.{◌≡◌, ℕ, ◌+◌, ◌-◌, ◌<◌, ◌≤◌, List, ◌∷◌, drop, length, get_or, sym, subst, arith}
use Rattle.std.specs.List.{AllByRecursion}
use Rattle.std.proofs.lemmas.List.{drop_more}
use Rattle.trace_judge.specs.declared.queue.Queued.{Queued}
use Rattle.trace_judge.proofs.queue.position_for.Goals as goal

-- the jobs from one position earlier on have greater keys, if the job there has one
one_more : (key : ℕ) (qs : List Queued) (position : ℕ) (q : Queued) → 1 ≤ position → position ≤ length qs → q ≡ get_or qs (position - 1) q → key < q.key →
    AllByRecursion (λ (r : Queued). key < r.key) (drop position qs) → AllByRecursion (λ (r : Queued). key < r.key) (drop (position - 1) qs)
one_more key qs position q some inside read greater h =
    let e : position - 1 + 1 ≡ position = omega (arith, some) in
    let at : drop (position - 1) qs ≡ get_or qs (position - 1) q ∷ drop (position - 1 + 1) qs = drop_more qs (position - 1) q (omega (arith, some, inside)) in
    subst (λ (rs : List Queued). AllByRecursion (λ (r : Queued). key < r.key) rs) (sym at)
    (subst (λ (r : Queued). key < r.key) read greater, subst (λ (n : ℕ). AllByRecursion (λ (r : Queued). key < r.key) (drop n qs)) (sym e) h)

pub loop-position-preserved : goal.loop-position-preserved
loop-position-preserved c =
    let inside = c.loop-position.invariant.0 in
    (omega (arith, inside), one_more c.args.key c.args.jobs.now.items c.loop-position.position c.index.result.now (omega (arith, c.loop-position-test.true)) inside c.index.ensures c.if-key-index.true c.loop-position.invariant.1)
