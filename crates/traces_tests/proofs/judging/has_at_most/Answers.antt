use Rattle.std.proofs.Common.{◌≡◌, ℕ, ◌+◌, ◌<◌, List, ◌∷◌, [], length, take, get_or, ap, arith}
use Rattle.std.proofs.lemmas.List.{take_more}
use Rattle.mc_model.specs.Sums.{total}
use Rattle.mc_model.specs.declared.run.Run.{Run}
use Rattle.mc_model.specs.Runs.{length_of}
use Rattle.mc_model.proofs.Sums.{total-append}
use Rattle.traces_tests.proofs.judging.has_at_most.Goals as goal

-- the ticks of the first i runs and of the next run are those of the first i + 1 runs
one_more : (runs : List Run) (i n m : ℕ) (d : Run) → i < length runs → n ≡ total length_of (take i runs) → m ≡ length_of (get_or runs i d) → n + m ≡ total length_of (take (i + 1) runs)
one_more runs i n m d h was one =
    omega (arith, ap (total length_of) (take_more runs i d h), total-append length_of (take i runs) (get_or runs i d ∷ []), was, one)

pub loop-run-preserved : goal.loop-run-preserved
loop-run-preserved c =
    (one_more c.args.runs.now c.loop-run.run-index _ _ _ c.loop-run-test.true c.loop-run.invariant.0 c.length_of-ticks.ensures.length, omega (arith, c.if-ticks-most.false, c.length_of-ticks.ensures.short))
