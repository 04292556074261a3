use Rattle.std.proofs.Common.{◌+◌, ◌∙◌, List, ℕ, sym, subst}
use Rattle.std.specs.List.{AllZip, range_with_len}
use Rattle.study.specs.Acceptance.{generated_stretch}
use Rattle.study.specs.Levels.{IsReached}
use Rattle.study.proofs.Counts.{counts-table}
use Rattle.study.proofs.counting.counts_of.Goals as goal

pub returns : goal.returns
returns c =
    let each : AllZip (λ i k. IsReached (generated_stretch (c.args.number + i) c.args.tasks) k) (range_with_len 0 c.args.sets) c.as_slice.result.now =
    subst (λ (ks : List ℕ). AllZip (λ i k. IsReached (generated_stretch (c.args.number + i) c.args.tasks) k) (range_with_len 0 c.args.sets) ks) (sym c.as_slice.ensures.value) c.reached-reached.ensures in
    c.counts.ensures ∙ counts-table c.args.number c.args.sets c.args.tasks c.as_slice.result.now each
