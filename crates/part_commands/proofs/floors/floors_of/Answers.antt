use Rattle.std.proofs.Common.{arith, filter, ◌∷◌, []}
use Rattle.part_commands.specs.RunAll.{is_used}
use Rattle.part_commands.specs.Planned.{parted_of}
use Rattle.part_commands.proofs.Processors.{made-more, filter-one}
use Rattle.part_commands.proofs.floors.floors_of.Goals as goal

pub loop-processor-preserved : goal.loop-processor-preserved
loop-processor-preserved c =
    let used = is_used (parted_of c.args.job.now.parted) in
    let l = c.loop-processor in
    record {
      used = made-more (filter used) (λ k. filter used (k ∷ [])) l.processor c.args.processors.now l.parts.used.items _ _ (filter-one used) (let t = c.loop-processor-test.true in omega (arith, t, c.get-most.ensures.value))
          l.invariant.used c.in_ok-add.ensures.used;
      planned = c.in_ok-add.ensures.planned;
    }
