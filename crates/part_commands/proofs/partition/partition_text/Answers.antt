use Rattle.std.proofs.Common.{◌∙◌, ◌++◌, refl, ap, arith}
use Rattle.std.specs.Prelude.{flat_map}
use Rattle.part_commands.specs.Partition.{processor_line}
use Rattle.part_commands.specs.Planned.{parted_of}
use Rattle.part_commands.proofs.Processors.{made-more}
use Rattle.part_commands.proofs.partition.partition_text.Goals as goal

pub loop-processor-preserved : goal.loop-processor-preserved
loop-processor-preserved c =
    let line = processor_line (parted_of c.args.parted.now) in
    let l = c.loop-processor in
    made-more (flat_map line) line l.processor c.args.processors l.text.items _ _ (λ k ks. refl) (let t = c.loop-processor-test.true in omega (arith, t)) l.invariant
    (c.in_ok-extend_from_slice.ensures.items ∙ ap (λ s. l.text.items ++ s) (c.deref.ensures.value ∙ c.in_ok-processor_line.ensures))
