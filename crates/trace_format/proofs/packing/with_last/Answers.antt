use Rattle.std.proofs.Common.{◌≡◌, ◌-◌, Some, length, sym, ap, ◌∙◌, arith}
use Rattle.std.specs.Prelude.{slice_get, option_copied}
use Rattle.trace_format.proofs.PackLemmas.{last_short}
use Rattle.trace_format.proofs.packing.with_last.Goals as goal

pub joined-requires : goal.joined-requires
joined-requires c =
    let short = c.requires.short in
    let at : slice_get c.args.runs.now (length c.args.runs.now - 1) ≡ Some c.in-Some.last.now = sym c.last.ensures.value ∙ ap option_copied c.in-Some.is in
    let last = last_short c.args.runs.now c.in-Some.last.now at in
    record { short = omega (arith, short, last) }
