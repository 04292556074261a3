use Rattle.std.proofs.Common.{sym, ◌∙◌}
use Rattle.std.proofs.lemmas.List.{take_rest}
use Rattle.trace_format.proofs.FirstRun.{ticks_first, idles_first}
use Rattle.trace_format.proofs.packing.split_run.Goals as goal

pub returns-in-More : goal.returns-in-More
returns-in-More c =
    let more = c.split_repeats-more in
    ticks_first c.in-Tick.job c.in-Tick.how more.result.0 more.result.1.now c.args.rows.now _ c.in-More.is c.in-len1-up.len_at_least c.in-Tick.is
    (sym (take_rest c.args.rows.now 1) ∙ more.ensures.rows) more.ensures.apart

pub returns-in-Idle : goal.returns-in-Idle
returns-in-Idle c =
    let more = c.split_repeats-more-in-Idle in
    idles_first more.result.0 more.result.1.now c.args.rows.now _ c.in-len1-up.len_at_least c.in-Idle.is
    (sym (take_rest c.args.rows.now 1) ∙ more.ensures.rows) more.ensures.apart
