use Rattle.edfvd_c.proofs.traces.monitor.opened.Goals as goal

pub returns-in-Ok-new-clause-made : goal.returns-in-Ok-new-clause-made
returns-in-Ok-new-clause-made c =
    (c.in-Ok.monitor, c.in-Ok-new.ensures.ok, rw (c.in-Ok.ensures.set, c.in-Ok.ensures.rule) c.in_ok-set.ensures.under, c.in-Ok.ensures.rows)
