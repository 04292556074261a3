-- The law over all traces, applied to these rows.
use Rattle.std.proofs.Common.{reverse}
use Rattle.demand_law.proofs.law.plain_law.Goals as goal
use Rattle.demand_law.proofs.Laws.{none_late}

pub returns-clause-here : goal.returns-clause-here
returns-clause-here c = none_late c.args.set.now.tasks c.args.rule (reverse c.args.rows.now) c.len-is_set.ensures.set.each c.requires.holds c.requires.legal

pub returns-clause-everywhere : goal.returns-clause-everywhere
returns-clause-everywhere c set h is holds legal = none_late set c.args.rule h is.each holds legal
