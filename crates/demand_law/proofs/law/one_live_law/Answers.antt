-- The law over all traces, applied to these rows.
use Rattle.std.proofs.Common.{reverse}
use Rattle.demand_law.proofs.law.one_live_law.Goals as goal
use Rattle.demand_law.proofs.Laws.{at_most_one, none_at_release}

pub returns-clause-one : goal.returns-clause-one
returns-clause-one c = at_most_one c.args.set.now.tasks c.args.rule (reverse c.args.rows.now) c.len-is_set.ensures.set.each c.requires.holds c.requires.legal

pub returns-clause-none : goal.returns-clause-none
returns-clause-none c = none_at_release c.args.set.now.tasks c.args.rule (reverse c.args.rows.now) c.len-is_set.ensures.set.each c.requires.holds c.requires.legal

pub returns-clause-one_everywhere : goal.returns-clause-one_everywhere
returns-clause-one_everywhere c set h is holds legal = at_most_one set c.args.rule h is.each holds legal

pub returns-clause-none_everywhere : goal.returns-clause-none_everywhere
returns-clause-none_everywhere c set h is holds legal = none_at_release set c.args.rule h is.each holds legal
