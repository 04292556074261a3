-- The law over all traces, applied to these rows.
use Rattle.std.proofs.Common.{reverse}
use Rattle.demand_law.proofs.law.no_over_law.Goals as goal
use Rattle.demand_law.proofs.NoOver.{no_drop, ended_in_time}

pub returns-clause-kept : goal.returns-clause-kept
returns-clause-kept c = no_drop c.args.set.now.tasks c.args.rule (reverse c.args.rows.now) c.requires.legal c.requires.calm

pub returns-clause-ended : goal.returns-clause-ended
returns-clause-ended c = ended_in_time c.args.set.now.tasks c.args.rule (reverse c.args.rows.now) c.len-is_set.ensures.set.each c.requires.holds c.requires.legal c.requires.calm

pub returns-clause-kept_everywhere : goal.returns-clause-kept_everywhere
returns-clause-kept_everywhere c set h is holds legal = no_drop set c.args.rule h legal

pub returns-clause-ended_everywhere : goal.returns-clause-ended_everywhere
returns-clause-ended_everywhere c set h is holds legal = ended_in_time set c.args.rule h is.each holds legal
