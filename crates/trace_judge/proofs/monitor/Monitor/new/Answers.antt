use Rattle.std.proofs.Common.{[], refl}
use Rattle.trace_judge.proofs.Watching.{tracks_none, followed_all}
use Rattle.trace_judge.proofs.monitor.Monitor.new.Goals as goal

pub returns-clause-rows : goal.returns-clause-rows
returns-clause-rows c = followed_all c.args.set.tasks c.args.rule [] c.in_ok-state.state tt (tracks_none c.args.set.tasks c.args.rule _ c.in_ok-state.state c.len.ensures.count c.in_ok-state.ensures)

pub invariant_of-result : goal.invariant_of-result
invariant_of-result c = record { fits = c.requires.fits; rows = []; legal = tt; tracks = (returns-clause-rows c).tracks; quiet = refl; seen = ([], returns-clause-rows c) }
