use Rattle.trace_judge.proofs.step.look.Goals as goal

pub returns-in-Release : goal.returns-in-Release
returns-in-Release c = rw c.in-Release.is (c.release_misfit.ensures c.args.rule)

pub returns-in-Idles : goal.returns-in-Idles
returns-in-Idles c = rw c.in-Idles.is (c.idle_misfit.ensures c.args.set.now.tasks c.args.rule)
