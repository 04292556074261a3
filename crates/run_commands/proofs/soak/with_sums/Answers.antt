use Rattle.mc_model.proofs.Traces.{rows_of_trace}
use Rattle.run_commands.proofs.soak.with_sums.Goals as goal

pub judge-requires-clause-tasks : goal.judge-requires-clause-tasks
judge-requires-clause-tasks c =
    rw c.deref-2.ensures.value
    (c.in_ok-runs.ensures.tasks c.args.set.now.tasks (rows_of_trace c.args.set.now.tasks c.args.rows.now (record { rule = c.args.rule; fits = c.requires.fits; legal = c.requires.legal })))
