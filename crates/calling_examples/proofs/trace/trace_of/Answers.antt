use Rattle.calling_examples.proofs.trace.trace_of.Goals as goal

pub write_rows-requires-clause-tasks : goal.write_rows-requires-clause-tasks
write_rows-requires-clause-tasks c = rw c.set.ensures c.rows-rows.ensures.of_set
