use Rattle.trace_commands.proofs.judging.merged_text.Goals as goal

pub write_trace-requires-clause-tasks : goal.write_trace-requires-clause-tasks
write_trace-requires-clause-tasks c = rw c.deref.ensures.value (c.in_ok-merged.ensures.tasks c.args.set.now.tasks c.requires.tasks)
