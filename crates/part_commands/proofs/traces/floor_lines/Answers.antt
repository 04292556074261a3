use Rattle.part_commands.proofs.traces.floor_lines.Goals as goal

pub write_rows-requires-clause-tasks : goal.write_rows-requires-clause-tasks
write_rows-requires-clause-tasks c = rw c.set.ensures c.rows.ensures.of_set
