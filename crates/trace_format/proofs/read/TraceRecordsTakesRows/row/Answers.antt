use Rattle.std.proofs.Common.{refl, sym, arith}
use Rattle.csv.specs.Records.{fields_of}
use Rattle.trace_format.proofs.NextRun.{read_more}
use Rattle.trace_format.proofs.RunsOfSet.{of_record}
use Rattle.trace_format.proofs.read.TraceRecordsTakesRows.row.Goals as goal

pub take-requires : goal.take-requires
take-requires g c =
    let tasks = c.args.self.now.set.now.tasks in
    let before = c.requires.0 in
    let read = c.requires.1.0 in
    let says = c.in-Ok.ensures before read.count read.ticks in
    (tasks, before, c.requires.1.1, of_record tasks c.args.reading.now.version before (fields_of c.args.fields.now) c.in-Ok.run' (sym says))

pub tick_after-requires : goal.tick_after-requires
tick_after-requires g c =
    let before = c.requires.0 in
    let read = c.requires.1.0 in
    let ticks = read.ticks in
    let says = c.in-Ok.ensures before read.count ticks in
    let next = of_record c.args.self.now.set.now.tasks c.args.reading.now.version before (fields_of c.args.fields.now) c.in-Ok.run' (sym says) in
    let short = next.1.short in
    omega (arith, ticks, short)

pub returns-in_ok-take-in-Ok-clause-row : goal.returns-in_ok-take-in-Ok-clause-row
returns-in_ok-take-in-Ok-clause-row g c before was =
    let tasks = c.args.self.now.set.now.tasks in
    let version = c.args.reading.now.version in
    let says = sym (c.in-Ok.ensures before was.0.count was.0.ticks) in (
      c.in-Ok.run',
      says,
      (
        read_more tasks version before (fields_of c.args.fields.now) c.in-Ok.run' c.args.reading.now _ was.0 says refl c.tick_after.ensures,
        c.in_ok-take-in-Ok.ensures tasks before was.1,
      ),
    )
