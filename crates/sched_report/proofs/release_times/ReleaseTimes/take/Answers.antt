use Rattle.std.proofs.Common.{refl, sym}
use Rattle.sched_report.proofs.Stored.{stored_without, stored_out_of_map}
use Rattle.sched_report.proofs.release_times.ReleaseTimes.take.Goals as goal

pub returns-in-Some-clause-change : goal.returns-in-Some-clause-change
returns-in-Some-clause-change c =
    let updates = c.remove-older.ensures.updates in
    stored_without c.args.self.now _ c.args.job c.in-Some.release (sym c.in-Some.ensures) refl updates.1 updates.2

pub returns-in-None-clause-change : goal.returns-in-None-clause-change
returns-in-None-clause-change c =
    let updates = c.remove-older.ensures.updates in
    stored_out_of_map c.args.self.now _ c.args.job (sym c.in-None.ensures) refl updates.1 updates.2
