use Rattle.std.proofs.Common.{refl, sym}
use Rattle.sched_report.proofs.Stored.{stored_put, stored_in_map}
use Rattle.sched_report.proofs.release_times.ReleaseTimes.put.Goals as goal

pub returns-in_ok-set_aside-in-Some : goal.returns-in_ok-set_aside-in-Some
returns-in_ok-set_aside-in-Some c =
    let aside = c.in_ok-set_aside-in-Some.ensures in
    stored_put c.args.self.now c.set_aside.new.self _ c.args.job c.in-Some.recent c.args.release (sym c.in-Some.ensures) aside.array aside.map refl (λ j. refl)

pub returns-in_ok-insert-in-None : goal.returns-in_ok-insert-in-None
returns-in_ok-insert-in-None c =
    let updates = c.in_ok-insert-in-None.ensures.updates in
    stored_in_map c.args.self.now _ c.args.job c.args.release (sym c.in-None.ensures) refl updates.1 updates.2
