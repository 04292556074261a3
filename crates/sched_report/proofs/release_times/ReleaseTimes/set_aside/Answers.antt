use Rattle.std.specs.BTreeMap.{get}
use Rattle.sched_report.specs.ReleaseTimes.{key_cmp}
use Rattle.sched_report.proofs.Stored.{moved}
use Rattle.sched_report.proofs.release_times.ReleaseTimes.set_aside.Goals as goal

pub returns-clause-map : goal.returns-clause-map
returns-clause-map c =
    let updates = c.in_ok-insert.ensures.updates in
    rw c.in-Some.is (moved c.args.job c.in-Some.recent (get key_cmp c.args.self.now.older) (get key_cmp c.insert.new.self) updates.1 updates.2)
