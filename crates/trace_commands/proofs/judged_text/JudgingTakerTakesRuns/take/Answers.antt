use Rattle.std.proofs.Common.{refl}
use Rattle.trace_commands.proofs.JudgedText.{one_stored, stored_judged}
use Rattle.trace_commands.proofs.judged_text.JudgingTakerTakesRuns.take.Goals as goal

pub returns-then-len-lt-BATCH : goal.returns-then-len-lt-BATCH
returns-then-len-lt-BATCH c tasks before has =
    one_stored c.args.self.now.keeps_runs c.args.self.now.rule tasks before c.args.run c.args.judging.now _ has c.requires.0 c.requires.1 c.requires.2 c.requires.3 refl c.in_ok-push.ensures.items

pub follow_all-requires : goal.follow_all-requires
follow_all-requires c =
    let stored = one_stored c.args.self.now.keeps_runs c.args.self.now.rule c.requires.0 c.requires.1 c.args.run c.args.judging.now (record { monitor = c.args.judging.now.monitor; runs = c.push.new.self }) c.requires.2 c.requires.0 c.requires.1 c.requires.2 c.requires.3 refl c.in_ok-push.ensures.items in
    record {
      runs = rw c.deref.ensures.value stored.valid;
      tasks = rw (c.deref.ensures.value, stored.judged.same_tasks) stored.of_set;
      room = rw c.deref.ensures.value stored.room;
    }

pub returns-in-Ok : goal.returns-in-Ok
returns-in-Ok c tasks before has =
    stored_judged c.args.self.now.keeps_runs c.args.self.now.rule tasks before c.args.run c.args.judging.now (record { monitor = c.follow_all.new.self; runs = c.clear.new.self }) has c.requires.0 c.requires.1 c.requires.2 c.requires.3
    c.if-self.false c.follow_all.ensures.set c.follow_all.ensures.rule (rw (c.deref.ensures.value, c.in_ok-push.ensures.items) at c.in-Ok.ensures.rows) c.clear.ensures.items
