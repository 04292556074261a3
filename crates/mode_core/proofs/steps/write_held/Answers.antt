use Rattle.std.proofs.Common.{◌<◌, ◌∷◌, Bool, length, get_or, subst, sym}
use Rattle.mc_task.specs.declared.task.JobId.{JobId}
use Rattle.mc_model.specs.declared.row.Row.TheVariants.{Release}
use Rattle.mode_core.specs.Written.{Written}
use Rattle.mode_core.proofs.Writes.{legal_one, room_one}
use Rattle.mode_core.proofs.steps.write_held.Goals as goal
use Rattle.mc_model.specs.Legal.{Legal}
use Rattle.mc_model.specs.Core.{keeps}

abbrev none : JobId
none = record { task = record { 0 = 0 }; count = 0 }

pub push_release-requires-clause-legal : goal.push_release-requires-clause-legal
push_release-requires-clause-legal g c =
    let j : JobId = get_or c.args.held.now c.loop-job.job-index none in
    let here = legal_one c.args.log.now.set c.args.log.now.rule c.args.held.now c.loop-job.job-index none c.args.log.now.rows c.loop-job-test.true c.requires.legal in
    let there = subst (λ (w : Written). Legal w.set w.rule (Release j (keeps w.set w.rule w.rows j.task.0) ∷ w.rows)) (sym c.loop-job.invariant) here in
    subst (λ (b : Bool). Legal c.loop-job.log.set c.loop-job.log.rule (Release j b ∷ c.loop-job.log.rows)) (sym c.keeps-kept.ensures) there

pub push_release-requires-clause-room : goal.push_release-requires-clause-room
push_release-requires-clause-room g c =
    subst (λ (w : Written). length w.rows < w.places) (sym c.loop-job.invariant) (room_one c.args.log.now.set c.args.log.now.rule c.args.held.now c.loop-job.job-index c.args.log.now.places c.args.log.now.rows c.loop-job-test.true c.requires.room)
