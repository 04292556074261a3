use Rattle.std.proofs.Common.{None, ap, ◌∙◌, refl}
use Rattle.mc_model.specs.Rows.{ticks}
use Rattle.mc_model.specs.Core.{State, next_job}
use Rattle.mode_core.specs.Events.{taken}
use Rattle.mode_core.specs.Shape.{state_of}
use Rattle.mode_core.proofs.Sound.{writing}
use Rattle.mode_core.proofs.Releasing.{takes, begun_in, may_note, job_is, notes_after, row_is, write_legal, write_answer, write_state, core_write}
use Rattle.mode_core.proofs.scheduler.Core.write.Goals as goal

pub note_release-job-requires : goal.note_release-job-requires
note_release-job-requires g c =
    may_note c.self.inside c.args.task.0 c.ticks-at.result (takes c.self.inside _ c.args.task.0 c.self.invariant c.self.view_is c.requires.in_set c.requires.none)
    (c.ticks-at.ensures.value ∙ begun_in (state_of c.self.inside) (ap (λ (s : State). s.out) c.self.view_is ∙ c.requires.out))

pub push_release-requires-clause-legal : goal.push_release-requires-clause-legal
push_release-requires-clause-legal g c =
    let take = takes c.self.inside _ c.args.task.0 c.self.invariant c.self.view_is c.requires.in_set c.requires.none in
    write_legal c.self.inside c.args.task.0 _ take (ap (λ (s : State). s.out) c.self.view_is ∙ c.requires.out)
    (row_is c.self.inside c.args.task.0 _ _ (job_is c.self.inside c.args.task _ take c.note_release-job.ensures.job) c.keeps-kept.ensures)

pub invariant_of-self : goal.invariant_of-self
invariant_of-self g c =
    let take = takes c.self.inside _ c.args.task.0 c.self.invariant c.self.view_is c.requires.in_set c.requires.none in
    core_write c.self.inside _ c.args.task.0 _ take (ap (λ (s : State). s.out) c.self.view_is ∙ c.requires.out)
    (row_is c.self.inside c.args.task.0 _ _ (job_is c.self.inside c.args.task _ take c.note_release-job.ensures.job) c.keeps-kept.ensures)
    c.push_release.ensures refl refl refl
    (notes_after c.self.inside c.note_release-job.new.arrivals c.args.task.0 c.ticks-at.result (ticks c.self.inside.log.rows) c.self.invariant c.note_release-job.ensures.notes c.ticks-at.ensures.value)

pub returns : goal.returns
returns g c =
    let a = c.self.inside in
    let take = takes a _ c.args.task.0 c.self.invariant c.self.view_is c.requires.in_set c.requires.none in
    let job = job_is a c.args.task _ take c.note_release-job.ensures.job in
    let after = record a { log = c.push_release.new.self; arrivals = c.note_release-job.new.arrivals } in
    let now = c.ticks-at.ensures.value ∙ begun_in (state_of a) (ap (λ (s : State). s.out) c.self.view_is ∙ c.requires.out) in
    record {
      answer =
          c.kept_or_dropped.ensures ∙ write_answer a c.args.task.0 c.note_release-job.result c.keeps-kept.result c.ticks-at.result job c.keeps-kept.ensures now
          ∙ ap (λ (s : State). taken s None c.args.task.0) c.self.view_is;
      state =
          write_state a after c.args.task.0 _ (row_is a c.args.task.0 _ _ job c.keeps-kept.ensures) c.push_release.ensures refl refl
          ∙ ap (λ (s : State). writing s (next_job s c.args.task.0)) c.self.view_is;
      sound = (invariant_of-self g c).sound;
    }
