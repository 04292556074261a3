use Rattle.std.proofs.Common.{◌+◌, IsSome, ap, ap₂, ◌∙◌, subst, sym, refl, arith}
use Rattle.mc_model.specs.Rows.{ticks}
use Rattle.mc_model.specs.Core.{State, begun, next_job}
use Rattle.mode_core.specs.declared.answers.Released.TheVariants.{Held}
use Rattle.mode_core.specs.Shape.{state_of}
use Rattle.mode_core.proofs.Sound.{holding}
use Rattle.mode_core.proofs.Releasing.{takes, begun_out, may_note, job_is, notes_after, hold_room, hold_state, core_hold}
use Rattle.mode_core.proofs.scheduler.Core.hold.Goals as goal

pub note_release-job-requires : goal.note_release-job-requires
note_release-job-requires g c =
    may_note c.self.inside c.args.task.0 (c.ticks-at.result + 1) (takes c.self.inside _ c.args.task.0 c.self.invariant c.self.view_is c.requires.in_set c.requires.none)
    (ap (λ n. n + 1) c.ticks-at.ensures.value ∙ begun_out (state_of c.self.inside) (subst (λ (s : State). IsSome s.out) (sym c.self.view_is) c.requires.out))

pub push_reserved-requires : goal.push_reserved-requires
push_reserved-requires g c =
    let take = takes c.self.inside _ c.args.task.0 c.self.invariant c.self.view_is c.requires.in_set c.requires.none in
    let out = subst (λ (s : State). IsSome s.out) (sym c.self.view_is) c.requires.out in
    omega (arith, hold_room c.self.inside c.args.task.0 take out, c.self.inside.held.ok.0)

pub invariant_of-self : goal.invariant_of-self
invariant_of-self g c =
    let take = takes c.self.inside _ c.args.task.0 c.self.invariant c.self.view_is c.requires.in_set c.requires.none in
    core_hold c.self.inside _ c.args.task.0 c.note_release-job.result take
    (subst (λ (s : State). IsSome s.out) (sym c.self.view_is) c.requires.out) (job_is c.self.inside c.args.task _ take c.note_release-job.ensures.job)
    refl refl c.push_reserved.ensures.items c.push_reserved.ensures.capacity
    (notes_after c.self.inside c.note_release-job.new.arrivals c.args.task.0 (c.ticks-at.result + 1) (ticks c.self.inside.log.rows + 1) c.self.invariant c.note_release-job.ensures.notes (ap (λ n. n + 1) c.ticks-at.ensures.value))

pub returns : goal.returns
returns g c =
    let a = c.self.inside in
    let take = takes a _ c.args.task.0 c.self.invariant c.self.view_is c.requires.in_set c.requires.none in
    let job = job_is a c.args.task _ take c.note_release-job.ensures.job in
    let after = record a { arrivals = c.note_release-job.new.arrivals; held = c.push_reserved.new.self } in
    record {
      answer =
          ap₂ Held job (ap (λ n. n + 1) c.ticks-at.ensures.value ∙ begun_out (state_of a) (subst (λ (s : State). IsSome s.out) (sym c.self.view_is) c.requires.out))
          ∙ ap (λ (s : State). Held (next_job s c.args.task.0) (begun s)) c.self.view_is;
      state =
          hold_state a after c.args.task.0 c.note_release-job.result job refl refl c.push_reserved.ensures.items
          ∙ ap (λ (s : State). holding s (next_job s c.args.task.0)) c.self.view_is;
      sound = (invariant_of-self g c).sound;
    }
