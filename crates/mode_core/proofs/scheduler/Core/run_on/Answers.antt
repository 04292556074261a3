use Rattle.std.proofs.Common.{◌≡◌, ◌+◌, None, subst, sym, ap, ◌∙◌}
use Rattle.mc_model.specs.Core.{State, outcome_of}
use Rattle.mode_core.specs.Events.{grant_refusal, outcome_refusal, chosen_now}
use Rattle.mode_core.specs.Runs.{after_tick}
use Rattle.mode_core.proofs.Sound.{ended}
use Rattle.mode_core.proofs.Going.{may_run, last_free, last_out, last_tick, going_is}
use Rattle.mode_core.proofs.scheduler.Core.run_on.Goals as goal

-- the state with a granted tick of the chosen job
abbrev giving : State → State
giving s = record s { out = chosen_now s }

pub put_out-granted-requires : goal.put_out-granted-requires
put_out-granted-requires g c =
    let s : State = c.args.self.now in
    let may = may_run s c.args.job (c.args.more + 1) c.requires.none in
    record { none = subst (λ (x : State). grant_refusal x c.args.job.task.0 ≡ None) (sym c.go_on.ensures.state) (last_free s c.go_on.ensures.before c.args.job c.args.more may) }

pub end_tick-requires : goal.end_tick-requires
end_tick-requires g c =
    let s : State = c.args.self.now in
    let may = may_run s c.args.job (c.args.more + 1) c.requires.none in
    record { none = subst (λ (x : State). outcome_refusal x c.args.job ≡ None) (sym (c.put_out-granted.ensures.state ∙ ap giving c.go_on.ensures.state)) (last_out s c.go_on.ensures.before c.args.job c.args.more may) }

pub returns : goal.returns
returns g c =
    let s : State = c.args.self.now in
    let may = may_run s c.args.job (c.args.more + 1) c.requires.none in
    let e = c.put_out-granted.ensures.state ∙ ap giving c.go_on.ensures.state in
    let is = going_is s c.go_on.ensures.before c.args.job c.args.more may in
    record {
      answer = c.end_tick.ensures.answer ∙ (ap (λ (x : State). outcome_of x.set x.rule x.rows c.args.job c.args.done) e ∙ ap (λ (x : State). outcome_of s.set s.rule x.rows c.args.job c.args.done) (sym is));
      state = c.end_tick.ensures.state
          ∙ (ap (λ (x : State). ended x c.args.done) e
          ∙ (sym (last_tick s c.go_on.ensures.before c.args.job c.args.more may c.args.done) ∙ ap (λ (x : State). after_tick x c.args.job c.args.done) (sym is)));
      sound = c.end_tick.ensures.sound;
    }
