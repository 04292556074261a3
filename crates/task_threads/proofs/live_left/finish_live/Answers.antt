use Rattle.std.proofs.Common.{◌≡◌, ◌∙◌, ap, subst, arith}
use Rattle.mc_model.specs.Rows.{ticks}
use Rattle.mc_model.specs.Core.{State}
use Rattle.mode_core.specs.Shape.{IsSound}
use Rattle.task_threads.proofs.LiveLeft.{has_live_trace}
use Rattle.task_threads.proofs.live_left.finish_live.Goals as goal

pub returns-clause-trace : goal.returns-clause-trace
returns-clause-trace c =
    let f = c.loop-floor.floor in
    let sound : IsSound f.core = subst IsSound c.core.ensures.value c.ticks.ensures.sound in
    let all : c.ticks.result ≡ ticks f.core.rows = c.ticks.ensures.value ∙ ap (λ (s : State). ticks s.rows) c.core.ensures.value in
    let enough = c.loop-floor-test.false in
    has_live_trace f.core c.args.ticks sound c.loop-floor.invariant.0.ends c.requires.some (omega (arith, all, enough))
