use Rattle.std.proofs.Common.{◌≡◌, ℕ, ◌++◌, replicate, sym, subst, arith}
use Rattle.mc_model.specs.Runs.{row_of}
use Rattle.mc_model.specs.declared.run.Run.TheVariants as run
use Rattle.trace_judge.specs.Tracks.{Tracks}
use Rattle.trace_judge.proofs.Ticks.{ticks_before}
use Rattle.trace_judge.proofs.step.tick.Goals as goal

pub returns-then-misfit-gt0 : goal.returns-then-misfit-gt0
returns-then-misfit-gt0 c g l t = (
  c.in-Err.ensures.misfit g l t,
  ticks_before c.args.set.now.tasks c.args.rule g c.args.state.now _ c.args.ticks.job c.args.ticks.how c.args.ticks.length c.in-Err.misfit
      c.requires.is_run l t c.requires.time c.if-misfit-gt0.true c.in-Err.ensures.inside c.go_on.ensures,
)

pub returns-else-misfit-gt0 : goal.returns-else-misfit-gt0
returns-else-misfit-gt0 c g l t =
    let none : c.in-Err.misfit.after ≡ 0 = omega (arith, c.if-misfit-gt0.false) in (
      c.in-Err.ensures.misfit g l t,
      subst (λ (n : ℕ). Tracks c.args.set.now.tasks c.args.rule (replicate n (row_of (run.Ticks c.args.ticks.job c.args.ticks.how c.args.ticks.length)) ++ g) c.args.state.now) (sym none) t,
    )
