use Rattle.std.proofs.Common.{◌≡◌, Some, None, ℕ, option_map, subst, ap, ◌∙◌}
use Rattle.mc_task.specs.declared.task.JobId.{JobId}
use Rattle.mc_model.specs.Core.{State}
use Rattle.mode_core.specs.declared.answers.Boundary.{Boundary}
use Rattle.mode_core.specs.Runs.{boundary_of, ticks_left}
use Rattle.mode_core.specs.Shape.{state_of, IsSoundUpTo}
use Rattle.mode_core.proofs.CoreSteps.{first_job, no_job_first}
use Rattle.mode_core.proofs.Going.{first_used, boundary_some, boundary_last}
use Rattle.mode_core.proofs.scheduler.Core.boundary.Goals as goal

pub left-requires : goal.left-requires
left-requires g c = first_used c.self.inside.log.rows _ c.in-Some.x c.in-Some.ensures

-- the boundary of a job
abbrev of_job : State → JobId → Boundary
of_job s j = record { job = j; ticks = ticks_left s.set s.rule s.rows j }

pub returns-in-Some-clause-value : goal.returns-in-Some-clause-value
returns-in-Some-clause-value g c =
    let s : State = state_of c.self.inside in
    subst (λ (x : State). Some (record { job = c.in-Some.x.job; ticks = c.left.result }) ≡ boundary_of x) c.self.view_is
    (ap (λ (n : ℕ). let b : Boundary = record { job = c.in-Some.x.job; ticks = n } in Some b) c.left.ensures
    ∙ ap (option_map (of_job s)) (first_job s.rows _ c.in-Some.x c.in-Some.ensures))

pub returns-in-Some-clause-some : goal.returns-in-Some-clause-some
returns-in-Some-clause-some g c =
    boundary_some c.args.self.now _ (subst (λ (x : State). IsSoundUpTo g.R.Recorder.most x) c.self.view_is c.self.invariant.sound) (returns-in-Some-clause-value g c)

pub returns-in-Some-clause-last : goal.returns-in-Some-clause-last
returns-in-Some-clause-last g c =
    boundary_last c.args.self.now _ (subst (λ (x : State). IsSoundUpTo g.R.Recorder.most x) c.self.view_is c.self.invariant.sound) (returns-in-Some-clause-value g c)

pub returns-in-None-clause-value : goal.returns-in-None-clause-value
returns-in-None-clause-value g c =
    let s : State = state_of c.self.inside in
    subst (λ (x : State). None ≡ boundary_of x) c.self.view_is (ap (option_map (of_job s)) (no_job_first s.rows _ c.in-None.ensures))
