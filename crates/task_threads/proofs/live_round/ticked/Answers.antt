use Rattle.std.proofs.Common.{◌≡◌, ℕ, ◌+◌, ◌==◌, ◌∙◌, ap}
use Rattle.mc_task.specs.TaskSet.{task_at}
use Rattle.mode_core.specs.declared.answers.Granted.{Granted}
use Rattle.executive.specs.Passes.{of_pass, of_grant, floor_of}
use Rattle.mc_model.specs.LiveTrace.{live_need}
use Rattle.task_threads.proofs.LivePasses.{pass_live, ticked_live}
use Rattle.task_threads.proofs.live_round.ticked.Goals as goal

pub returns-in-Given : goal.returns-in-Given
returns-in-Given g c =
    let set = (floor_of c.args.serving.now.executive.now).core.set in
    let k = c.args.task.0 in
    let grant = c.in-Given.grant in
    let value = c.granted-granted.ensures.value in
    let takes = c.in-Given.ensures.calls in
    let ends = c.outcome-pass.ensures.calls in
    let before : c.from.result ≡ grant.granted.before = c.from.ensures ∙ ap (λ (x : Granted). x.before) value in
    let need : c.from-in-Given.result ≡ live_need (task_at set k) grant.granted.job.count =
    c.from-in-Given.ensures ∙ (c.of_count-need.ensures ∙ (c.requires.needs c.granted-granted.result.job.count ∙ ap (λ (x : Granted). live_need (task_at set k) x.job.count) value)) in (
      (c.outcome-pass.ensures.of, ends.task ∙ (takes.task ∙ c.requires.pass.0.1)),
      ticked_live set k grant.granted (c.from.result + 1 == c.from-in-Given.result) c.outcome-pass.result.1 (of_pass c.args.pass) (of_grant grant) (of_pass c.outcome-pass.result.0) c.requires.pass.1 takes ends
          (ap (λ (n : ℕ). n + 1 == c.from-in-Given.result) before ∙ ap (λ (n : ℕ). grant.granted.before + 1 == n) need),
    )

pub returns-in-NotNow : goal.returns-in-NotNow
returns-in-NotNow g c = pass_live c.args.serving.now.executive.now c.args.task.0 _ _ c.args.pass c.in-NotNow.pass c.in-NotNow.ensures.of c.in-NotNow.ensures.calls (λ last. tt) c.requires.pass
