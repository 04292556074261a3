-- The trace of a job of `run`, and how many rows it has.
use Rattle.std.proofs.Common.{◌≡◌, ℕ, ◌+◌, ◌≤◌, List, length, sym, ap, ◌∙◌, subst, arith}
use Rattle.std.proofs.lemmas.List.{length-reverse}
use Rattle.mc_task.specs.declared.task.Task.{Task}
use Rattle.mc_task.specs.declared.task.Rule.{Rule}
use Rattle.mc_model.specs.declared.row.Row.{Row}
use Rattle.mc_model.specs.declared.work.WorkRow.{WorkRow}
use Rattle.mc_model.specs.Follows.{arrivals, planned, Follows}
use Rattle.timetable.specs.declared.plan.Plan.{Plan}
use Rattle.timetable.specs.Floor.{FloorState}
use Rattle.timetable.specs.Plans.{IsTraceOfPlan}
use Rattle.timetable.proofs.Due.{length-rows, planned-few}
use Rattle.executive.specs.Stands.{opening_of}
use Rattle.run_commands.specs.declared.run.RunJob.{RunJob}
use Rattle.run_commands.specs.Planned.{opening_for, IsPlanned}

-- a trace that follows has a row for each tick, and at most one for each row of the work
pub follows-few : (set : List Task) (rule : Rule) (work : List WorkRow) (n : ℕ) (h : List Row) → Follows set rule work n h → length h ≤ n + length work
follows-few set rule work n h f =
    let releases : length (arrivals h) ≡ length (planned work n) = sym (length-reverse (arrivals h)) ∙ ap length f.releases in
    omega (arith, length-rows h, f.ticks, releases, planned-few work n)

-- a floor that began as the job's is planned once it has the trace of its plan
pub is_planned : (job : RunJob) (ticks : ℕ) (ready floor : FloorState) → ready ≡ opening_for job ticks → opening_of floor ≡ ready → IsTraceOfPlan floor.plan floor.core → ticks ≤ 1000000 → length job.work ≤ 1000000
    → IsPlanned job ticks floor
is_planned job ticks ready floor began same trace most work =
    let opening = same ∙ began in
    let same_set = ap (λ (f : FloorState). f.core.set) opening in
    let rule = ap (λ (f : FloorState). f.core.rule) opening in
    let t = subst (λ (p : Plan). IsTraceOfPlan p floor.core) (ap (λ (f : FloorState). f.plan) opening) trace in
    let follows : Follows job.set.tasks job.rule job.work ticks floor.core.rows = rw (same_set, rule) at t.follows in
    let few = follows-few job.set.tasks job.rule job.work ticks floor.core.rows follows in
    record {
      same_set = same_set;
      follows = follows;
      most = most;
      few = omega (arith, few, work);
    }
