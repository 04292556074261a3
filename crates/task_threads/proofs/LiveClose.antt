-- A closed executive whose passes ended their jobs by their needs.
use Rattle.std.proofs.Common.{◌≡◌, ℕ, ◌+◌, ◌-◌, ◌<◌, List, length, None, slice_index_or, refl, ap, sym, ◌∙◌, subst, arith}
use Rattle.mc_task.specs.TaskSet.{IsIn, task_at}
use Rattle.mc_task.specs.declared.task.Task.{Task}
use Rattle.timetable.specs.declared.plan.Plan.TheVariants.{Free}
use Rattle.timetable.specs.Floor.{FloorState}
use Rattle.executive.specs.declared.pass.TaskPass.{TaskPass}
use Rattle.executive.specs.declared.executive.Executive.{Executive}
use Rattle.executive.specs.Histories.{calls_of}
use Rattle.executive.specs.Opening.{IsFresh}
use Rattle.executive.specs.Passes.{of_pass, floor_of}
use Rattle.executive.specs.Closing.{OneHistoryLeaves, IsPartOf}
use Rattle.mc_model.specs.LiveTrace.{live_need, EndByNeed}
use Rattle.task_threads.specs.LiveCalls.{AreByNeed}
use Rattle.task_threads.specs.LivePasses.{IsLivePass}
use Rattle.task_threads.specs.Workers.{AreInOrder}
use Rattle.task_threads.specs.LiveLeft.{IsLiveFloor}
use Rattle.task_threads.proofs.InOrder.{first_of}
use Rattle.task_threads.proofs.LiveLaw.{live_rows}

-- the jobs of a pass that made no call end by their needs
pub fresh_live : (e : Executive) (k : ℕ) (p : TaskPass) → IsFresh e k p → IsLivePass e k p
fresh_live e k p fresh = ((fresh.of, fresh.task), subst (AreByNeed (live_need (task_at (floor_of e).core.set k)) None) (sym fresh.mine) tt)

pub closed_live : (e : Executive) (ps : List TaskPass) (f : FloorState) → OneHistoryLeaves (floor_of e) ps f → (floor_of e).plan ≡ Free → AreInOrder IsLivePass e ps → length ps ≡ length (floor_of e).core.set → IsLiveFloor f
closed_live e ps f closes free live all =
    let o = floor_of e in
    let set : List Task = o.core.set in
    let calls : (k : ℕ) → IsIn set k → AreByNeed (live_need (task_at set k)) None (calls_of k closes.log) = λ k inside.
    let low = inside.0 in
    let high = inside.1 in
    let lt : k - 1 < length ps = omega (arith, low, high, all) in
    let back : k - 1 + 1 ≡ k = omega (arith, low) in
    let d = first_of ps (omega (arith, lt)) in
    let p = live (k - 1) d lt in
    let part : IsPartOf closes.log (of_pass (slice_index_or ps (k - 1) d)) = closes.each (k - 1) d lt in
    subst (λ (i : ℕ). AreByNeed (live_need (task_at set i)) None (calls_of i closes.log)) back
    (subst (AreByNeed (live_need (task_at set (k - 1 + 1))) None) (part.own ∙ ap (λ (i : ℕ). calls_of i closes.log) p.0.1) p.1) in
    let rows = live_rows o closes.log free refl refl closes.legal calls in
    let same : f.core.set ≡ set = ap (λ (g : FloorState). g.core.set) closes.same in
    record {
      free = ap (λ (g : FloorState). g.plan) closes.same ∙ free;
      out = closes.none_out;
      ends = subst (λ (s : List Task). EndByNeed s f.core.rows) (sym same) (subst (λ (g : FloorState). EndByNeed set g.core.rows) (sym closes.leaves) rows);
    }
