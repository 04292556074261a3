-- The laws of a legal trace under a rule that holds, over the definitions of the model.
use Rattle.std.proofs.Common.{◌≡◌, ◌+◌, ◌*◌, ◌≤◌, true, false, List, [], filter, map, reverse, nat_le, refl, ap, subst, arith, leb-true}
use Rattle.std.specs.List.{AllByRecursion}
use Rattle.mc_task.specs.declared.task.Rule.{Rule}
use Rattle.mc_task.specs.declared.task.Task.{Task}
use Rattle.mc_task.specs.TaskSet.{task_at, IsTask}
use Rattle.mc_model.specs.declared.row.Row.{Row}
use Rattle.mc_model.specs.TaskNumbers.{period_in}
use Rattle.mc_model.specs.Holds.{Holds}
use Rattle.mc_model.specs.Pending.{KeptRelease, released, pending, is_still_pending}
use Rattle.mc_model.specs.Rows.{ticks}
use Rattle.mc_model.specs.Legal.{Legal}
use Rattle.mc_model.specs.Mode.{high_mode}
use Rattle.mc_model.specs.Key.{scale}
use Rattle.mc_model.specs.Late.{up_to, deadline, is_late}
use Rattle.mc_model.proofs.Jobs.{is_in, each_in, kept_in}
use Rattle.mc_model.proofs.Lists.{Each, Each-both, filter_none}
use Rattle.mc_model.proofs.Bridge.{IsBridged, bridge}
use Rattle.mc_task.specs.TaskSet.{IsTask}
use Rattle.demand_law.specs.Laws.{NoneLate, NoneDue}
use Rattle.demand_law.specs.OneLive.{AtMostOne, NoneAtRelease}
use Rattle.demand_law.proofs.Keys.{keys_above}
use Rattle.demand_law.proofs.Reached.{Reaches, reaches, periods, ticks-up_to, legal-up_to}
use Rattle.demand_law.proofs.OneLive.{InTime, in_time, one_live, none_live}
use Rattle.demand_law.proofs.LowMode
use Rattle.mc_model.proofs.Fold
use Rattle.mc_model.proofs.Booleans.{not_both}

-- a job that was released is not late
pub not_late : (set : List Task) (rule : Rule) (h : List Row) → AllByRecursion IsTask set → Holds set rule → Legal set rule h → (x : KeptRelease) → Reaches h x → 1 ≤ period_in (task_at set x.job.task.0) → is_late set h x ≡ false
not_late set rule h s holds l x r n = not_both _ _ (λ a b. at (up_to (deadline set x) h) refl a b)
  where
    at : (g : List Row) → up_to (deadline set x) h ≡ g → nat_le (deadline set x) (ticks h) ≡ true → is_still_pending set (up_to (deadline set x) h) x ≡ true → ⊥
    at g e a b =
        let due : deadline set x ≤ ticks h = leb-true _ _ a in
        let t : ticks (up_to (deadline set x) h) ≡ deadline set x = ticks-up_to (deadline set x) h due in
        let lg : Legal set rule (up_to (deadline set x) h) = legal-up_to set rule (deadline set x) h l in
        let br : IsBridged set rule (up_to (deadline set x) h) = bridge set rule (up_to (deadline set x) h) lg in
        let i : is_in (released (up_to (deadline set x) h)) x ≡ true = r (deadline set x) (omega (arith, n)) in
        let k : is_in (pending set (up_to (deadline set x) h)) x ≡ true = kept_in (is_still_pending set (up_to (deadline set x) h)) x (released (up_to (deadline set x) h)) i b in
        let f : is_in (Fold.pending set (up_to (deadline set x) h)) x ≡ true = subst (λ xs. is_in xs x ≡ true) br.same k in
        let c : ticks (up_to (deadline set x) h) + 1 ≤ deadline set x = each_in (InTime set (up_to (deadline set x) h)) x (Fold.pending set (up_to (deadline set x) h)) f (in_time set rule (up_to (deadline set x) h) s holds br.legal) in
        omega (arith, t, c)

-- none of the released jobs is late
pub each_in_time : (set : List Task) (rule : Rule) (h : List Row) → AllByRecursion IsTask set → Holds set rule → Legal set rule h → Each (λ x. is_late set h x ≡ false) (released h)
each_in_time set rule h s holds l = Each-both {P = Reaches h} {Q = λ x. 1 ≤ period_in (task_at set x.job.task.0)} (λ x r n. not_late set rule h s holds l x r n) (released h) (reaches h) (periods set rule h s l)

-- no job is late
pub none_late : (set : List Task) (rule : Rule) (h : List Row) → AllByRecursion IsTask set → Holds set rule → Legal set rule h → NoneLate set h
none_late set rule h s holds l =
    let e : filter (is_late set h) (released h) ≡ [] = filter_none (is_late set h) (released h) (each_in_time set rule h s holds l) in
    ap (λ xs. map (λ (i : KeptRelease). i.job) (reverse xs)) e

-- in low mode no key of a pending job has come
pub none_due : (set : List Task) (rule : Rule) (h : List Row) → AllByRecursion IsTask set → Holds set rule → Legal set rule h → high_mode rule h ≡ false → NoneDue set rule h
none_due set rule h s holds l m =
    let b : IsBridged set rule h = bridge set rule h l in
    rw b.same (keys_above set rule false (scale rule * ticks h) (Fold.pending set h) (LowMode.low_law set rule h s holds b.legal m))

-- each task has at most one pending job
pub at_most_one : (set : List Task) (rule : Rule) (h : List Row) → AllByRecursion IsTask set → Holds set rule → Legal set rule h → AtMostOne set h
at_most_one set rule h s holds l k =
    let b : IsBridged set rule h = bridge set rule h l in
    rw b.same (one_live set rule h k s holds b.legal)

-- no task has a pending job at a boundary where its next release may come
pub none_at_release : (set : List Task) (rule : Rule) (h : List Row) → AllByRecursion IsTask set → Holds set rule → Legal set rule h → NoneAtRelease set h
none_at_release set rule h s holds l k n =
    let b : IsBridged set rule h = bridge set rule h l in
    rw b.same (none_live set rule h k s holds b.legal n)
