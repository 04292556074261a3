-- Without an overrun no release is dropped, and each job ends by its deadline.
use Rattle.std.proofs.Common.{◌≡◌, ℕ, ◌≤◌, Bool, true, false, not, ◌&&◌, ◌||◌, List, [], ◌∷◌, cond, nat_le, refl, arith, le-leb}
use Rattle.std.specs.List.{AllByRecursion}
use Rattle.mc_task.specs.declared.task.Rule.{Rule}
use Rattle.mc_task.specs.declared.task.Task.{Task}
use Rattle.mc_task.specs.declared.task.JobId.{JobId}
use Rattle.mc_task.specs.TaskSet.{IsTask, task_at}
use Rattle.mc_model.specs.declared.row.Row.{Row}
use Rattle.mc_model.specs.declared.row.Row.TheVariants.{Release, Tick, Idle}
use Rattle.mc_model.specs.TaskNumbers.{is_high_in}
use Rattle.mc_model.specs.Holds.{Holds}
use Rattle.mc_model.specs.Pending.{KeptRelease, released, ended, over_since}
use Rattle.mc_model.specs.Rows.{same_job, ticks}
use Rattle.mc_task.specs.Kinds.{is_virtual}
use Rattle.mc_model.specs.Mode.{is_over, high_mode}
use Rattle.mc_model.specs.Legal.{Legal}
use Rattle.mc_model.specs.Late.{up_to, deadline, is_late}
use Rattle.mc_model.proofs.Lists.{Each-map}
use Rattle.mc_model.proofs.Steps.{release_fits}
use Rattle.mc_model.proofs.Bridge.{IsBridged, bridge}
use Rattle.mc_task.specs.TaskSet.{IsTask}
use Rattle.demand_law.specs.NoOver.{is_over_row, NoOver, NoDrop, EndedInTime}
use Rattle.demand_law.proofs.Laws.{each_in_time}
use Rattle.std.specs.List.{list_any}
use Rattle.std.proofs.lemmas.Bool.{or_parts, and_right}
use Rattle.std.proofs.Math.Bool.{beq}

-- without an overrun the mode is never high
low_always : (rule : Rule) (h : List Row) → NoOver h → high_mode rule h ≡ false
low_always rule [] n = refl
low_always rule (Release j kept ∷ g) n = low_always rule g n
low_always rule (Idle ∷ g) n = refl
low_always rule (Tick j how ∷ g) n = both (is_virtual rule) (is_over how) (high_mode rule g) (or_parts _ _ n).0 (low_always rule g (or_parts _ _ n).1)
  where
    both : (v o m : Bool) → o ≡ false → m ≡ false → ((v && o) || m) ≡ false
    both true true m e f = e
    both true false m e f = f
    both false o m e f = f

-- without an overrun no release is dropped
pub no_drop : (set : List Task) (rule : Rule) (h : List Row) → Legal set rule h → NoOver h → NoDrop h
no_drop set rule [] l n = refl
no_drop set rule (Tick j how ∷ g) l n = no_drop set rule g l.2 (or_parts _ _ n).1
no_drop set rule (Idle ∷ g) l n = no_drop set rule g l.2 n
no_drop set rule (Release j true ∷ g) l n = no_drop set rule g l.2 n
no_drop set rule (Release j false ∷ g) l n =
    let b : IsBridged set rule (Release j false ∷ g) = bridge set rule (Release j false ∷ g) l in
    let k = (release_fits set rule j false g b.legal.1).kept_so in
    let m : high_mode rule g ≡ false = low_always rule g n in
    absurd (never (is_high_in (task_at set j.task.0)) (rw m at k))
  where
    never : (h : Bool) → beq false (h || not false) ≡ true → ⊥
    never true k = cc
    never false k = cc

-- without an overrun in a trace, there is none up to a tick
over_up_to : (d : ℕ) (h : List Row) → NoOver h → NoOver (up_to d h)
over_up_to d [] n = refl
over_up_to d (row ∷ g) n =
    let later : NoOver (up_to d g) = over_up_to d g (tail row g n) in
    elim (nat_le (ticks (row ∷ g)) d) as (λ b. list_any is_over_row (cond b (row ∷ g) (up_to d g)) ≡ false) [ true ↦ n | false ↦ later ]
  where
    tail : (row : Row) (g : List Row) → NoOver (row ∷ g) → NoOver g
    tail (Release j kept) g n = n
    tail (Tick j how) g n = (or_parts _ _ n).1
    tail Idle g n = n

-- without an overrun in a trace, there is none since the release of a job
never_over : (h : List Row) (j : JobId) → NoOver h → over_since h j ≡ false
never_over [] j n = refl
never_over (Release i kept ∷ g) j n = let r = never_over g j n in rw r (and_right (not (same_job i j)) false refl)
never_over (Tick i how ∷ g) j n = let r = never_over g j (or_parts _ _ n).1 in let o = (or_parts (is_over how) (list_any is_over_row g) n).0 in rw (o, r) refl
never_over (Idle ∷ g) j n = never_over g j n

-- without an overrun, a job that is not late at its deadline has ended
ended_one : (set : List Task) (h : List Row) (x : KeptRelease) → NoOver h → is_late set h x ≡ false → deadline set x ≤ ticks h → ended (up_to (deadline set x) h) x.job ≡ true
ended_one set h x n e due =
    bools (ended (up_to (deadline set x) h) x.job) (is_high_in (task_at set x.job.task.0)) (over_since (up_to (deadline set x) h) x.job)
    (never_over (up_to (deadline set x) h) x.job (over_up_to (deadline set x) h n)) (rw (le-leb _ _ due) at e)
  where
    bools : (n h o : Bool) → o ≡ false → (true && (not n && (h || not o))) ≡ false → n ≡ true
    bools n h o e f = grind arith

-- without an overrun, each job has ended if its deadline has come
pub ended_in_time : (set : List Task) (rule : Rule) (h : List Row) → AllByRecursion IsTask set → Holds set rule → Legal set rule h → NoOver h → EndedInTime set h
ended_in_time set rule h s holds l n = Each-map {P = λ x. is_late set h x ≡ false} (λ x e. ended_one set h x n e) (released h) (each_in_time set rule h s holds l)
