-- The job that runs first among the slots is the pending job that runs first.
use Rattle.std.proofs.Common.{◌≡◌, ℕ, ◌≤◌, Bool, true, false, List, Option, Some, None, IfSome, IfNone, option_map, refl, sym, ap, subst, ◌∙◌, arith}
use Rattle.std.proofs.lemmas.Bool.Decides.{nat_tests}
use Rattle.std.proofs.lemmas.Option.{same_Some, none-some}
use Rattle.std.specs.List.{AllByRecursion}
use Rattle.mc_task.specs.declared.task.Rule.{Rule}
use Rattle.mc_task.specs.declared.task.Task.{Task}
use Rattle.mc_task.specs.TaskSet.{IsTask, IsIn}
use Rattle.mc_model.specs.declared.row.Row.{Row}
use Rattle.mc_model.specs.Rows.{ticks}
use Rattle.mc_model.specs.Legal.{Legal}
use Rattle.mc_model.specs.Mode.{high_mode}
use Rattle.mc_model.specs.Pending.{KeptRelease, pending}
use Rattle.mc_model.specs.Core.{runs_before, first_to_run}
use Rattle.mc_model.specs.Holds.{Holds}
use Rattle.mc_model.proofs.Jobs.{is_in, each_in}
use Rattle.mc_model.proofs.Live.{IsLiveOk}
use Rattle.demand_law.proofs.Laws.{at_most_one}
use Rattle.mode_core.specs.declared.pending.Pending.{Pending}
use Rattle.mode_core.specs.Entries.{entry, kept_release_of, job_of}
use Rattle.mode_core.specs.Slots.{Slots, waiting, IsQuiet, RunsFirst}
use Rattle.mode_core.specs.Representation.{IsTally}
use Rattle.mode_core.proofs.ByTask.{job_of-in, job_of-one}
use Rattle.mode_core.proofs.Chosen.{IsFirst, is_first, none_runs}
use Rattle.mode_core.proofs.Options.{mapped}
use Rattle.mode_core.proofs.Fits.{each_ok}

-- two jobs of which neither runs before the other are of one task
same_task : (set : List Task) (rule : Rule) (high : Bool) (x y : KeptRelease) → runs_before set rule high x y ≡ false → runs_before set rule high y x ≡ false → x.job.task.0 ≡ y.job.task.0
same_task set rule high x y h k = grind (arith, nat_tests)

-- the job that runs first among the slots, with its ticks
pub first_pending :
    (h : List Row) (s : Slots) (t : ℕ) (o : Option Pending) → AllByRecursion IsTask s.set → Holds s.set s.rule → IsTally s.set s.rule h t s.high (waiting s) →
    IfSome o (RunsFirst s) → IfNone o (IsQuiet s) → o ≡ option_map (entry h) (first_to_run s.set s.rule (high_mode s.rule h) (pending s.set h))
first_pending h s t o tasks holds y some none = go o some none (first_to_run s.set s.rule (high_mode s.rule h) (pending s.set h)) refl
  where
    xs : List KeptRelease
    xs = pending s.set h

    found : (x : KeptRelease) → is_in xs x ≡ true → job_of x.job.task.0 xs ≡ Some x
    found x i = job_of-one x xs i (at_most_one s.set s.rule h tasks holds y.legal x.job.task.0)

    inside : (x : KeptRelease) → is_in xs x ≡ true → IsIn s.set x.job.task.0
    inside x i = (each_in (IsLiveOk s.set s.rule h) x xs i (each_ok s.set s.rule h tasks y.legal)).inside

    slot : (x : KeptRelease) → is_in xs x ≡ true → waiting s x.job.task.0 ≡ Some (entry h x)
    slot x i = y.slots_are x.job.task.0 (inside x i) ∙ ap (option_map (entry h)) (found x i)

    both : (p : Pending) (x : KeptRelease) → RunsFirst s p → IsFirst s.set s.rule (high_mode s.rule h) xs x → Some p ≡ Some (entry h x)
    both p x r f =
        let j = mapped (entry h) (job_of p.job.task.0 xs) p (sym (y.slots_are p.job.task.0 r.inside) ∙ r.there) in
        let here : is_in xs j.0 ≡ true = job_of-in p.job.task.0 xs j.0 j.1 in
        let back : runs_before s.set s.rule (high_mode s.rule h) j.0 x ≡ false =
        each_in (λ i. runs_before s.set s.rule (high_mode s.rule h) i x ≡ false) j.0 xs here f.none_before in
        let ahead : runs_before s.set s.rule s.high x (kept_release_of p) ≡ false = r.others x.job.task.0 (entry h x) (inside x f.inside) (slot x f.inside) in
        let front : runs_before s.set s.rule (high_mode s.rule h) x j.0 ≡ false =
        subst (λ (m : Bool). runs_before s.set s.rule m x j.0 ≡ false) y.mode_is
        (subst (λ (q : Pending). runs_before s.set s.rule s.high x (kept_release_of q) ≡ false) (sym j.2) ahead) in
        let number : j.0.job.task.0 ≡ x.job.task.0 = same_task s.set s.rule (high_mode s.rule h) j.0 x back front in
        let same : j.0 ≡ x = same_Some j.0 x (sym (found j.0 here) ∙ (ap (λ (k : ℕ). job_of k xs) number ∙ found x f.inside)) in
        ap (λ (q : Pending). Some q) (sym j.2 ∙ ap (entry h) same)

    go : (o : Option Pending) → IfSome o (RunsFirst s) → IfNone o (IsQuiet s) → (f : Option KeptRelease) → first_to_run s.set s.rule (high_mode s.rule h) xs ≡ f → o ≡ option_map (entry h) f
    go None some none None e = refl
    go None some none (Some x) e =
        let f = is_first s.set s.rule (high_mode s.rule h) xs x e in
        absurd (none-some (entry h x) (sym (none x.job.task.0 (inside x f.inside)) ∙ slot x f.inside))
    go (Some p) some none None e =
        let empty = ap (λ (is : List KeptRelease). option_map (entry h) (job_of p.job.task.0 is)) (none_runs s.set s.rule (high_mode s.rule h) xs e) in
        absurd (none-some p (sym empty ∙ (sym (y.slots_are p.job.task.0 some.inside) ∙ some.there)))
    go (Some p) some none (Some x) e = both p x some (is_first s.set s.rule (high_mode s.rule h) xs x e)

-- the pending job of a task was released by the present tick
pub released_by :
    (set : List Task) (rule : Rule) (h : List Row) (n k : ℕ) → AllByRecursion IsTask set → Legal set rule h → ticks h ≤ n → (o : Option KeptRelease) →
    ((x : KeptRelease) → o ≡ Some x → job_of k (pending set h) ≡ Some x) → IfSome (option_map (entry h) o) (λ (p : Pending). p.release ≤ n)
released_by set rule h n k tasks l few None is = tt
released_by set rule h n k tasks l few (Some x) is =
    let past : x.release ≤ ticks h = (each_in (IsLiveOk set rule h) x (pending set h) (job_of-in k (pending set h) x (is x refl)) (each_ok set rule h tasks l)).past in
    omega (arith, past, few)
