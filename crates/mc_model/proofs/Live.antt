-- Each pending job of a legal trace is of the set, was released by now, and has a tick of its budget left.
use Rattle.std.proofs.Common.{◌≡◌, ℕ, ◌+◌, ◌≤◌, Bool, true, false, not, ◌&&◌, List, [], ◌∷◌, Option, ◌≢◌, refl, sym, subst, arith}
use Rattle.std.specs.List.{AllByRecursion}
use Rattle.mc_task.specs.declared.task.Rule.{Rule}
use Rattle.mc_task.specs.declared.task.Rule.TheVariants.{Plain, Virtual}
use Rattle.mc_task.specs.declared.task.Task.{Task}
use Rattle.mc_task.specs.declared.task.JobId.{JobId}
use Rattle.mc_task.specs.TaskSet.{task_at, IsTask, IsIn}
use Rattle.mc_model.specs.declared.row.How.{How}
use Rattle.mc_model.specs.declared.row.How.TheVariants.{More, Done, Stop, Over}
use Rattle.mc_model.specs.declared.row.Row.{Row}
use Rattle.mc_model.specs.declared.row.Row.TheVariants.{Release, Tick, Idle}
use Rattle.mc_model.specs.TaskNumbers.{low_in, own_in, is_high_in}
use Rattle.mc_model.specs.Pending.{KeptRelease, is_end}
use Rattle.mc_model.specs.Rows.{same_job, ticks, used}
use Rattle.mc_task.specs.Kinds.{is_virtual}
use Rattle.mc_model.specs.Mode.{high_mode, is_over}
use Rattle.mc_model.proofs.Fold.{pending, stays, Legal}
use Rattle.mc_model.proofs.Lists.{Each, Each-map, Each-filter_if}
use Rattle.mc_model.proofs.Steps.{release_fits, tick_fits, idle_fits, Hows, more, done, stop, over, hows}
use Rattle.mc_model.proofs.Jobs.{job_eq}
use Rattle.mc_model.proofs.Booleans.{or_left, or_right}
use Rattle.mc_model.proofs.Tasks.{IsKnown, known}
use Rattle.mc_model.proofs.Counts.{Counted, counted}

-- how many ticks a job may have in low mode: the low budget, and the own budget under plain EDF
abbrev pub low_budget : Rule → Option Task → ℕ
low_budget Plain t = own_in t
low_budget (Virtual p q) t = low_in t

-- what holds of each pending job
pub record IsLiveOk (set : List Task) (rule : Rule) (h : List Row) (x : KeptRelease) : Type 0 where
  pub inside : IsIn set x.job.task.0
  pub past : x.release ≤ ticks h
  pub own : used h x.job + 1 ≤ own_in (task_at set x.job.task.0)
  pub low : high_mode rule h ≡ false → used h x.job + 1 ≤ low_budget rule (task_at set x.job.task.0)

-- a job's budget in low mode is not 0, and at most its own
low_budget-own : (rule : Rule) (t : Option Task) → IsKnown t → (1 ≤ low_budget rule t) × (low_budget rule t ≤ own_in t)
low_budget-own Plain t k = let a = k.order in let b = k.low in (omega arith, omega arith)
low_budget-own (Virtual p q) t k = let a = k.order in let b = k.low in (omega arith, omega arith)

-- a job after a tick of its own that did not end it
record IsAfter (rule : Rule) (g : List Row) (how : How) (t : Option Task) (n : ℕ) : Type 0 where
  own : n + 1 + 1 ≤ own_in t
  low : high_mode rule g ≡ false → (is_virtual rule && is_over how) ≡ false → n + 1 + 1 ≤ low_budget rule t

-- a tick in low mode that is neither the last nor an overrun leaves a tick of the budget
more_low : (rule : Rule) (t : Option Task) (n : ℕ) (m : Bool) → IsKnown t → n + 1 ≤ low_budget rule t → n + 1 ≢ own_in t → (is_virtual rule ≡ true → m ≡ false → is_high_in t ≡ true → n + 1 ≢ low_in t) → m ≡ false → n + 1 + 1 ≤ low_budget rule t
more_low Plain t n m k h a f e = omega arith
more_low (Virtual p q) t n m k h a f e = go (is_high_in t) refl
  where
    go : (b : Bool) → is_high_in t ≡ b → n + 1 + 1 ≤ low_in t
    go true v = let u : n + 1 ≢ low_in t = f refl e v in omega arith
    go false v = let u : own_in t ≡ low_in t = k.one_budget v in omega arith

-- a tick of the job that does not end it leaves a tick of its budget
after_own : (set : List Task) (rule : Rule) (i : JobId) (how : How) (g : List Row) (b : Bool) → IsKnown (task_at set i.task.0) →
    used g i + 1 ≤ own_in (task_at set i.task.0) → (high_mode rule g ≡ false → used g i + 1 ≤ low_budget rule (task_at set i.task.0)) →
    (not (is_end how && true) && b) ≡ true → Hows set rule g i how → IsAfter rule g how (task_at set i.task.0) (used g i)
after_own set rule i More g b k o l st (more a f) = record {
  own = omega arith;
  low = λ m v. more_low rule (task_at set i.task.0) (used g i) (high_mode rule g) k (l m) a f m;
}
after_own set rule i Done g b k o l st (done a) = cc
after_own set rule i Stop g b k o l st (stop a) = cc
after_own set rule i Over g b k o l st (over v m y e a) = record { own = omega arith; low = λ w z. absurd (never rule v z) }
  where
    never : (r : Rule) → is_virtual r ≡ true → (is_virtual r && true) ≡ false → ⊥
    never Plain a b = cc
    never (Virtual p q) a b = cc

-- each job that a tick leaves pending has a tick of its budget left
stays_ok : (set : List Task) (rule : Rule) (j : JobId) (how : How) (g : List Row) → Hows set rule g j how → (x : KeptRelease) → IsKnown (task_at set x.job.task.0) → IsLiveOk set rule g x → stays set j how x ≡ true → IsLiveOk set rule (Tick j how ∷ g) x
stays_ok set rule j how g hs x k ok st = go (same_job j x.job) refl
  where
    go : (b : Bool) → same_job j x.job ≡ b → IsLiveOk set rule (Tick j how ∷ g) x
    go true m =
        let a = after_own set rule x.job how g _ k ok.own ok.low (rw m at st) (subst (λ i. Hows set rule g i how) (job_eq j x.job m) hs) in
        let u : used (Tick j how ∷ g) x.job ≡ used g x.job + 1 = rw m (omega arith) in
        record {
          inside = ok.inside;
          past = let p = ok.past in omega arith;
          own = let o : used g x.job + 1 + 1 ≤ own_in (task_at set x.job.task.0) = a.own in omega arith;
          low = λ n. let o : used g x.job + 1 + 1 ≤ low_budget rule (task_at set x.job.task.0) = a.low (or_right (is_virtual rule && is_over how) (high_mode rule g) n) (or_left (is_virtual rule && is_over how) (high_mode rule g) n) in omega arith;
        }
    go false m =
        let u : used (Tick j how ∷ g) x.job ≡ used g x.job = rw m (omega arith) in
        record {
          inside = ok.inside;
          past = let p = ok.past in omega arith;
          own = let o : used g x.job + 1 ≤ own_in (task_at set x.job.task.0) = ok.own in omega arith;
          low = λ n. let o : used g x.job + 1 ≤ low_budget rule (task_at set x.job.task.0) = ok.low (or_right (is_virtual rule && is_over how) (high_mode rule g) n) in omega arith;
        }

-- each pending job of a legal trace is of the set, was released by now, and has a tick of its budget left
pub live_ok : (set : List Task) (rule : Rule) (h : List Row) → AllByRecursion IsTask set → Legal set rule h → Each (IsLiveOk set rule h) (pending set h)
live_ok set rule [] s l = tt
live_ok set rule (Release j true ∷ g) s l =
    let ih : Each (IsLiveOk set rule g) (pending set g) = live_ok set rule g s l.2 in
    let fits = release_fits set rule j true g l.1 in
    let c : Counted set g = counted set rule g l.2 in
    let unused : used g j ≡ 0 = c.fresh j (let e = fits.count in omega arith) in
    let k : IsKnown (task_at set j.task.0) = known set j.task.0 s l.0 in
    let b = low_budget-own rule _ k in (
      record { inside = l.0; past = omega arith; own = omega arith; low = λ m. omega arith },
      Each-map {P = IsLiveOk set rule g} (λ x o. record { inside = o.inside; past = o.past; own = o.own; low = o.low }) (pending set g) ih,
    )
live_ok set rule (Release j false ∷ g) s l =
    let ih : Each (IsLiveOk set rule g) (pending set g) = live_ok set rule g s l.2 in
    Each-map {P = IsLiveOk set rule g} (λ x o. record { inside = o.inside; past = o.past; own = o.own; low = o.low }) (pending set g) ih
live_ok set rule (Tick j how ∷ g) s l =
    let ih : Each (IsLiveOk set rule g) (pending set g) = live_ok set rule g s l.2 in
    let fits = tick_fits set rule j how g l.1 in
    Each-filter_if (IsLiveOk set rule (Tick j how ∷ g)) (stays set j how) (pending set g)
    (Each-map {P = IsLiveOk set rule g} (λ x o st. stays_ok set rule j how g (hows set rule g j how fits.how_so) x (known set x.job.task.0 s o.inside) o st) (pending set g) ih)
live_ok set rule (Idle ∷ g) s l =
    subst (λ xs. Each (IsLiveOk set rule (Idle ∷ g)) xs) (sym (idle_fits set rule g l.1)) tt
