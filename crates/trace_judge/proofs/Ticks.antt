-- Ticks of a job at the least key, of which as many fit as its budget has left.
use Rattle.std.proofs.Common.{◌≡◌, ℕ, zero, suc, ◌+◌, ◌≤◌, Bool, true, false, not, ◌&&◌, ◌==◌, List, [], ◌∷◌, ◌++◌, Option, Some, cond, replicate, refl, sym, ◌∙◌, subst, arith, ◌<◌, ◌≢◌, ap, None, ◌-◌, ◌^◌}
use Rattle.std.specs.List.{AllByRecursion, list_any, list_all}
use Rattle.std.specs.Prelude.{find, nat_le}
use Rattle.std.proofs.lemmas.Bool.Decides.{nat_tests}
use Rattle.mc_task.specs.declared.task.Rule.{Rule}
use Rattle.mc_task.specs.declared.task.Rule.TheVariants.{Plain, Virtual}
use Rattle.mc_task.specs.declared.task.Task.{Task}
use Rattle.mc_task.specs.declared.task.JobId.{JobId}
use Rattle.mc_task.specs.TaskSet.{task_at, IsTask, IsIn}
use Rattle.mc_task.specs.Kinds.{is_virtual}
use Rattle.mc_model.specs.declared.row.How.TheVariants.{More, Stop, Over}
use Rattle.mc_model.specs.declared.row.Row.{Row}
use Rattle.mc_model.specs.declared.row.Row.TheVariants.{Tick}
use Rattle.mc_model.specs.declared.verdict.Why.TheVariants.{WrongHow}
use Rattle.mc_model.specs.TaskNumbers.{low_in, own_in, is_high_in}
use Rattle.mc_model.specs.Rows.{same_job, used}
use Rattle.mc_model.specs.Mode.{high_mode}
use Rattle.mc_model.specs.Pending.{KeptRelease, pending}
use Rattle.mc_model.specs.Legal.{Legal, fault, first_of_parts, is_pending, is_least, same_how}
use Rattle.mc_model.specs.declared.run.Run.{Run}
use Rattle.mc_model.specs.declared.verdict.Why.{Why}
use Rattle.mc_model.specs.Runs.{row_of, size, IsRun}
use Rattle.mc_model.specs.declared.row.How.{How}
use Rattle.mc_model.specs.declared.run.Run.TheVariants as run
use Rattle.mc_model.proofs.Jobs.{job_eq, same_job-refl}
use Rattle.mc_model.proofs.Lists.{Each}
use Rattle.mc_model.proofs.Bridge.{bridge}
use Rattle.mc_model.proofs.Live.{IsLiveOk, live_ok, low_budget}
use Rattle.mc_model.proofs.Repeats.{mode_more, pending_more, used_more}
use Rattle.mc_model.proofs.Runs.{alone}
use Rattle.mc_model.proofs.Tasks.{known}
use Rattle.trace_judge.specs.declared.step.Misfit.{Misfit}
use Rattle.trace_judge.specs.Rules.{budget, allows, fitting}
use Rattle.trace_judge.specs.Tracks.{StopsAt, Tracks}
use Rattle.trace_judge.specs.declared.pending_queues.Pending.{Pending}
use Rattle.trace_judge.specs.Entries.{Entry, is_of}
use Rattle.trace_judge.specs.declared.state.State.{State}
use Rattle.trace_judge.specs.Steps.{GoesOn, Ends}
use Rattle.trace_judge.specs.Switch.{Overruns}
use Rattle.trace_judge.proofs.Firsts.{found_any}
use Rattle.trace_judge.proofs.Placed.{pending_is}
use Rattle.trace_judge.proofs.Faults.{found_least, pending_same, least_same, found_used, stands_least, over_virtual}
use Rattle.trace_judge.proofs.Keeps.{keeps_end, keeps_over, keeps_more}

-- a tick that does not reach the budget may be one after which the job goes on
goes_on : (c : Bool) (u low own : ℕ) → low ≤ own → u + 1 ≤ cond c low own → same_how More (cond (u == own) Stop (cond (c && (u == low)) Over More)) ≡ true
goes_on c u low own o h = grind (arith, nat_tests)

-- a tick that reaches the budget is not one after which the job goes on
ends_there : (c : Bool) (u low own : ℕ) → u ≡ cond c low own → same_how More (cond (u == own) Stop (cond (c && (u == low)) Over More)) ≡ false
ends_there c u low own h = grind (arith, nat_tests)

-- the first ticks of a job that is pending and has a least key, after which it goes on: the next such tick fits before the budget
pub more_fault : (set : List Task) (rule : Rule) (j : JobId) (n : ℕ) (g : List Row) → is_pending (pending set g) j ≡ true → is_least set rule (high_mode rule g) (pending set g) j ≡ true →
    fault set rule (Tick j More) (replicate n (Tick j More) ++ g)
    ≡ first_of_parts ((same_how More (cond (used g j + n + 1 == own_in (task_at set j.task.0)) Stop (cond ((is_high_in (task_at set j.task.0) && is_virtual rule && not (high_mode rule g)) && (used g j + n + 1 == low_in (task_at set j.task.0))) Over More)), WrongHow) ∷ [])
more_fault set rule j n g p l =
    let u : used (replicate n (Tick j More) ++ g) j ≡ used g j + n = used_more j n g j ∙ rw (same_job-refl j) (omega arith) in
    rw (pending_more set j n g, mode_more rule j n g, u, p, l) refl

-- n ticks after which the job goes on fit if they stay below the budget
pub more_legal : (set : List Task) (rule : Rule) (j : JobId) (n : ℕ) (g : List Row) → low_in (task_at set j.task.0) ≤ own_in (task_at set j.task.0) → IsIn set j.task.0 → Legal set rule g →
    is_pending (pending set g) j ≡ true → is_least set rule (high_mode rule g) (pending set g) j ≡ true → used g j + n + 1 ≤ budget rule (high_mode rule g) (task_at set j.task.0) → Legal set rule (replicate n (Tick j More) ++ g)
more_legal set rule j zero g o i v p l h = v
more_legal set rule j (suc n) g o i v p l h =
    let f = goes_on (is_high_in (task_at set j.task.0) && is_virtual rule && not (high_mode rule g)) (used g j + n + 1) (low_in (task_at set j.task.0)) (own_in (task_at set j.task.0)) o (omega (arith, h)) in
    (i, more_fault set rule j n g p l ∙ rw f refl, more_legal set rule j n g o i v p l (omega (arith, h)))

-- the tick that reaches the budget does not fit
pub more_stops : (set : List Task) (rule : Rule) (j : JobId) (n : ℕ) (g : List Row) → is_pending (pending set g) j ≡ true → is_least set rule (high_mode rule g) (pending set g) j ≡ true →
    used g j + n + 1 ≡ budget rule (high_mode rule g) (task_at set j.task.0) → fault set rule (Tick j More) (replicate n (Tick j More) ++ g) ≡ Some WrongHow
more_stops set rule j n g p l h =
    let f = ends_there (is_high_in (task_at set j.task.0) && is_virtual rule && not (high_mode rule g)) (used g j + n + 1) (low_in (task_at set j.task.0)) (own_in (task_at set j.task.0)) h in
    more_fault set rule j n g p l ∙ rw f refl

-- a pending job has a tick left of the budget
pub pending_budget : (set : List Task) (rule : Rule) (g : List Row) (j : JobId) → AllByRecursion IsTask set → Legal set rule g → is_pending (pending set g) j ≡ true → used g j + 1 ≤ budget rule (high_mode rule g) (task_at set j.task.0)
pending_budget set rule g j s v p =
    let b = bridge set rule g v in
    among (pending set g) (subst (λ xs. Each (IsLiveOk set rule g) xs) (sym b.same) (live_ok set rule g s b.legal)) p
  where
    by_parts : (rule : Rule) (t : Option Task) (a high : Bool) (n : ℕ) → n ≤ own_in t → (high ≡ false → n ≤ low_budget rule t) → n ≤ cond (a && is_virtual rule && not high) (low_in t) (own_in t)
    by_parts Plain t a high n o l = grind arith
    by_parts (Virtual p q) t a high n o l = grind arith

    among : (xs : List KeptRelease) → Each (IsLiveOk set rule g) xs → list_any (λ i. same_job j i.job) xs ≡ true → used g j + 1 ≤ budget rule (high_mode rule g) (task_at set j.task.0)
    among [] e h = cc
    among (x ∷ xs) e h =
        let mine = by_parts rule (task_at set x.job.task.0) (is_high_in (task_at set x.job.task.0)) (high_mode rule g) (used g x.job + 1) e.0.own e.0.low in
        let same : same_job j x.job ≡ true → used g j + 1 ≤ budget rule (high_mode rule g) (task_at set j.task.0) = λ m. rw (job_eq j x.job m) mine in
        grind (arith, among xs e.1, same)

-- the first row of a run does not fit
pub at_first : (set : List Task) (rule : Rule) (r : Run) (g : List Row) (m : Misfit) (why : Why) → m ≡ record { after = 0; why = why } → 1 ≤ size r → Legal set rule g → Some why ≡ fault set rule (row_of r) g → StopsAt set rule r g m
at_first set rule r g m why e some l f = subst (StopsAt set rule r g) (sym e) (record { inside = omega (arith, some); before = l; there = sym f })

-- if the first row of a run does not fit, the state stays as it is
pub at_first_tracks : (set : List Task) (rule : Rule) (r : Run) (g : List Row) (s : State) (m : Misfit) (why : Why) → m ≡ record { after = 0; why = why } → Tracks set rule g s → Tracks set rule (replicate m.after (row_of r) ++ g) s
at_first_tracks set rule r g s m why e t = subst (λ (x : Misfit). Tracks set rule (replicate x.after (row_of r) ++ g) s) (sym e) t

-- if several rows of a run of ticks fit before one that does not, its job goes on after each of them
pub ticks_before : (set : List Task) (rule : Rule) (g : List Row) (s s' : State) (j : JobId) (how : How) (n : ℕ) (m : Misfit) → IsRun (run.Ticks j how n) → Legal set rule g → Tracks set rule g s → s.ticks + n ≤ 2 ^ 62 →
    0 < m.after → m.after < n → GoesOn m.after j s s' → Tracks set rule (replicate m.after (row_of (run.Ticks j how n)) ++ g) s'
ticks_before set rule g s s' j how n m is_run l t room some inside goes =
    rw (is_run.1 (omega (arith, some, inside))) (keeps_more set rule g s s' j m.after l t (omega (arith, room, inside)) goes)

-- a run of ticks of a job that stands at the least key of what is kept of legal rows
pub record IsTicking (set : List Task) (rule : Rule) (g : List Row) (s : State) (j : JobId) (how : How) (n k : ℕ) (p : Pending) (task : Task) : Type 0 where
  pub legal : Legal set rule g
  pub tracks : Tracks set rule g s
  pub room : s.ticks + n ≤ 2 ^ 62
  pub least : (find (is_of j) s.waiting.entries ≡ Some (record { key = k; job = j }, p)) × (list_all (λ (o : Entry). nat_le k o.0.key) s.waiting.entries ≡ true)
  pub at : task_at set j.task.0 ≡ Some task
  pub inside : IsIn set j.task.0
  pub is_run : IsRun (run.Ticks j how n)
  pub each : AllByRecursion IsTask set

-- the job of a run of ticks is pending
is_there : (set : List Task) (rule : Rule) (g : List Row) (s : State) (j : JobId) (how : How) (n k : ℕ) (p : Pending) (task : Task) → IsTicking set rule g s j how n k p task → is_pending (pending set g) j ≡ true
is_there set rule g s j how n k p task i =
    ap (λ xs. is_pending xs j) (pending_is set rule g i.legal)
    ∙ (pending_same set rule g s j i.tracks ∙ found_any (is_of j) (record { key = k; job = j }, p) s.waiting.entries i.least.0)

-- the job of a run of ticks is at a least key
is_first : (set : List Task) (rule : Rule) (g : List Row) (s : State) (j : JobId) (how : How) (n k : ℕ) (p : Pending) (task : Task) → IsTicking set rule g s j how n k p task → is_least set rule (high_mode rule g) (pending set g) j ≡ true
is_first set rule g s j how n k p task i =
    ap (λ xs. is_least set rule (high_mode rule g) xs j) (pending_is set rule g i.legal)
    ∙ (least_same set rule g s j i.tracks ∙ found_least j (record { key = k; job = j }, p) s.waiting.entries i.least.1 i.least.0)

-- the budget of the job of a run of ticks, of which at least one tick is left
budget_is : (set : List Task) (rule : Rule) (g : List Row) (s : State) (j : JobId) (how : How) (n k : ℕ) (p : Pending) (task : Task) → IsTicking set rule g s j how n k p task →
    (budget rule s.high_mode (Some task) ≡ budget rule (high_mode rule g) (task_at set j.task.0)) × (p.used ≡ used g j) × (used g j + 1 ≤ budget rule (high_mode rule g) (task_at set j.task.0))
budget_is set rule g s j how n k p task i =
    (rw (i.at, i.tracks.mode) refl, found_used set rule g s j k p i.tracks i.least.0, pending_budget set rule g j i.each i.legal (is_there set rule g s j how n k p task i))

-- m of the run's ticks, after which the job continues, fit if they stay below the budget
more_fit : (set : List Task) (rule : Rule) (g : List Row) (s : State) (j : JobId) (n k : ℕ) (p : Pending) (task : Task) → IsTicking set rule g s j More n k p task →
    (m : ℕ) → m ≤ budget rule s.high_mode (Some task) - p.used - 1 → Legal set rule (replicate m (Tick j More) ++ g)
more_fit set rule g s j n k p task i m h =
    let b = budget_is set rule g s j More n k p task i in
    more_legal set rule j m g (known set j.task.0 i.each i.inside).order i.inside i.legal (is_there set rule g s j More n k p task i)
    (is_first set rule g s j More n k p task i) (omega (arith, h, b.0, b.1, b.2))

-- the last tick of a run fits if its outcome is allowed
one_fault : (set : List Task) (rule : Rule) (g : List Row) (s : State) (j : JobId) (how : How) (n k : ℕ) (p : Pending) (task : Task) → IsTicking set rule g s j how n k p task →
    fault set rule (Tick j how) g ≡ cond (allows rule s.high_mode (Some task) (p.used + 1) how) None (Some WrongHow)
one_fault set rule g s j how n k p task i = stands_least set rule g s j how p i.legal i.tracks (k, i.least.0, i.least.1) ∙ rw i.at refl

one_stops : (set : List Task) (rule : Rule) (g : List Row) (s : State) (j : JobId) (how : How) (n k : ℕ) (p : Pending) (task : Task) → IsTicking set rule g s j how n k p task →
    (fit : ℕ) → fit ≡ cond (allows rule s.high_mode (Some task) (p.used + 1) how) n 0 → fit < n → StopsAt set rule (run.Ticks j how n) g (record { after = fit; why = WrongHow })
one_stops set rule g s j how n k p task i fit e h =
    let no : allows rule s.high_mode (Some task) (p.used + 1) how ≡ false = grind (arith, e, h) in
    let none : fit ≡ 0 = e ∙ rw no refl in
    rw none (record { inside = omega (arith, h); before = i.legal; there = one_fault set rule g s j how n k p task i ∙ rw no refl })

one_fits : (set : List Task) (rule : Rule) (g : List Row) (s : State) (j : JobId) (how : How) (n k : ℕ) (p : Pending) (task : Task) → IsTicking set rule g s j how n k p task → how ≢ More →
    n ≤ cond (allows rule s.high_mode (Some task) (p.used + 1) how) n 0 → (n ≡ 1) × (allows rule s.high_mode (Some task) (p.used + 1) how ≡ true) × Legal set rule (Tick j how ∷ g)
one_fits set rule g s j how n k p task i other h =
    let yes : allows rule s.high_mode (Some task) (p.used + 1) how ≡ true = grind (arith, i.is_run.0, h) in
    (alone j how n i.is_run other, yes, (i.inside, one_fault set rule g s j how n k p task i ∙ rw yes refl, i.legal))

-- the first tick of the run that does not fit
pub stops :
    (set : List Task) (rule : Rule) (g : List Row) (s : State) (j : JobId) (how : How) (n k : ℕ) (p : Pending) (task : Task) → IsTicking set rule g s j how n k p task →
    (fit : ℕ) → fit ≡ fitting rule s.high_mode (Some task) p.used how n → fit < n → StopsAt set rule (run.Ticks j how n) g (record { after = fit; why = WrongHow })
stops set rule g s j More n k p task i fit e h =
    let b = budget_is set rule g s j More n k p task i in
    record {
      inside = h;
      before = more_fit set rule g s j n k p task i fit (omega (arith, e));
      there = more_stops set rule j fit g (is_there set rule g s j More n k p task i) (is_first set rule g s j More n k p task i) (omega (arith, e, h, b.0, b.1, b.2));
    }
stops set rule g s j how n k p task i fit e h = one_stops set rule g s j how n k p task i fit e h

-- if all ticks of the run fit, the rows with them are legal
pub fits : (set : List Task) (rule : Rule) (g : List Row) (s : State) (j : JobId) (how : How) (n k : ℕ) (p : Pending) (task : Task) → IsTicking set rule g s j how n k p task →
    n ≤ fitting rule s.high_mode (Some task) p.used how n → Legal set rule (replicate n (Tick j how) ++ g)
fits set rule g s j More n k p task i h = more_fit set rule g s j n k p task i n (omega (arith, h))
fits set rule g s j how n k p task i h =
    let f = one_fits set rule g s j how n k p task i (λ e. cc) h in
    subst (λ (c : ℕ). Legal set rule (replicate c (Tick j how) ++ g)) (sym f.0) f.2

-- n ticks of the job of task t after each of which it goes on; or one tick, with which it overran or ended
abbrev pub Ticks : List Task → Rule → Option Task → JobId → Pending → How → ℕ → State → State → Type 0
Ticks set rule t j p More n old new = GoesOn n j old new
Ticks set rule t j p Over n old new = Overruns set rule j old new
Ticks set rule t j p how n old new = Ends t j p old new

-- if all ticks of the run fit, what is kept follows them
pub goes :
    (set : List Task) (rule : Rule) (g : List Row) (s s' : State) (j : JobId) (how : How) (n k : ℕ) (p : Pending) (task : Task) → IsTicking set rule g s j how n k p task →
    n ≤ fitting rule s.high_mode (Some task) p.used how n → Ticks set rule (Some task) j p how n s s' → Legal set rule (replicate n (Tick j how) ++ g) × Tracks set rule (replicate n (Tick j how) ++ g) s'
goes set rule g s s' j More n k p task i h m = (more_fit set rule g s j n k p task i n (omega (arith, h)), keeps_more set rule g s s' j n i.legal i.tracks (omega (arith, i.room)) m)
goes set rule g s s' j Over n k p task i h m =
    let f = one_fits set rule g s j Over n k p task i (λ e. cc) h in
    subst (λ (c : ℕ). Legal set rule (replicate c (Tick j Over) ++ g) × Tracks set rule (replicate c (Tick j Over) ++ g) s') (sym f.0)
    (f.2, keeps_over set rule g s s' j i.legal i.tracks (omega (arith, i.room, f.0)) (over_virtual rule s.high_mode (Some task) (p.used + 1) f.1) m)
goes set rule g s s' j how n k p task i h m =
    let f = one_fits set rule g s j how n k p task i (λ e. cc) h in
    subst (λ (c : ℕ). Legal set rule (replicate c (Tick j how) ++ g) × Tracks set rule (replicate c (Tick j how) ++ g) s') (sym f.0)
    (f.2, keeps_end set rule g s s' j how k p task i.legal i.tracks refl refl i.at i.least.0 m)
