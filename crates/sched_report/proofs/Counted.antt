-- What a row adds to the tally of a task. The newest row stands first.
use Rattle.std.proofs.Common.{◌≡◌, ℕ, zero, suc, ◌+◌, ◌-◌, Bool, true, false, not, ◌&&◌, ◌==◌, List, ◌∷◌, ◌++◌, replicate, Option, Some, None, cond, refl, sym, ap, ◌∙◌, arith, eqb-true}
use Rattle.mc_task.specs.declared.task.Rule.{Rule}
use Rattle.mc_task.specs.declared.task.Task.{Task}
use Rattle.mc_task.specs.declared.task.JobId.{JobId}
use Rattle.mc_task.specs.TaskSet.{task_at}
use Rattle.mc_model.specs.declared.row.How.{How}
use Rattle.mc_model.specs.declared.row.How.TheVariants.{More, Done, Stop, Over}
use Rattle.mc_model.specs.declared.row.Row.{Row}
use Rattle.mc_model.specs.declared.row.Row.TheVariants.{Release, Tick, Idle}
use Rattle.mc_task.specs.Kinds.{is_high}
use Rattle.mc_model.specs.TaskNumbers.{is_high_in}
use Rattle.mc_model.specs.Pending.{KeptRelease, released, is_end, is_still_pending}
use Rattle.mc_model.specs.Rows.{ticks}
use Rattle.mc_model.specs.Mode.{is_over}
use Rattle.mc_model.specs.Legal.{Legal, same_how}
use Rattle.sched_report.specs.ReportText.{how_many, is_of, is_drop_of, is_tick_of, is_how_of, is_discarded, greatest}
use Rattle.std.proofs.Math.Bool.{and-false}
use Rattle.mc_model.proofs.Booleans.{not_both}
use Rattle.mc_model.proofs.Lists.{Each-all}
use Rattle.sched_report.specs.declared.task_tally.TaskTally.{TaskTally}
use Rattle.sched_report.specs.TaskTally.{level_in, tally_of, with_release, with_tick, with_more, with_response, with_switch}
use Rattle.sched_report.proofs.HowMany.{one, how_many-cons, how_many_none, how_many-filter}
use Rattle.sched_report.proofs.Released.{release_of}
use Rattle.sched_report.proofs.AddUp.{discarded, discarded-release, discarded-idle, discarded-tick, live, ended-tick, one_of, none_of, counts_add_up}
use Rattle.sched_report.proofs.Responses.{responses-release, responses-tick, responses-other, responses-end}

-- tallies are equal if their parts are
tally_eq : (a b : TaskTally) → a.level ≡ b.level → a.released ≡ b.released → a.kept ≡ b.kept → a.dropped ≡ b.dropped → a.discarded ≡ b.discarded → a.done ≡ b.done → a.stopped ≡ b.stopped → a.ticks ≡ b.ticks → a.response ≡ b.response → a ≡ b
tally_eq a b level released kept dropped discarded done stopped ticks response = λ i. record {
  level = level i;
  released = released i;
  kept = kept i;
  dropped = dropped i;
  discarded = discarded i;
  done = done i;
  stopped = stopped i;
  ticks = ticks i;
  response = response i;
}

-- the kept jobs of a task after a release
kept-release : (j : JobId) (kept : Bool) (g : List Row) (k : ℕ) → how_many (is_of k) (released (Release j kept ∷ g)) ≡ one ((j.task.0 == k) && kept) + how_many (is_of k) (released g)
kept-release j false g k = omega (arith, none_of (j.task.0 == k))
kept-release j true g k = omega (arith, one_of (j.task.0 == k), how_many-cons (is_of k) (record { job = j; release = ticks g }) (released g))

-- what a release of the task adds to its tally
pub release-mine : (set : List Task) (rule : Rule) (j : JobId) (kept : Bool) (g : List Row) (k : ℕ) → Legal set rule (Release j kept ∷ g) → (j.task.0 == k) ≡ true
    → tally_of set (Release j kept ∷ g) k ≡ with_release kept (tally_of set g k)
release-mine set rule j kept g k l o =
    let kept_is : one ((j.task.0 == k) && kept) ≡ cond kept 1 0 = rw o refl in
    let dropped_is : one ((j.task.0 == k) && not kept) ≡ cond kept 0 1 = rw o (grind arith) in
    tally_eq (tally_of set (Release j kept ∷ g) k) (with_release kept (tally_of set g k)) refl
    (omega (arith, ap one o)) (omega (arith, kept-release j kept g k, kept_is)) (omega (arith, how_many-cons (is_drop_of k) (Release j kept) g, dropped_is))
    (discarded-release set rule j kept g k l) refl refl refl (ap greatest (responses-release set rule j kept g k l))

-- a release of another task adds nothing to the tally of a task
pub release-other : (set : List Task) (rule : Rule) (j : JobId) (kept : Bool) (g : List Row) (k : ℕ) → Legal set rule (Release j kept ∷ g) → (j.task.0 == k) ≡ false
    → tally_of set (Release j kept ∷ g) k ≡ tally_of set g k
release-other set rule j kept g k l o =
    let none : (b : Bool) → one ((j.task.0 == k) && b) ≡ 0 = λ b. rw o refl in
    tally_eq (tally_of set (Release j kept ∷ g) k) (tally_of set g k) refl
    (omega (arith, ap one o)) (omega (arith, kept-release j kept g k, none kept)) (omega (arith, how_many-cons (is_drop_of k) (Release j kept) g, none (not kept)))
    (discarded-release set rule j kept g k l) refl refl refl (ap greatest (responses-release set rule j kept g k l))

-- the ticks of a task after one more tick
ticks-tick : (j : JobId) (how : How) (g : List Row) (k : ℕ) → how_many (is_tick_of k) (Tick j how ∷ g) ≡ one (j.task.0 == k) + how_many (is_tick_of k) g
ticks-tick j how g k = how_many-cons (is_tick_of k) (Tick j how) g

ended-mine : (j : JobId) (how kind : How) (g : List Row) (k : ℕ) → (j.task.0 == k) ≡ true → how_many (is_how_of k kind) (Tick j how ∷ g) ≡ how_many (is_how_of k kind) g + cond (same_how how kind) 1 0
ended-mine j how kind g k o = let e = ended-tick j how kind g k in let f : one ((j.task.0 == k) && same_how how kind) ≡ cond (same_how how kind) 1 0 = rw o refl in omega (arith, e, f)

ended-other : (j : JobId) (how kind : How) (g : List Row) (k : ℕ) → (j.task.0 == k) ≡ false → how_many (is_how_of k kind) (Tick j how ∷ g) ≡ how_many (is_how_of k kind) g
ended-other j how kind g k o = let e = ended-tick j how kind g k in let f : one ((j.task.0 == k) && same_how how kind) ≡ 0 = rw o refl in omega (arith, e, f)

-- what a tick of the task adds to its tally if the job has more to do
pub more-mine : (set : List Task) (j : JobId) (g : List Row) (k : ℕ) → (j.task.0 == k) ≡ true → tally_of set (Tick j More ∷ g) k ≡ with_tick More (tally_of set g k)
more-mine set j g k o =
    tally_eq (tally_of set (Tick j More ∷ g) k) (with_tick More (tally_of set g k)) refl refl refl refl (discarded-tick set j More g k refl)
    (ended-mine j More Done g k o) (ended-mine j More Stop g k o) (omega (arith, ticks-tick j More g k, ap one o)) (ap greatest (responses-tick j More g k refl))

-- what a job's last tick adds to the tally of its task
pub end-mine : (set : List Task) (rule : Rule) (j : JobId) (how : How) (g : List Row) (k : ℕ) → is_end how ≡ true → is_over how ≡ false → Legal set rule (Tick j how ∷ g) → (j.task.0 == k) ≡ true
    → tally_of set (Tick j how ∷ g) k ≡ with_response (ticks g + 1 - release_of g j) (with_tick how (tally_of set g k))
end-mine set rule j how g k e v l o =
    tally_eq (tally_of set (Tick j how ∷ g) k) (with_response (ticks g + 1 - release_of g j) (with_tick how (tally_of set g k))) refl refl refl refl (discarded-tick set j how g k v)
    (ended-mine j how Done g k o) (ended-mine j how Stop g k o) (omega (arith, ticks-tick j how g k, ap one o)) (responses-end set rule j how g k e o l)

-- a tick of another task that is not an overrun adds nothing to the tally of a task
pub tick-other : (set : List Task) (j : JobId) (how : How) (g : List Row) (k : ℕ) → is_over how ≡ false → (j.task.0 == k) ≡ false → tally_of set (Tick j how ∷ g) k ≡ tally_of set g k
tick-other set j how g k v o =
    tally_eq (tally_of set (Tick j how ∷ g) k) (tally_of set g k) refl refl refl refl (discarded-tick set j how g k v)
    (ended-other j how Done g k o) (ended-other j how Stop g k o) (omega (arith, ticks-tick j how g k, ap one o)) (ap greatest (responses-other j how g k o))

pub level-high : (t : Option Task) → is_high (level_in t) ≡ is_high_in t
level-high None = refl
level-high (Some t) = refl

-- no job of a high task is discarded
discarded-high : (set : List Task) (h : List Row) (k : ℕ) → is_high_in (task_at set k) ≡ true → discarded set h k ≡ 0
discarded-high set h k high = how_many_none (λ i. is_of k i && is_discarded set h i) (released h) (Each-all each (released h))
  where
    each : (x : KeptRelease) → (is_of k x && is_discarded set h x) ≡ false
    each x = not_both (is_of k x) (is_discarded set h x) (λ m n.
        let so : is_high_in (task_at set x.job.task.0) ≡ true = rw (eqb-true x.job.task.0 k m) high in
        cc (rw so at n))

-- after an overrun no job of a low task is pending
live-low : (set : List Task) (j : JobId) (g : List Row) (k : ℕ) → is_high_in (task_at set k) ≡ false → live set (Tick j Over ∷ g) k ≡ 0
live-low set j g k low = how_many-filter (is_of k) (is_still_pending set (Tick j Over ∷ g)) (released g) ∙ how_many_none (λ x. is_still_pending set (Tick j Over ∷ g) x && is_of k x) (released g) (Each-all each (released g))
  where
    each : (x : KeptRelease) → (is_still_pending set (Tick j Over ∷ g) x && is_of k x) ≡ false
    each x = not_both (is_still_pending set (Tick j Over ∷ g) x) (is_of k x) (λ n m.
        let so : is_high_in (task_at set x.job.task.0) ≡ false = rw (eqb-true x.job.task.0 k m) low in
        cc (rw (so, and-false) at n))

-- how many jobs are discarded after an overrun
discarded-so : (set : List Task) (rule : Rule) (j : JobId) (g : List Row) (k : ℕ) → Legal set rule (Tick j Over ∷ g)
    → discarded set (Tick j Over ∷ g) k ≡ cond (is_high (level_in (task_at set k))) (discarded set g k) (how_many (is_of k) (released g) - how_many (is_how_of k Done) g - how_many (is_how_of k Stop) g)
discarded-so set rule j g k l = go (is_high_in (task_at set k)) refl
  where
    go : (b : Bool) → is_high_in (task_at set k) ≡ b
        → discarded set (Tick j Over ∷ g) k ≡ cond (is_high (level_in (task_at set k))) (discarded set g k) (how_many (is_of k) (released g) - how_many (is_how_of k Done) g - how_many (is_how_of k Stop) g)
    go true m = rw (level-high (task_at set k), m) (discarded-high set (Tick j Over ∷ g) k m ∙ sym (discarded-high set g k m))
    go false m =
        let all = counts_add_up set rule (Tick j Over ∷ g) k l in
        rw (level-high (task_at set k), m)
        (omega (arith, all, live-low set j g k m, ended-tick j Over Done g k, ended-tick j Over Stop g k, none_of (j.task.0 == k)))

-- the tallies with the tick of an overrun counted for task number k, before it discards jobs
abbrev pub with_over : (ℕ → TaskTally) → ℕ → ℕ → TaskTally
with_over f k m = cond (k == m) (with_tick Over (f m)) (f m)

-- what an overrun adds to the tally of each task
pub over-same : (set : List Task) (rule : Rule) (j : JobId) (g : List Row) (k : ℕ) → Legal set rule (Tick j Over ∷ g)
    → tally_of set (Tick j Over ∷ g) k ≡ with_switch (with_over (tally_of set g) j.task.0 k)
over-same set rule j g k l = go (j.task.0 == k) refl
  where
    go : (b : Bool) → (j.task.0 == k) ≡ b → tally_of set (Tick j Over ∷ g) k ≡ with_switch (cond b (with_tick Over (tally_of set g k)) (tally_of set g k))
    go true o =
        tally_eq (tally_of set (Tick j Over ∷ g) k) (with_switch (with_tick Over (tally_of set g k))) refl refl refl refl
        (discarded-so set rule j g k l ∙ ap (λ n. cond (is_high (level_in (task_at set k))) (discarded set g k) n) (omega arith))
        (ended-mine j Over Done g k o) (ended-mine j Over Stop g k o) (omega (arith, ticks-tick j Over g k, ap one o)) (ap greatest (responses-tick j Over g k refl))
    go false o =
        tally_eq (tally_of set (Tick j Over ∷ g) k) (with_switch (tally_of set g k)) refl refl refl refl (discarded-so set rule j g k l)
        (ended-other j Over Done g k o) (ended-other j Over Stop g k o) (omega (arith, ticks-tick j Over g k, ap one o)) (ap greatest (responses-tick j Over g k refl))

-- an idle tick adds nothing to the tally of a task
pub idle-same : (set : List Task) (g : List Row) (k : ℕ) → tally_of set (Idle ∷ g) k ≡ tally_of set g k
idle-same set g k = tally_eq (tally_of set (Idle ∷ g) k) (tally_of set g k) refl refl refl refl (discarded-idle set g k) refl refl refl refl

-- n ticks of the task after which its job has more to do add n ticks
more_next : (n : ℕ) (t : TaskTally) → with_tick More (with_more n t) ≡ with_more (suc n) t
more_next n t = tally_eq (with_tick More (with_more n t)) (with_more (suc n) t) refl refl refl refl refl (omega arith) (omega arith) (omega arith) refl

pub more_run-mine : (set : List Task) (j : JobId) (n : ℕ) (g : List Row) (k : ℕ) → (j.task.0 == k) ≡ true → tally_of set (replicate n (Tick j More) ++ g) k ≡ with_more n (tally_of set g k)
more_run-mine set j zero g k o = tally_eq (tally_of set g k) (with_more 0 (tally_of set g k)) refl refl refl refl refl refl refl (omega arith) refl
more_run-mine set j (suc n) g k o = more-mine set j (replicate n (Tick j More) ++ g) k o ∙ (ap (with_tick More) (more_run-mine set j n g k o) ∙ more_next n (tally_of set g k))

-- n ticks of another task after which its job has more to do add nothing to the tally of a task
pub more_run-other : (set : List Task) (j : JobId) (n : ℕ) (g : List Row) (k : ℕ) → (j.task.0 == k) ≡ false → tally_of set (replicate n (Tick j More) ++ g) k ≡ tally_of set g k
more_run-other set j zero g k o = refl
more_run-other set j (suc n) g k o = tick-other set j More (replicate n (Tick j More) ++ g) k refl o ∙ more_run-other set j n g k o

-- n idle ticks add nothing to the tally of a task
pub idle_run-same : (set : List Task) (n : ℕ) (g : List Row) (k : ℕ) → tally_of set (replicate n Idle ++ g) k ≡ tally_of set g k
idle_run-same set zero g k = refl
idle_run-same set (suc n) g k = idle-same set (replicate n Idle ++ g) k ∙ idle_run-same set n g k
