-- The tally after one more row of a legal trace counts that row too. The newest row stands first.
use Rattle.std.proofs.Common.{◌≡◌, ℕ, zero, suc, ◌+◌, ◌-◌, ◌≤◌, Bool, true, false, not, ◌&&◌, ◌==◌, List, ◌∷◌, ◌++◌, Some, replicate, map, set, slice_get, refl, sym, ap, subst, ◌∙◌, arith}
use Rattle.std.proofs.lemmas.Bool.Decides.{nat_tests}
use Rattle.mc_task.specs.declared.task.Rule.{Rule}
use Rattle.mc_task.specs.declared.task.Task.{Task}
use Rattle.mc_task.specs.declared.task.JobId.{JobId}
use Rattle.mc_task.specs.declared.task.Level.{Level}
use Rattle.mc_task.specs.declared.task.Level.TheVariants.{Low, High}
use Rattle.mc_task.specs.TaskSet.{task_at, IsIn}
use Rattle.mc_model.specs.declared.row.How.{How}
use Rattle.mc_model.specs.declared.row.How.TheVariants.{More, Over}
use Rattle.mc_model.specs.declared.row.Row.{Row}
use Rattle.mc_model.specs.declared.row.Row.TheVariants.{Release, Tick, Idle}
use Rattle.mc_task.specs.Kinds.{is_high}
use Rattle.mc_model.specs.TaskNumbers.{is_high_in}
use Rattle.mc_model.specs.Pending.{KeptRelease, released, pending, is_end, is_still_pending}
use Rattle.mc_model.specs.Rows.{same_job}
use Rattle.mc_model.specs.Mode.{is_over}
use Rattle.mc_model.specs.Legal.{Legal, IsOfSet}
use Rattle.mc_model.proofs.Repeats.{ticks_more, pending_more, ticks_idle, pending_idle}
use Rattle.mc_model.proofs.Fold.{stays}
use Rattle.std.proofs.lemmas.Bool.{and_parts, not-true}
use Rattle.mc_model.proofs.Booleans.{eqb-refl}
use Rattle.mc_model.proofs.Lists.{Each, Each-map, Each-both, Each-filter, Each-filter_if}
use Rattle.sched_report.specs.declared.task_tally.TaskTally.{TaskTally}
use Rattle.sched_report.specs.declared.tally.Tally.{Tally}
use Rattle.sched_report.specs.declared.pending_releases.PendingReleases.{PendingReleases}
use Rattle.sched_report.specs.TaskTally.{level_in, tally_of, with_tick, with_response, with_switch}
use Rattle.sched_report.specs.PendingReleases.{release_in, ChangesOnly}
use Rattle.sched_report.specs.Tally.{numbered, Tallies, Stays, Releases, GoesOn, Ends, Overruns, Idles}
use Rattle.sched_report.specs.ReportText.{is_idle, is_switch}
use Rattle.sched_report.proofs.HowMany.{how_many-replicate}
use Rattle.sched_report.proofs.Numbered.{get-numbered, set-numbered, map-numbered, numbered_same}
use Rattle.sched_report.proofs.Released.{none_of_next, release_of, release_is, pending-release, ticks_pending, at_pending}
use Rattle.sched_report.proofs.Counted.{release-mine, release-other, more_run-mine, more_run-other, end-mine, tick-other, with_over, over-same, idle_run-same, level-high}
use Rattle.mc_model.proofs.Bridge.{pending-tick}

-- the tally of one task is the one at its index
pub found : (tasks : List Task) (g : List Row) (k : ℕ) (old : List TaskTally) → IsIn tasks k → old ≡ numbered (tally_of tasks g) 1 tasks → slice_get old (k - 1) ≡ Some (tally_of tasks g k)
found tasks g k old inside is =
    ap (λ l. slice_get l (k - 1)) is ∙ get-numbered (tally_of tasks g) 1 (k - 1) k tasks (omega (arith, inside.0, inside.1)) (omega (arith, inside.0))

-- the tallies with that of one task changed are those after the row
changed : (f g : ℕ → TaskTally) (tasks : List Task) (k : ℕ) (x : TaskTally) (old : List TaskTally) → IsIn tasks k → old ≡ numbered f 1 tasks → g k ≡ x → ((m : ℕ) → (k == m) ≡ false → g m ≡ f m) → set old (k - 1) x ≡ numbered g 1 tasks
changed f g tasks k x old inside is here others =
    ap (λ l. set l (k - 1) x) is
    ∙ set-numbered f g 1 (k - 1) k x tasks (omega (arith, inside.0, inside.1)) (omega (arith, inside.0)) here (λ m a. others m (grind (arith, nat_tests, a)))

-- the release time of each of these jobs is stored
abbrev pub Held : List Task → PendingReleases → List KeptRelease → Type 0
Held tasks w now = Each (λ i. release_in w (level_in (task_at tasks i.job.task.0)) i.job ≡ Some i.release) now

held-stays : (tasks : List Task) (old new : PendingReleases) (now : List KeptRelease) → Stays old new → Held tasks old now → Held tasks new now
held-stays tasks old new now same h = Each-map {P = λ i. release_in old (level_in (task_at tasks i.job.task.0)) i.job ≡ Some i.release} (λ x p. same _ x.job ∙ p) now h

-- the release time that is stored for the job of a tick
pub held_at : (tasks : List Task) (rule : Rule) (j : JobId) (how : How) (g : List Row) (w : PendingReleases) → Legal tasks rule (Tick j how ∷ g) → Held tasks w (pending tasks g)
    → release_in w (level_in (task_at tasks j.task.0)) j ≡ Some (release_of g j)
held_at tasks rule j how g w l h =
    at_pending (λ i r. release_in w (level_in (task_at tasks i.task.0)) i ≡ Some r) j (release_of g j) (pending tasks g) (ticks_pending tasks rule j how g l)
    (Each-filter (λ x. same_job j x.job ≡ true → x.release ≡ release_of g j) (is_still_pending tasks g) (released g) (release_is tasks rule g j l.2)) h

-- the tally after a release
pub release_step : (tasks : List Task) (rule : Rule) (j : JobId) (kept : Bool) (g : List Row) (old new : Tally) → Legal tasks rule (Release j kept ∷ g) → Tallies tasks g old
    → Releases j kept (tally_of tasks g j.task.0) old new → Tallies tasks (Release j kept ∷ g) new
release_step tasks rule j kept g old new l t s = record {
  tasks = s.tasks ∙ changed (tally_of tasks g) (tally_of tasks (Release j kept ∷ g)) tasks j.task.0 _ old.tasks.items l.0 t.tasks (release-mine tasks rule j kept g j.task.0 l (eqb-refl j.task.0)) (λ m o. release-other tasks rule j kept g m l o);
  tick = s.tick ∙ t.tick;
  idle = s.idle ∙ t.idle;
  switches = s.switches ∙ t.switches;
  waiting = waits kept l s;
}
  where
    waits : (kept : Bool) → Legal tasks rule (Release j kept ∷ g) → Releases j kept (tally_of tasks g j.task.0) old new → Held tasks new.waiting (pending tasks (Release j kept ∷ g))
    waits false l s = subst (Held tasks new.waiting) (sym (pending-release tasks rule j false g l)) (held-stays tasks old.waiting new.waiting (pending tasks g) s.waiting t.waiting)
    waits true l s =
        let w : ChangesOnly old.waiting new.waiting (level_in (task_at tasks j.task.0)) j (Some old.tick) = s.waiting in
        let apart : Each (λ x. same_job j x.job ≡ false) (pending tasks g) = Each-filter (λ x. same_job j x.job ≡ false) (is_still_pending tasks g) (released g) (none_of_next tasks rule j true g l) in
        subst (Held tasks new.waiting) (sym (pending-release tasks rule j true g l))
        (w.here ∙ ap Some t.tick, Each-both (λ x a p. w.others _ x.job a ∙ p) (pending tasks g) apart t.waiting)

-- a run that is legal after these rows is of a task of the set
pub inside : (tasks : List Task) (rule : Rule) (row : Row) (n : ℕ) (g : List Row) → 1 ≤ n → Legal tasks rule (replicate n row ++ g) → IsOfSet tasks row
inside tasks rule row zero g h l = absurd (omega (arith, h))
inside tasks rule row (suc n) g h l = l.0

-- the tally after n ticks that leave their job more to do
pub more_run : (tasks : List Task) (j : JobId) (n : ℕ) (g : List Row) (old new : Tally) → IsIn tasks j.task.0 → Tallies tasks g old → GoesOn n j (tally_of tasks g j.task.0) old new → Tallies tasks (replicate n (Tick j More) ++ g) new
more_run tasks j n g old new i t s = record {
  tasks = s.tasks ∙ changed (tally_of tasks g) (tally_of tasks (replicate n (Tick j More) ++ g)) tasks j.task.0 _ old.tasks.items i t.tasks (more_run-mine tasks j n g j.task.0 (eqb-refl j.task.0)) (λ m o. more_run-other tasks j n g m o);
  tick = let a = s.tick in let b = t.tick in omega (arith, a, b, ticks_more j n g);
  idle = let a = s.idle in let b = t.idle in omega (arith, a, b, how_many-replicate is_idle (Tick j More) n g);
  switches = let a = s.switches in let b = t.switches in omega (arith, a, b, how_many-replicate is_switch (Tick j More) n g);
  waiting = subst (Held tasks new.waiting) (sym (pending_more tasks j n g)) (held-stays tasks old.waiting new.waiting (pending tasks g) s.waiting t.waiting);
}

-- the tally after a job's last tick
pub end_step : (tasks : List Task) (rule : Rule) (j : JobId) (how : How) (g : List Row) (old new : Tally) → is_end how ≡ true → is_over how ≡ false → Legal tasks rule (Tick j how ∷ g) → Tallies tasks g old
    → Ends j how (tally_of tasks g j.task.0) (release_of g j) old new → Tallies tasks (Tick j how ∷ g) new
end_step tasks rule j how g old new e v l t s = record {
  tasks = s.tasks ∙ changed (tally_of tasks g) (tally_of tasks (Tick j how ∷ g)) tasks j.task.0 _ old.tasks.items l.0 t.tasks mine (λ m o. tick-other tasks j how g m v o);
  tick = s.tick ∙ ap (λ n. n + 1) t.tick;
  idle = s.idle ∙ t.idle;
  switches = rw v (s.switches ∙ t.switches);
  waiting = subst (Held tasks new.waiting) (sym (pending-tick tasks rule j how g l)) (Each-filter_if (λ i. release_in new.waiting (level_in (task_at tasks i.job.task.0)) i.job ≡ Some i.release) (stays tasks j how) (pending tasks g) kept);
}
  where
    mine : tally_of tasks (Tick j how ∷ g) j.task.0 ≡ with_response (old.tick + 1 - release_of g j) (with_tick how (tally_of tasks g j.task.0))
    mine = end-mine tasks rule j how g j.task.0 e v l (eqb-refl j.task.0) ∙ ap (λ n. with_response (n + 1 - release_of g j) (with_tick how (tally_of tasks g j.task.0))) (sym t.tick)

    kept : Each (λ i. stays tasks j how i ≡ true → release_in new.waiting (level_in (task_at tasks i.job.task.0)) i.job ≡ Some i.release) (pending tasks g)
    kept =
        Each-map {P = λ i. release_in old.waiting (level_in (task_at tasks i.job.task.0)) i.job ≡ Some i.release}
        (λ x p st. s.waiting.others _ x.job (not-true (same_job j x.job) (and_parts _ _ (rw e at st)).0) ∙ p) (pending tasks g) t.waiting

-- the tally after an overrun
pub over_step : (tasks : List Task) (rule : Rule) (j : JobId) (g : List Row) (old new : Tally) → Legal tasks rule (Tick j Over ∷ g) → Tallies tasks g old
    → Overruns j (tally_of tasks g j.task.0) old new → Tallies tasks (Tick j Over ∷ g) new
over_step tasks rule j g old new l t s = record {
  tasks =
      let f : ℕ → TaskTally = tally_of tasks g in
      let here : with_over f j.task.0 j.task.0 ≡ with_tick Over (f j.task.0) = rw (eqb-refl j.task.0) refl in
      let ticked = changed f (with_over f j.task.0) tasks j.task.0 (with_tick Over (f j.task.0)) old.tasks.items l.0 t.tasks here (λ m o. rw o refl) in
      s.tasks ∙ ap (map with_switch) ticked ∙ map-numbered (with_over f j.task.0) with_switch 1 tasks
      ∙ numbered_same (λ m. with_switch (with_over f j.task.0 m)) (tally_of tasks (Tick j Over ∷ g)) 1 tasks (λ m a. sym (over-same tasks rule j g m l));
  tick = s.tick ∙ ap (λ n. n + 1) t.tick;
  idle = s.idle ∙ t.idle;
  switches = omega (arith, s.switches, t.switches);
  waiting = subst (Held tasks new.waiting) (sym (pending-tick tasks rule j Over g l)) (Each-filter_if (λ i. release_in new.waiting (level_in (task_at tasks i.job.task.0)) i.job ≡ Some i.release) (stays tasks j Over) (pending tasks g) kept);
}
  where
    at_high : (level : Level) → is_high level ≡ true → level ≡ High
    at_high High h = refl
    at_high Low h = cc

    kept : Each (λ i. stays tasks j Over i ≡ true → release_in new.waiting (level_in (task_at tasks i.job.task.0)) i.job ≡ Some i.release) (pending tasks g)
    kept =
        Each-map {P = λ i. release_in old.waiting (level_in (task_at tasks i.job.task.0)) i.job ≡ Some i.release}
        (λ x p st.
        let left : is_high_in (task_at tasks x.job.task.0) ≡ true = (and_parts (not (false && same_job j x.job)) (is_high_in (task_at tasks x.job.task.0)) st).1 in
        let high : level_in (task_at tasks x.job.task.0) ≡ High = at_high _ (level-high (task_at tasks x.job.task.0) ∙ left) in
        rw high (s.waiting x.job ∙ (rw high at p))) (pending tasks g) t.waiting

-- the tally after n idle ticks
pub idle_run : (tasks : List Task) (n : ℕ) (g : List Row) (old new : Tally) → Tallies tasks g old → Idles n old new → Tallies tasks (replicate n Idle ++ g) new
idle_run tasks n g old new t s = record {
  tasks = s.tasks ∙ (t.tasks ∙ numbered_same (tally_of tasks g) (tally_of tasks (replicate n Idle ++ g)) 1 tasks (λ m a. sym (idle_run-same tasks n g m)));
  tick = let a = s.tick in let b = t.tick in omega (arith, a, b, ticks_idle n g);
  idle = let a = s.idle in let b = t.idle in omega (arith, a, b, how_many-replicate is_idle Idle n g);
  switches = let a = s.switches in let b = t.switches in omega (arith, a, b, how_many-replicate is_switch Idle n g);
  waiting = subst (Held tasks new.waiting) (sym (pending_idle tasks n g)) (held-stays tasks old.waiting new.waiting (pending tasks g) s.waiting t.waiting);
}
