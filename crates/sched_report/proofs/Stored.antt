-- The release times that are stored after a change of a task's slot or of the map.
use Rattle.std.proofs.Common.{◌≡◌, ℕ, zero, suc, Bool, true, false, ◌==◌, cond, List, Option, Some, None, replicate, set, slice_get, refl, sym, ap, subst, ◌∙◌, arith, eqb-true}
use Rattle.std.proofs.lemmas.Bool.Decides.{nat_tests}
use Rattle.std.proofs.lemmas.Option.{slice_get_within}
use Rattle.std.specs.BTreeMap.{get, is_at}
use Rattle.std.proofs.lemmas.Bool.{eqb-false}
use Rattle.mc_task.specs.declared.task.JobId.{JobId}
use Rattle.mc_task.specs.declared.task.Level.{Level}
use Rattle.mc_task.specs.declared.task.Level.TheVariants.{Low, High}
use Rattle.mc_model.specs.Rows.{same_job}
use Rattle.mc_model.proofs.Booleans.{eqb-refl}
use Rattle.mc_model.proofs.Lists.{set_here, set_other}
use Rattle.sched_report.specs.declared.release_times.Recent.{Recent}
use Rattle.sched_report.specs.declared.release_times.ReleaseTimes.{ReleaseTimes}
use Rattle.sched_report.specs.declared.pending_releases.PendingReleases.{PendingReleases}
use Rattle.sched_report.specs.ReleaseTimes.{key_cmp, older, recent_or, SetsAside, StoresOnly}
use Rattle.sched_report.specs.PendingReleases.{ChangesOnly, release_in}
use Rattle.sched_report.proofs.Keys.{key-same}

-- empty slots hold no release time
pub none_recent : (n k count : ℕ) → recent_or (slice_get (replicate n None) k) count None ≡ None
none_recent zero k count = refl
none_recent (suc n) zero count = refl
none_recent (suc n) (suc k) count = none_recent n k count

-- the job in the task's slot is another one, and is stored in the map now
pub moved : (job : JobId) (recent : Recent) (old new : ℕ × ℕ → Option ℕ) → new (job.task.0, recent.count) ≡ Some recent.release
    → ((q : ℕ × ℕ) → is_at (key_cmp (job.task.0, recent.count)) q ≡ false → new q ≡ old q)
    → SetsAside job (Some recent) (λ j. old (j.task.0, j.count)) (λ j. new (j.task.0, j.count))
moved job recent old new here kept = record {
  same_task = λ j apart t. by j t (recent.count == j.count) refl;
  other_tasks = λ j t. kept (j.task.0, j.count) (key-same at j ∙ rw t refl);
}
  where
    at : JobId
    at = record { task = job.task; count = recent.count }

    by : (j : JobId) → (job.task.0 == j.task.0) ≡ true → (count : Bool) → (recent.count == j.count) ≡ count
        → new (j.task.0, j.count) ≡ cond count (Some recent.release) (old (j.task.0, j.count))
    by j t true c = rw (sym (eqb-true job.task.0 j.task.0 t), sym (eqb-true recent.count j.count c)) here
    by j t false c = kept (j.task.0, j.count) (key-same at j ∙ rw (t, c) refl)

-- a job that is put into its task's slot is stored
pub placed_here : (slots : List (Option Recent)) (job : JobId) (was : Option Recent) (release : ℕ) (older : Option ℕ) → slice_get slots job.task.0 ≡ Some was
    → recent_or (slice_get (set slots job.task.0 (Some (record { count = job.count; release = release }))) job.task.0) job.count older ≡ Some release
placed_here slots job was release older there =
    rw (set_here slots job.task.0 (Some (record { count = job.count; release = release })) (slice_get_within slots job.task.0 was there), eqb-refl job.count) refl

-- after a job is put into its task's slot, the same is stored for each other job as before
pub placed_others : (slots : List (Option Recent)) (job : JobId) (was : Option Recent) (release : ℕ) (old new : JobId → Option ℕ) → slice_get slots job.task.0 ≡ Some was → SetsAside job was old new
    → (j : JobId) → same_job job j ≡ false
    → recent_or (slice_get (set slots job.task.0 (Some (record { count = job.count; release = release }))) j.task.0) j.count (new j) ≡ recent_or (slice_get slots j.task.0) j.count (old j)
placed_others slots job was release old new there aside j apart = by (job.task.0 == j.task.0) refl
  where
    now : Option Recent
    now = Some (record { count = job.count; release = release })

    by : (task : Bool) → (job.task.0 == j.task.0) ≡ task → recent_or (slice_get (set slots job.task.0 now) j.task.0) j.count (new j) ≡ recent_or (slice_get slots j.task.0) j.count (old j)
    by true t =
        let other : (job.count == j.count) ≡ false = rw t at apart in
        let new_is : new j ≡ recent_or (Some was) j.count (old j) = aside.same_task j apart t in
        let here : slice_get (set slots job.task.0 now) j.task.0 ≡ Some now = subst (λ (k : ℕ). slice_get (set slots job.task.0 now) k ≡ Some now) (eqb-true job.task.0 j.task.0 t) (set_here slots job.task.0 now (slice_get_within slots job.task.0 was there)) in
        let before : slice_get slots j.task.0 ≡ Some was = subst (λ (k : ℕ). slice_get slots k ≡ Some was) (eqb-true job.task.0 j.task.0 t) there in
        rw (here, before, other) new_is
    by false t = rw (set_other slots job.task.0 j.task.0 now (λ e. eqb-false job.task.0 j.task.0 t (sym e))) (ap (recent_or (slice_get slots j.task.0) j.count) (aside.other_tasks j t))

-- where the task's slot gives a release time, the job stands in the slot
pub in_slot : (slot : Option (Option Recent)) (count release : ℕ) → recent_or slot count None ≡ Some release → (recent : Recent) × (slot ≡ Some (Some recent)) × ((recent.count == count) ≡ true) × (recent.release ≡ release)
in_slot None count release is = cc
in_slot (Some None) count release is = cc
in_slot (Some (Some recent)) count release is = go (recent.count == count) refl is
  where
    go : (b : Bool) → (recent.count == count) ≡ b → cond b (Some recent.release) None ≡ Some release → (r : Recent) × (Some (Some recent) ≡ Some (Some r)) × ((r.count == count) ≡ true) × (r.release ≡ release)
    go true e h = (recent, refl, e, cc)
    go false e h = cc

-- for a job that does not stand in its task's slot, the map's release time is stored
pub not_in_slot : (slot : Option (Option Recent)) (count : ℕ) (older : Option ℕ) → recent_or slot count None ≡ None → recent_or slot count older ≡ older
not_in_slot None count older is = refl
not_in_slot (Some None) count older is = refl
not_in_slot (Some (Some recent)) count older is = go (recent.count == count) is
  where
    go : (b : Bool) → cond b (Some recent.release) None ≡ None → cond b (Some recent.release) older ≡ older
    go true h = cc
    go false h = refl

-- after a job's own slot is emptied, the same is stored for each other job as before
pub emptied_others : (slots : List (Option Recent)) (job : JobId) (release : ℕ) (older : JobId → Option ℕ) → recent_or (slice_get slots job.task.0) job.count None ≡ Some release
    → (j : JobId) → same_job job j ≡ false
    → recent_or (slice_get (set slots job.task.0 None) j.task.0) j.count (older j) ≡ recent_or (slice_get slots j.task.0) j.count (older j)
emptied_others slots job release older is j apart = by (job.task.0 == j.task.0) refl (in_slot (slice_get slots job.task.0) job.count release is)
  where
    by : (task : Bool) → (job.task.0 == j.task.0) ≡ task → (recent : Recent) × (slice_get slots job.task.0 ≡ Some (Some recent)) × ((recent.count == job.count) ≡ true) × (recent.release ≡ release)
        → recent_or (slice_get (set slots job.task.0 None) j.task.0) j.count (older j) ≡ recent_or (slice_get slots j.task.0) j.count (older j)
    by true t there =
        let k : job.task.0 ≡ j.task.0 = eqb-true job.task.0 j.task.0 t in
        let other : (job.count == j.count) ≡ false = rw t at apart in
        let away : (there.0.count == j.count) ≡ false = grind (arith, nat_tests, other, there.2) in
        let here : slice_get (set slots job.task.0 None) j.task.0 ≡ Some None = subst (λ (m : ℕ). slice_get (set slots job.task.0 None) m ≡ Some None) k (set_here slots job.task.0 None (slice_get_within slots job.task.0 (Some there.0) there.1)) in
        let before : slice_get slots j.task.0 ≡ Some (Some there.0) = subst (λ (m : ℕ). slice_get slots m ≡ Some (Some there.0)) k there.1 in
        rw (here, before, away) refl
    by false t there = rw (set_other slots job.task.0 j.task.0 None (λ e. eqb-false job.task.0 j.task.0 t (sym e))) refl

-- a change among the jobs of low tasks
pub low_changed : (old new : PendingReleases) (job : JobId) (r : Option ℕ) → StoresOnly old.low new.low job r → ((j : JobId) → release_in new High j ≡ release_in old High j) → ChangesOnly old new Low job r
low_changed old new job r stores same = record { here = stores.here; others = others }
  where
    others : (l : Level) (j : JobId) → same_job job j ≡ false → release_in new l j ≡ release_in old l j
    others Low j apart = stores.others j apart
    others High j apart = same j

-- a change among the jobs of high tasks
pub high_changed : (old new : PendingReleases) (job : JobId) (r : Option ℕ) → StoresOnly old.high new.high job r → ((j : JobId) → release_in new Low j ≡ release_in old Low j) → ChangesOnly old new High job r
high_changed old new job r stores same = record { here = stores.here; others = others }
  where
    others : (l : Level) (j : JobId) → same_job job j ≡ false → release_in new l j ≡ release_in old l j
    others High j apart = stores.others j apart
    others Low j apart = same j

-- what is stored after a job is put into its task's slot, once the job that stood there is in the map
pub stored_put : (old mid new : ReleaseTimes) (job : JobId) (was : Option Recent) (release : ℕ) → slice_get old.recent.items job.task.0 ≡ Some was → mid.recent.items ≡ old.recent.items → SetsAside job was (older old) (older mid)
    → new.recent.items ≡ set mid.recent.items job.task.0 (Some (record { count = job.count; release = release })) → ((j : JobId) → older new j ≡ older mid j) → StoresOnly old new job (Some release)
stored_put old mid new job was release there array aside items same = record {
  here = ap (λ (xs : List (Option Recent)). recent_or (slice_get xs job.task.0) job.count (older new job)) is ∙ placed_here old.recent.items job was release (older new job) there;
  others = λ j apart.
      ap (λ (xs : List (Option Recent)). recent_or (slice_get xs j.task.0) j.count (older new j)) is
      ∙ (ap (recent_or (slice_get (set old.recent.items job.task.0 now) j.task.0) j.count) (same j)
      ∙ placed_others old.recent.items job was release (older old) (older mid) there aside j apart);
}
  where
    now : Option Recent
    now = Some (record { count = job.count; release = release })

    is : new.recent.items ≡ set old.recent.items job.task.0 now
    is = items ∙ ap (λ (xs : List (Option Recent)). set xs job.task.0 now) array

-- what is stored after a job is put into the map, if its task has no slot
pub stored_in_map : (old new : ReleaseTimes) (job : JobId) (release : ℕ) → slice_get old.recent.items job.task.0 ≡ None → new.recent.items ≡ old.recent.items → older new job ≡ Some release
    → ((q : ℕ × ℕ) → is_at (key_cmp (job.task.0, job.count)) q ≡ false → get key_cmp new.older q ≡ get key_cmp old.older q) → StoresOnly old new job (Some release)
stored_in_map old new job release none array here kept = record {
  here = ap (λ (xs : List (Option Recent)). recent_or (slice_get xs job.task.0) job.count (older new job)) array ∙ rw none here;
  others = λ j apart.
      ap (λ (xs : List (Option Recent)). recent_or (slice_get xs j.task.0) j.count (older new j)) array
      ∙ ap (recent_or (slice_get old.recent.items j.task.0) j.count) (kept (j.task.0, j.count) (key-same job j ∙ apart));
}

-- what is stored after a job is taken out of its task's slot and out of the map
pub stored_without : (old new : ReleaseTimes) (job : JobId) (release : ℕ) → recent_or (slice_get old.recent.items job.task.0) job.count None ≡ Some release → new.recent.items ≡ set old.recent.items job.task.0 None → older new job ≡ None
    → ((q : ℕ × ℕ) → is_at (key_cmp (job.task.0, job.count)) q ≡ false → get key_cmp new.older q ≡ get key_cmp old.older q) → StoresOnly old new job None
stored_without old new job release there items gone kept = record {
  here =
      let slot = in_slot (slice_get old.recent.items job.task.0) job.count release there in
      let emptied : slice_get (set old.recent.items job.task.0 None) job.task.0 ≡ Some None = set_here old.recent.items job.task.0 None (slice_get_within old.recent.items job.task.0 (Some slot.0) slot.1) in
      ap (λ (xs : List (Option Recent)). recent_or (slice_get xs job.task.0) job.count (older new job)) items ∙ rw emptied gone;
  others = λ j apart.
      ap (λ (xs : List (Option Recent)). recent_or (slice_get xs j.task.0) j.count (older new j)) items
      ∙ (ap (recent_or (slice_get (set old.recent.items job.task.0 None) j.task.0) j.count) (kept (j.task.0, j.count) (key-same job j ∙ apart))
      ∙ emptied_others old.recent.items job release (older old) there j apart);
}

-- what is stored after a job is taken out of the map, if it does not stand in its task's slot
pub stored_out_of_map : (old new : ReleaseTimes) (job : JobId) → recent_or (slice_get old.recent.items job.task.0) job.count None ≡ None → new.recent.items ≡ old.recent.items → older new job ≡ None
    → ((q : ℕ × ℕ) → is_at (key_cmp (job.task.0, job.count)) q ≡ false → get key_cmp new.older q ≡ get key_cmp old.older q) → StoresOnly old new job None
stored_out_of_map old new job none array gone kept = record {
  here =
      ap (λ (xs : List (Option Recent)). recent_or (slice_get xs job.task.0) job.count (older new job)) array
      ∙ (not_in_slot (slice_get old.recent.items job.task.0) job.count (older new job) none ∙ gone);
  others = λ j apart.
      ap (λ (xs : List (Option Recent)). recent_or (slice_get xs j.task.0) j.count (older new j)) array
      ∙ ap (recent_or (slice_get old.recent.items j.task.0) j.count) (kept (j.task.0, j.count) (key-same job j ∙ apart));
}
