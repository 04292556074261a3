-- What does not fit in a row, from what is kept of the rows before it.
use Rattle.std.proofs.Common.{[], ◌≡◌, ℕ, ◌+◌, ◌≤◌, Bool, true, false, not, ◌&&◌, ◌||◌, List, ◌∷◌, cond, map, refl, sym, ap, ◌∙◌, arith, ◌≢◌, ◌==◌, nat_lt, nat_le, Option, Some, None, length, ◌-◌}
use Rattle.std.proofs.lemmas.Bool.Decides.{nat_tests}
use Rattle.std.proofs.lemmas.Option.{get_or_from_slice_get}
use Rattle.std.specs.List.{list_any, list_all}
use Rattle.std.specs.Prelude.{find}
use Rattle.mc_task.specs.declared.task.JobId.{JobId}
use Rattle.mc_task.specs.declared.task.Rule.{Rule}
use Rattle.mc_task.specs.declared.task.Task.{Task}
use Rattle.mc_task.specs.TaskSet.{task_at}
use Rattle.mc_model.specs.declared.row.How.{How}
use Rattle.mc_model.specs.declared.row.How.TheVariants.{Over}
use Rattle.mc_model.specs.declared.row.Row.{Row}
use Rattle.mc_model.specs.declared.row.Row.TheVariants.{Release, Tick, Idle}
use Rattle.mc_model.specs.declared.verdict.Why.TheVariants.{NotPending, NotLeast, WrongHow, IdlePending}
use Rattle.mc_model.specs.TaskNumbers.{period_in}
use Rattle.mc_model.specs.Rows.{same_job, ticks, used, releases, next_release, is_too_soon}
use Rattle.mc_task.specs.Kinds.{is_virtual}
use Rattle.mc_model.specs.Mode.{high_mode}
use Rattle.mc_model.specs.Key.{key}
use Rattle.mc_model.specs.Legal.{Legal, is_pending, is_least, is_empty, none_below, fault, fault_among, first_of_parts}
use Rattle.mc_model.proofs.Jobs.{job_eq}
use Rattle.mc_model.specs.Sums.{total, when}
use Rattle.trace_judge.specs.declared.pending_queues.Pending.{Pending}
use Rattle.trace_judge.specs.Entries.{Entry, is_of, pending_in, Stands}
use Rattle.trace_judge.specs.declared.state.TaskNote.{TaskNote}
use Rattle.trace_judge.specs.declared.state.State.{State}
use Rattle.trace_judge.specs.Placed.{Placed, waiting}
use Rattle.trace_judge.specs.Steps.{release_why, note_at}
use Rattle.trace_judge.specs.Rules.{allows}
use Rattle.trace_judge.specs.Tracks.{Tracks, entry_of}
use Rattle.trace_judge.specs.declared.pending_queues.Standing.TheVariants as standing
use Rattle.mc_model.proofs.Sums.{one, total-one}
use Rattle.trace_judge.proofs.Same.{list_all-true, list_any-map, list_all-map, same_any, same_all}
use Rattle.trace_judge.proofs.Firsts.{found_passes, found_any, found_both, one_fails}
use Rattle.trace_judge.proofs.Placed.{kept_of, pending_is, one_waiting}

-- each entry has a job of its own
pub apart : (set : List Task) (rule : Rule) (g : List Row) (s : State) → Legal set rule g → Tracks set rule g s → (i : JobId) → total (when (is_of i) one) s.waiting.entries ≤ 1
apart set rule g s l t i =
    omega (arith, one_waiting set rule g l i, t.waiting (when (is_of i) one))

-- the next release of a task is allowed at most a period after the rows end
next_le : (set : List Task) (g : List Row) (k : ℕ) → next_release set g k ≤ ticks g + period_in (task_at set k)
next_le set [] k = omega arith
next_le set (Release j kept ∷ g) k = grind (arith, next_le set g k)
next_le set (row ∷ g) k = omega (arith, next_le set g k)

-- a release is too soon where the boundary is below the next one that is allowed
pub too_soon_is : (set : List Task) (now : ℕ) (g : List Row) (k : ℕ) → is_too_soon set now g k ≡ nat_lt now (next_release set g k)
too_soon_is set now [] k = grind (arith, nat_tests)
too_soon_is set now (Release j kept ∷ g) k = grind (arith, nat_tests, too_soon_is set now g k, next_le set g k)
too_soon_is set now (row ∷ g) k = too_soon_is set now g k

-- the note of a task before its first release
abbrev none_yet : TaskNote
none_yet = record { releases = 0; next = 0 }

-- the note of a task
note_is : (set : List Task) (rule : Rule) (g : List Row) (s : State) (k : ℕ) → Tracks set rule g s → 1 ≤ k → k ≤ length set → note_at s.tasks.items k ≡ record { releases = releases g k; next = next_release set g k }
note_is set rule g s k t a b =
    let e : k - 1 + 1 ≡ k = omega arith in
    get_or_from_slice_get s.tasks.items (k - 1) _ none_yet (rw e at (t.tasks (k - 1) (omega arith)))

-- the first part of a release that does not fit
pub release_fault : (set : List Task) (rule : Rule) (g : List Row) (s : State) (j : JobId) (kept : Bool) (task : Task) → Tracks set rule g s → 1 ≤ j.task.0 → j.task.0 ≤ length set → task_at set j.task.0 ≡ Some task →
    release_why s.ticks s.high_mode (note_at s.tasks.items j.task.0) (Some task) j kept ≡ fault set rule (Release j kept) g
release_fault set rule g s j kept task t a b at =
    rw (note_is set rule g s j.task.0 t a b, t.ticks, t.mode, at, too_soon_is set (ticks g) g j.task.0) refl

-- the job has an entry, and no entry has a lesser key
abbrev pub least_in : List Entry → JobId → Bool
least_in es j = list_any (λ e. is_of j e && list_all (λ o. nat_le e.0.key o.0.key) es) es

-- an entry that is found at a key with no lesser one has a least key
pub found_least : (j : JobId) (e : Entry) (es : List Entry) → list_all (λ (o : Entry). nat_le e.0.key o.0.key) es ≡ true → find (is_of j) es ≡ Some e → least_in es j ≡ true
found_least j e es = found_both (is_of j) (λ (x : Entry). list_all (λ (o : Entry). nat_le x.0.key o.0.key) es) e es

-- the only entry of a job has no least key if some entry has a lesser one
pub not_least : (j : JobId) (e : Entry) (es : List Entry) → total (when (is_of j) one) es ≤ 1 → list_all (λ (o : Entry). nat_le e.0.key o.0.key) es ≡ false → find (is_of j) es ≡ Some e → least_in es j ≡ false
not_least j e es = one_fails (is_of j) (λ (x : Entry). list_all (λ (o : Entry). nat_le x.0.key o.0.key) es) e es

-- the tests of a tick's job among the pending jobs are those among the entries
pub pending_same : (set : List Task) (rule : Rule) (g : List Row) (s : State) (j : JobId) → Tracks set rule g s → is_pending (map kept_of (waiting set g)) j ≡ pending_in s.waiting.entries j
pending_same set rule g s j t =
    list_any-map (λ i. same_job j i.job) kept_of (λ x. same_job j x.kept.job) (λ x. refl) (waiting set g)
    ∙ sym (same_any s.waiting.entries (entry_of set rule g) (waiting set g) t.waiting (is_of j))

-- the test of the least key among the pending jobs is the test among the entries
pub least_same : (set : List Task) (rule : Rule) (g : List Row) (s : State) (j : JobId) → Tracks set rule g s → is_least set rule (high_mode rule g) (map kept_of (waiting set g)) j ≡ least_in s.waiting.entries j
least_same set rule g s j t =
    let es : List Entry = s.waiting.entries in
    let ws : List Placed = waiting set g in
    let hi : Bool = high_mode rule g in
    list_any-map (λ i. same_job j i.job && none_below set rule hi (key set rule hi i) (map kept_of ws)) kept_of
    (λ x. same_job j x.kept.job && list_all (λ (o : Entry). nat_le (key set rule hi x.kept) o.0.key) es)
    (λ x. ap (λ b. same_job j x.kept.job && b)
    (list_all-map (λ i. nat_le (key set rule hi x.kept) (key set rule hi i)) kept_of ws
    ∙ sym (same_all es (entry_of set rule g) ws t.waiting (λ (o : Entry). nat_le (key set rule hi x.kept) o.0.key)))) ws
    ∙ sym (same_any es (entry_of set rule g) ws t.waiting (λ (e : Entry). is_of j e && list_all (λ (o : Entry). nat_le e.0.key o.0.key) es))

-- the fault of a tick, by the tests among the entries
pub tick_fault : (set : List Task) (rule : Rule) (g : List Row) (s : State) (j : JobId) (how : How) → Legal set rule g → Tracks set rule g s →
    fault set rule (Tick j how) g ≡ first_of_parts ((pending_in s.waiting.entries j, NotPending) ∷ (least_in s.waiting.entries j, NotLeast) ∷ (allows rule (high_mode rule g) (task_at set j.task.0) (used g j + 1) how, WrongHow) ∷ [])
tick_fault set rule g s j how l t =
    rw (pending_is set rule g l, pending_same set rule g s j t, least_same set rule g s j t) refl

-- the ticks that an entry's job has used
pub found_used : (set : List Task) (rule : Rule) (g : List Row) (s : State) (j : JobId) (k : ℕ) (p : Pending) → Tracks set rule g s → find (is_of j) s.waiting.entries ≡ Some (record { key = k; job = j }, p) → p.used ≡ used g j
found_used set rule g s j k p t h =
    let q : Entry → Bool = λ e. not (is_of j e) || (e.1.used == used g j) in
    let all : list_all q s.waiting.entries ≡ true = same_all s.waiting.entries (entry_of set rule g) (waiting set g) t.waiting q
    ∙ list_all-true (λ (x : Placed). q (entry_of set rule g x)) each (waiting set g) in
    let r : (not (is_of j (record { key = k; job = j }, p)) || (p.used == used g j)) ≡ true = found_passes q (is_of j) (record { key = k; job = j }, p) s.waiting.entries all h in
    grind (arith, nat_tests)
  where
    each : (x : Placed) → (not (is_of j (entry_of set rule g x)) || (used g x.kept.job == used g j)) ≡ true
    each x = let same : same_job j x.kept.job ≡ true → used g x.kept.job ≡ used g j = λ m. ap (used g) (sym (job_eq j x.kept.job m)) in grind (arith, nat_tests, same)

-- the fault of a tick of a job that is not pending
pub stands_not_pending : (set : List Task) (rule : Rule) (g : List Row) (s : State) (j : JobId) (how : How) → Legal set rule g → Tracks set rule g s → Stands s.waiting.entries j standing.NotPending → Some NotPending ≡ fault set rule (Tick j how) g
stands_not_pending set rule g s j how l t h = sym (tick_fault set rule g s j how l t ∙ rw h refl)

-- the fault of a tick of a job that is not at the least key
pub stands_not_least : (set : List Task) (rule : Rule) (g : List Row) (s : State) (j : JobId) (how : How) → Legal set rule g → Tracks set rule g s → Stands s.waiting.entries j standing.NotLeast → Some NotLeast ≡ fault set rule (Tick j how) g
stands_not_least set rule g s j how l t h =
    let a = found_any (is_of j) h.0 s.waiting.entries h.1 in
    let b = not_least j h.0 s.waiting.entries (apart set rule g s l t j) h.2 h.1 in
    sym (tick_fault set rule g s j how l t ∙ rw (a, b) refl)

-- the fault of a tick of a job that is at the least key, by how the tick ended
pub stands_least : (set : List Task) (rule : Rule) (g : List Row) (s : State) (j : JobId) (how : How) (p : Pending) → Legal set rule g → Tracks set rule g s → Stands s.waiting.entries j (standing.Least p) →
    fault set rule (Tick j how) g ≡ cond (allows rule s.high_mode (task_at set j.task.0) (p.used + 1) how) None (Some WrongHow)
stands_least set rule g s j how p l t h =
    let e : Entry = (record { key = h.0; job = j }, p) in
    let a = found_any (is_of j) e s.waiting.entries h.1 in
    let b = found_least j e s.waiting.entries h.2 h.1 in
    tick_fault set rule g s j how l t ∙ rw (a, b, t.mode, found_used set rule g s j h.0 p t h.1) refl

-- if some job waits, the list of pending jobs is not empty
not_empty_at : (ws : List Placed) → length ws ≢ 0 → is_empty (map kept_of ws) ≡ false
not_empty_at [] h = absurd (h refl)
not_empty_at (x ∷ ws) h = refl

-- there are as many entries as jobs that wait
pub same_length : (set : List Task) (rule : Rule) (g : List Row) (s : State) → Tracks set rule g s → length s.waiting.entries ≡ length (waiting set g)
same_length set rule g s t = sym (total-one s.waiting.entries) ∙ (t.waiting one ∙ total-one (waiting set g))

-- an idle row does not fit while there are entries
pub idle_some : (set : List Task) (rule : Rule) (g : List Row) (s : State) → Legal set rule g → Tracks set rule g s → length s.waiting.entries ≢ 0 → Some IdlePending ≡ fault set rule Idle g
idle_some set rule g s l t h =
    sym (ap (λ now. fault_among set rule now Idle g) (pending_is set rule g l) ∙ rw (not_empty_at (waiting set g) (λ e. h (same_length set rule g s t ∙ e))) refl)

-- an Over is allowed only under EDF-VD
pub over_virtual : (rule : Rule) (high : Bool) (t : Option Task) (u : ℕ) → allows rule high t u Over ≡ true → is_virtual rule ≡ true
over_virtual rule high t u h = grind arith
