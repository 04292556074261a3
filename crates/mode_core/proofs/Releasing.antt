-- The fields of a core after a release that is not refused.
use Rattle.std.proofs.Common.{◌≡◌, ℕ, ◌+◌, ◌<◌, ◌≤◌, ◌^◌, ◌==◌, Bool, true, false, cond, List, [], ◌∷◌, ◌++◌, Option, Some, None, IsSome, length, reverse, vec_capacity, refl, sym, ap, ap₂, ◌∙◌, subst, arith, ne_eqb}
use Rattle.std.proofs.lemmas.Bool.{lt-leb, or_from}
use Rattle.std.proofs.lemmas.List.{length-reverse}
use Rattle.mc_task.specs.declared.task.JobId.{JobId}
use Rattle.mc_task.specs.declared.task.TaskNo.{TaskNo}
use Rattle.mc_task.specs.TaskSet.{IsIn}
use Rattle.mc_model.specs.declared.row.Row.{Row}
use Rattle.mc_model.specs.declared.row.Row.TheVariants.{Release}
use Rattle.mc_model.specs.Rows.{ticks, releases}
use Rattle.mc_model.specs.Legal.{Legal}
use Rattle.mc_model.proofs.Ticks.{ticks-le, releases-le}
use Rattle.mc_model.specs.Core.{State, begun, next_job, keeps, release_row, places_used, tick_out, jobs_of}
use Rattle.arrivals.specs.declared.arrivals.Slot.{Slot}
use Rattle.arrivals.specs.Arrived.{arrived, count_of, ForNotes}
use Rattle.arrivals.proofs.CallerLemmas.{HasTask-arrived, count_of-arrived}
use Rattle.arrivals.proofs.Slots.{note, next_of-arrived}
use Rattle.mode_core.specs.declared.scheduler.Core.TheInside.{Inside}
use Rattle.mode_core.specs.declared.answers.Released.TheVariants.{Kept, Dropped}
use Rattle.mode_core.specs.Events.{is_spent, taken, release_refusal}
use Rattle.mode_core.specs.Noted.{note_at, notes_of, MayNote}
use Rattle.mode_core.specs.Shape.{state_of, IsCore}
use Rattle.mode_core.proofs.Pendings.{pushed}
use Rattle.mode_core.proofs.Keep.{no_held}
use Rattle.mode_core.proofs.FewHeld.{held_few}
use Rattle.mode_core.proofs.Noted.{count_noted, next_noted}
use Rattle.mode_core.proofs.Sound.{holding, writing, sound_hold, sound_write, may_release}
use Rattle.mode_core.proofs.CoreSteps.{same_state, core_from}

-- an opened core that takes a release of task number k
pub record Takes {K : Type 0} (n : ℕ) (a : Inside K) (k : ℕ) : Type 0 where
  pub core : IsCore n a
  pub inside : IsIn a.log.set k
  pub none : release_refusal (state_of a) k ≡ None

-- a core takes a release if the release of its state is not refused
pub takes : {K : Type 0} {n : ℕ} (a : Inside K) (s : State) (k : ℕ) → IsCore n a → state_of a ≡ s → IsIn s.set k → release_refusal s k ≡ None → Takes n a k
takes a s k core same inside none = record {
  core = core;
  inside = subst (λ (t : State). IsIn t.set k) (sym same) inside;
  none = subst (λ (t : State). release_refusal t k ≡ None) (sym same) none;
}

-- the value of an option that has one
some_of : (o : Option JobId) → IsSome o → (i : JobId) × (o ≡ Some i)
some_of (Some i) h = (i, refl)
some_of None h = cc

-- with a granted tick, one more tick was begun than the rows have
pub begun_out : (s : State) → IsSome s.out → ticks s.rows + 1 ≡ begun s
begun_out s h = rw (some_of s.out h).1 refl

-- without a granted tick, as many ticks were begun as the rows have
pub begun_in : (s : State) → s.out ≡ None → ticks s.rows ≡ begun s
begun_in s e = omega (arith, ap tick_out e)

-- there are no more jobs of one task than jobs
pub jobs-few : (k : ℕ) (js : List JobId) → jobs_of k js ≤ length js
jobs-few k [] = omega arith
jobs-few k (j ∷ js) = let ih : jobs_of k js ≤ length js = jobs-few k js in elim (j.task.0 == k) as (λ b. cond b 1 0 + jobs_of k js ≤ length (j ∷ js)) [ true ↦ omega (arith, ih) | false ↦ omega (arith, ih) ]

-- if the capacity is below 2^32 rows and not all of it is used, the task's jobs have numbers left
pub not_spent : (s : State) (k : ℕ) → s.places < 2 ^ 32 → places_used s < s.places → is_spent s k ≡ false
not_spent s k small room =
    or_from _ _ (ne_eqb (places_used s) s.places (omega arith)) (lt-leb _ _ (omega (arith, small, room, releases-le s.rows k, jobs-few k s.held)))

-- a release that a core takes may be noted
pub may_note : {K : Type 0} {n : ℕ} (a : Inside K) (k at : ℕ) → Takes n a k → at ≡ begun (state_of a) → MayNote a.arrivals k at
may_note a k at take e =
    let s : State = state_of a in
    let may = may_release s k take.core.sound take.none in
    subst (λ (slots : List Slot). MayNote slots k at) (sym take.core.notes_are) (record {
      task = HasTask-arrived s.set (notes_of s) k take.inside;
      few = omega (arith, may.few, count_of-arrived s.set (notes_of s) k take.inside, count_noted s k);
      time = omega (arith, e, may.room, take.core.sound.small, ticks-le s.rows);
      allowed = omega (arith, e, may.soon, next_of-arrived s.set (notes_of s) k take.inside.0, next_noted s k take.core.sound.tasks take.inside);
    })

-- the job of a release that is taken is its task's next one
pub job_is : {K : Type 0} {n : ℕ} (a : Inside K) (task : TaskNo) (j : JobId) → Takes n a task.0 → j ≡ record { task = task; count = count_of a.arrivals task.0 + 1 } → j ≡ next_job (state_of a) task.0
job_is a task j take e =
    let s : State = state_of a in
    e ∙ ap (λ (n : ℕ). let i : JobId = record { task = task; count = n + 1 } in i)
    (ap (λ (slots : List Slot). count_of slots task.0) take.core.notes_are ∙ (count_of-arrived s.set (notes_of s) task.0 take.inside ∙ count_noted s task.0))

-- the notes after a release are those before it, with the release
pub notes_after : {K : Type 0} {n : ℕ} (a : Inside K) (slots : List Slot) (k at now : ℕ) → IsCore n a → ForNotes a.arrivals (λ set notes. slots ≡ arrived set (note k at ∷ notes)) → at ≡ now → slots ≡ arrived a.log.set (note k now ∷ notes_of (state_of a))
notes_after a slots k at now core noted e =
    noted a.log.set (notes_of (state_of a)) core.notes_are ∙ ap (λ (t : ℕ). arrived a.log.set (note k t ∷ notes_of (state_of a))) e

-- A release that is held

-- the list of held releases has capacity for one more
pub hold_room : {K : Type 0} {n : ℕ} (a : Inside K) (k : ℕ) → Takes n a k → IsSome a.out → length a.held.items < vec_capacity a.held
hold_room a k take out =
    let i = some_of a.out out in
    let sound = sound_hold (state_of a) k i.0 take.core.sound i.1 take.inside take.none in
    omega (arith, held_few (holding (state_of a) (next_job (state_of a) k)) sound.tasks sound.good, take.core.held_room, length-reverse a.held.items)

-- the state after a release that is held
pub hold_state : {K : Type 0} (a b : Inside K) (k : ℕ) (j : JobId) → j ≡ next_job (state_of a) k → b.log ≡ a.log → b.out ≡ a.out → b.held.items ≡ a.held.items ++ j ∷ [] → state_of b ≡ holding (state_of a) (next_job (state_of a) k)
hold_state a b k j ej eb eo eh = same_state b a.log a.out (j ∷ reverse a.held.items) eb eo (pushed j a.held.items b.held.items eh) ∙ ap (holding (state_of a)) ej

-- the fields are a core after a release that is held
pub core_hold : {K : Type 0} {n : ℕ} (a b : Inside K) (k : ℕ) (j : JobId) → Takes n a k → IsSome a.out → j ≡ next_job (state_of a) k → b.log ≡ a.log → b.out ≡ a.out → b.held.items ≡ a.held.items ++ j ∷ [] →
    vec_capacity b.held ≡ vec_capacity a.held → b.arrivals ≡ arrived a.log.set (note k (ticks a.log.rows + 1) ∷ notes_of (state_of a)) → IsCore n b
core_hold a b k j take out ej eb eo eh ec en =
    let s : State = state_of a in
    let i = some_of a.out out in
    core_from b (holding s (next_job s k)) (hold_state a b k j ej eb eo eh) (sound_hold s k i.0 take.core.sound i.1 take.inside take.none) en
    (omega (arith, take.core.held_room, ec))

-- A release that is written

-- the row of a release that is written
abbrev row_of : State → ℕ → Row
row_of s k = release_row s.set s.rule (next_job s k) s.rows

-- the row of a release that is written is that of the task's next job, kept where the mode keeps it
pub row_is : {K : Type 0} (a : Inside K) (k : ℕ) (j : JobId) (kept : Bool) → j ≡ next_job (state_of a) k → kept ≡ keeps a.log.set a.log.rule a.log.rows k → Release j kept ≡ row_of (state_of a) k
row_is a k j kept ej e = ap₂ (λ (i : JobId) (b : Bool). Release i b) ej e

-- the row of a release that is written fits
pub write_legal : {K : Type 0} {n : ℕ} (a : Inside K) (k : ℕ) (row : Row) → Takes n a k → a.out ≡ None → row ≡ row_of (state_of a) k → Legal a.log.set a.log.rule (row ∷ a.log.rows)
write_legal a k row take out e =
    subst (λ (r : Row). Legal a.log.set a.log.rule (r ∷ a.log.rows)) (sym e)
    (sound_write (state_of a) k take.core.sound out take.inside take.none).good.legal

-- the answer to a release that is written: its job and boundary, kept or dropped
pub write_answer : {K : Type 0} (a : Inside K) (k : ℕ) (j : JobId) (kept : Bool) (at : ℕ) → j ≡ next_job (state_of a) k → kept ≡ keeps a.log.set a.log.rule a.log.rows k → at ≡ begun (state_of a) → cond kept (Kept j at) (Dropped j at) ≡ taken (state_of a) None k
write_answer a k j kept at ej e now =
    ap (λ (b : Bool). cond b (Kept j at) (Dropped j at)) e
    ∙ ap₂ (λ (i : JobId) (t : ℕ). cond (keeps a.log.set a.log.rule a.log.rows k) (Kept i t) (Dropped i t)) ej now

-- the state after a release that is written
pub write_state : {K : Type 0} (a b : Inside K) (k : ℕ) (row : Row) → row ≡ row_of (state_of a) k → b.log ≡ record a.log { rows = row ∷ a.log.rows } → b.out ≡ a.out → b.held.items ≡ a.held.items → state_of b ≡ writing (state_of a) (next_job (state_of a) k)
write_state a b k row er eb eo eh =
    same_state b (record a.log { rows = row ∷ a.log.rows }) a.out (reverse a.held.items) eb eo (ap reverse eh)
    ∙ ap (λ (r : Row). let s : State = record (state_of a) { rows = r ∷ a.log.rows } in s) er

-- a release that is written is noted at its row
notes_written : (s : State) (j : JobId) → s.held ≡ [] → notes_of (writing s j) ≡ note_at (ticks s.rows) j ∷ notes_of s
notes_written s j h = rw h refl

-- the fields are a core after a release that is written
pub core_write : {K : Type 0} {n : ℕ} (a b : Inside K) (k : ℕ) (row : Row) → Takes n a k → a.out ≡ None → row ≡ row_of (state_of a) k → b.log ≡ record a.log { rows = row ∷ a.log.rows } → b.out ≡ a.out → b.held.items ≡ a.held.items →
    vec_capacity b.held ≡ vec_capacity a.held → b.arrivals ≡ arrived a.log.set (note k (ticks a.log.rows) ∷ notes_of (state_of a)) → IsCore n b
core_write a b k row take out er eb eo eh ec en =
    let s : State = state_of a in
    core_from b (writing s (next_job s k)) (write_state a b k row er eb eo eh) (sound_write s k take.core.sound out take.inside take.none)
    (en ∙ ap (arrived s.set) (sym (notes_written s (next_job s k) (no_held s take.core.sound.good out))))
    (omega (arith, take.core.held_room, ec))
