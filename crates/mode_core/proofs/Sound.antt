-- Each event leaves a sound state, and what is noted of releases after it.
use Rattle.std.proofs.Common.{◌≡◌, ℕ, ◌+◌, ◌-◌, ◌<◌, ◌≤◌, ◌^◌, Bool, true, false, not, List, [], ◌∷◌, Option, Some, None, length, refl, ap, ◌∙◌, subst, arith, ltb-false, leb-false}
use Rattle.std.proofs.lemmas.Bool.{not-false, or_parts, eqb-false}
use Rattle.mc_task.specs.declared.task.JobId.{JobId}
use Rattle.mc_model.specs.declared.row.Row.{Row}
use Rattle.mc_model.specs.declared.row.Row.TheVariants.{Tick}
use Rattle.mode_core.specs.Events.{is_full, release_refusal, grant_refusal, outcome_refusal, is_of_task, is_out, chosen_now}
use Rattle.mode_core.specs.Shape.{IsSoundUpTo}
use Rattle.mode_core.specs.Noted.{notes_of}
use Rattle.mode_core.proofs.Fits.{Chooses, chooses, tick_legal}
use Rattle.mode_core.proofs.Held.{IsSettled, settled_words}
use Rattle.mode_core.proofs.Keep.{good_release, good_grant, good_outcome}
use Rattle.mode_core.proofs.Options.{neither, not_if, no_map}
use Rattle.mc_task.specs.TaskSet.{IsIn}
use Rattle.mode_core.proofs.Noted.{notes_settled}
use Rattle.mc_model.specs.Legal.{Legal}
use Rattle.mc_model.specs.Core.{State, Good, begun, next, next_job, places_used, tick_out, released_so_far, release_row, add_held, outcome_of, settle, settled, IsOut}
use Rattle.mc_model.proofs.Jobs.{job_eq}

-- a sound state that is not full has capacity for one more row
pub room_left : {n : ℕ} (s : State) → IsSoundUpTo n s → is_full s ≡ false → places_used s < s.places
room_left s k f = omega (arith, eqb-false _ _ f, k.room)

-- a release may be taken: it is not too soon, and capacity and a job number are left
pub record MayRelease (s : State) (k : ℕ) : Type 0 where
  pub soon : next s k ≤ begun s
  pub room : places_used s < s.places
  pub few : released_so_far s k < 2 ^ 32 - 1

-- a release that no refusal applies to is allowed
pub may_release : {n : ℕ} (s : State) (k : ℕ) → IsSoundUpTo n s → release_refusal s k ≡ None → MayRelease s k
may_release s k sound e =
    let p = neither _ _ (neither _ _ e).1 in
    let left = or_parts _ _ (not_if _ _ p.1) in
    record { soon = ltb-false _ _ (not_if _ _ p.0); room = room_left s sound left.0; few = leb-false _ _ left.1 }

-- a sound state stays sound with other rows, granted tick and held releases that are good and within the capacity
pub sound_with : {n : ℕ} (s : State) (rows : List Row) (out : Option JobId) (held : List JobId) → IsSoundUpTo n s → Good (record s { rows = rows; out = out; held = held }) →
    length rows + length held + tick_out out ≤ s.places → IsSoundUpTo n (record s { rows = rows; out = out; held = held })
sound_with s rows out held sound good room = record { tasks = sound.tasks; fits = sound.fits; holds = sound.holds; good = good; range = sound.range; small = sound.small; room = room }

-- the state with one more held release
abbrev pub holding : State → JobId → State
holding s j = record s { held = j ∷ s.held }

-- a held release leaves a sound state
pub sound_hold : {n : ℕ} (s : State) (k : ℕ) (i : JobId) → IsSoundUpTo n s → s.out ≡ Some i → IsIn s.set k → release_refusal s k ≡ None → IsSoundUpTo n (holding s (next_job s k))
sound_hold s k i sound o inside e =
    let may = may_release s k sound e in
    sound_with s s.rows s.out (next_job s k ∷ s.held) sound (good_release s (Some i) k o sound.good inside may.soon) (omega (arith, may.room))

-- the state with the row of a release
abbrev pub writing : State → JobId → State
writing s j = record s { rows = release_row s.set s.rule j s.rows ∷ s.rows }

-- a release that is written leaves a sound state
pub sound_write : {n : ℕ} (s : State) (k : ℕ) → IsSoundUpTo n s → s.out ≡ None → IsIn s.set k → release_refusal s k ≡ None → IsSoundUpTo n (writing s (next_job s k))
sound_write s k sound o inside e =
    let may = may_release s k sound e in
    let row = release_row s.set s.rule (next_job s k) s.rows in
    sound_with s (row ∷ s.rows) s.out s.held sound (good_release s None k o sound.good inside may.soon) (omega (arith, may.room))

-- the state with a granted tick of the chosen job
abbrev pub giving : State → State
giving s = record s { out = chosen_now s }

-- a tick may be granted: a job is chosen, no tick is granted yet, and capacity is left
pub record MayGrant (s : State) : Type 0 where
  pub job : JobId
  pub chosen : chosen_now s ≡ Some job
  pub out : s.out ≡ None
  pub room : places_used s < s.places

-- a grant that no refusal applies to is allowed
pub may_grant : {n : ℕ} (s : State) (k : ℕ) → IsSoundUpTo n s → grant_refusal s k ≡ None → MayGrant s
may_grant s k sound e =
    let p = neither _ _ e in
    let q = neither _ _ p.1 in
    go (chosen_now s) refl (not_if _ _ q.0) (no_map _ _ p.0) (not_if _ _ q.1)
  where
    go : (o : Option JobId) → chosen_now s ≡ o → not (is_of_task o k) ≡ false → s.out ≡ None → is_full s ≡ false → MayGrant s
    go None m f n r = cc
    go (Some j) m f n r = record { job = j; chosen = m; out = n; room = room_left s sound r }

-- a grant leaves a sound state
pub sound_grant : {n : ℕ} (s : State) → IsSoundUpTo n s → MayGrant s → IsSoundUpTo n (giving s)
sound_grant s sound may =
    let good = good_grant s may.job sound.tasks.each sound.good may.out may.chosen in
    rw may.chosen (sound_with s s.rows (Some may.job) s.held sound good (omega (arith, may.room, ap tick_out may.out)))

-- a state with a granted tick
pub record IsTicking (s : State) (j : JobId) : Type 0 where
  pub out : s.out ≡ Some j
  pub chosen : chosen_now s ≡ Some j
  pub known : Chooses s.set s.rule s.rows j
  pub legal : (done : Bool) → Legal s.set s.rule (Tick j (outcome_of s.set s.rule s.rows j done) ∷ s.rows)
  pub settle_is : (done : Bool) → settle s done ≡ add_held s.set s.rule s.held (Tick j (outcome_of s.set s.rule s.rows j done) ∷ s.rows)

-- if no refusal of an outcome of the job applies, the granted tick is the job's
pub ticking : {n : ℕ} (s : State) (j : JobId) → IsSoundUpTo n s → outcome_refusal s j ≡ None → IsTicking s j
ticking s j sound e = go (s.out) refl (not-false _ (not_if _ _ e))
  where
    go : (o : Option JobId) → s.out ≡ o → is_out o j ≡ true → IsTicking s j
    go None m f = cc
    go (Some i) m f =
        let same : s.out ≡ Some j = m ∙ ap (λ (x : JobId). Some x) (job_eq i j f) in
        let c : chosen_now s ≡ Some j = subst (λ (x : Option JobId). IsOut s.set s.rule s.rows x s.held) same sound.good.out in
        record {
          out = same;
          chosen = c;
          known = chooses s.set s.rule s.rows j sound.tasks.each sound.good.legal c;
          legal = λ done. tick_legal s.set s.rule j s.rows done sound.tasks.each sound.good.legal c;
          settle_is = λ done. ap (λ (x : Option JobId). settled s.set s.rule done s.rows x s.held) same;
        }

-- the state after an outcome
abbrev pub ended : State → Bool → State
ended s done = record s { rows = settle s done; out = None; held = [] }

-- an outcome leaves a sound state
pub sound_end : {n : ℕ} (s : State) (done : Bool) → IsSoundUpTo n s → IsSoundUpTo n (ended s done)
sound_end s done sound =
    let w : IsSettled s.set s.rule s.rows s.out s.held done = settled_words s.set s.rule s.rows s.out s.held done sound.good.out in
    sound_with s (settle s done) None [] sound (good_outcome s done sound.good) (omega (arith, sound.room, w.places))

-- an outcome leaves the notes as they were
pub notes_ended : {n : ℕ} (s : State) (done : Bool) → IsSoundUpTo n s → notes_of (ended s done) ≡ notes_of s
notes_ended s done sound = notes_settled s.set s.rule s.rows s.out s.held done sound.good.out
