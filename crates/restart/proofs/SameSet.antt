-- Runs and idle ticks keep the set.
use Rattle.std.proofs.Common.{◌≡◌, ℕ, zero, suc, ◌-◌, Bool, false, Option, Some, None, refl, ◌∙◌}
use Rattle.mc_task.specs.declared.task.JobId.{JobId}
use Rattle.mc_model.specs.Core.{State}
use Rattle.mode_core.specs.Events.{unless, grant_refusal, outcome_refusal, idle_refusal, after_grant}
use Rattle.mode_core.specs.Runs.{after_tick, after_ticks, after_idles, run_refusal, idles_refusal, before_last, after_run, after_idle_for}

-- refused or not, the set stays
unless_set : {E : Type 0} (f : Option E) (a b : State) → a.set ≡ b.set → (unless f a b).set ≡ b.set
unless_set None a b e = e
unless_set (Some fault) a b e = refl

tick_set : (s : State) (j : JobId) (done : Bool) → (after_tick s j done).set ≡ s.set
tick_set s j done =
    unless_set (outcome_refusal (after_grant s j.task.0) j) _ (after_grant s j.task.0) refl ∙ unless_set (grant_refusal s j.task.0) _ s refl

ticks_set : (n : ℕ) (s : State) (j : JobId) → (after_ticks n s j).set ≡ s.set
ticks_set zero s j = refl
ticks_set (suc n) s j = tick_set (after_ticks n s j) j false ∙ ticks_set n s j

-- a run keeps the set
pub run_set : (s : State) (j : JobId) (n : ℕ) (done : Bool) → (after_run s j n done).set ≡ s.set
run_set s j n done = unless_set (run_refusal s j n) _ s (tick_set (before_last s j n) j done ∙ ticks_set (n - 1) s j)

idles_set : (n : ℕ) (s : State) → (after_idles n s).set ≡ s.set
idles_set zero s = refl
idles_set (suc n) s = unless_set (idle_refusal (after_idles n s)) _ (after_idles n s) refl ∙ idles_set n s

-- idle ticks keep the set
pub idle_for_set : (s : State) (n : ℕ) → (after_idle_for s n).set ≡ s.set
idle_for_set s n = unless_set (idles_refusal s n) _ s (idles_set n s)
