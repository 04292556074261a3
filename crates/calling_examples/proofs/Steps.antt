-- A tick adds its row, if no tick is granted and the core has capacity for it.
use Rattle.std.proofs.Common.{◌≡◌, ℕ, ◌+◌, ◌<◌, Bool, true, false, List, [], ◌∷◌, Option, Some, None, Result, Ok, Err, length, option_map, refl, sym, ap, ◌∙◌, subst, arith}
use Rattle.std.specs.Option.{option_or}
use Rattle.mc_task.specs.declared.task.JobId.{JobId}
use Rattle.mc_model.specs.declared.row.Row.{Row}
use Rattle.mc_model.specs.declared.row.Row.TheVariants.{Tick, Idle}
use Rattle.mc_model.specs.Rows.{ticks}
use Rattle.mc_model.specs.Core.{State, places_used, tick_out, outcome_of}
use Rattle.mode_core.specs.declared.answers.Granted.{Granted}
use Rattle.mode_core.specs.declared.answers.GrantFault.{GrantFault}
use Rattle.mode_core.specs.declared.answers.IdleFault.TheVariants as idle_fault
use Rattle.mode_core.specs.Events.{refused_if, unless, is_full, chosen_now, granted, grant_answer, after_grant, after_outcome, after_idle}
use Rattle.mode_core.specs.Shape.{IsSoundUpTo}
use Rattle.mode_core.proofs.CallerLemmas.{no_held}
use Rattle.timetable.proofs.Calls.{not_full, given_before, given}
use Rattle.calling_examples.specs.Loop.{AddsTick}

-- a core to which the row of a tick is added has one tick more, and nothing else has changed
tick_adds : (s t : State) (row : Row) → ticks (row ∷ s.rows) ≡ ticks s.rows + 1 → t ≡ record s { rows = row ∷ s.rows } → AddsTick s t
tick_adds s t row one e = subst (AddsTick s) (sym e) (record { stays = refl; one_tick = one; one_row = omega arith })

-- a tick may come next: no tick is granted, nothing is held, and there is capacity for a row
pub record IsFree (s : State) : Type 0 where
  pub out : s.out ≡ None
  pub held : s.held ≡ []
  pub room : places_used s < s.places

-- a tick may come next if no tick is granted and there are fewer rows than the capacity
pub is_free : {n : ℕ} (s : State) → IsSoundUpTo n s → s.out ≡ None → length s.rows < s.places → IsFree s
is_free s sound o r =
    let h = no_held s sound.good o in
    let a : tick_out s.out ≡ 0 = ap tick_out o in
    let b : length s.held ≡ 0 = ap (λ (js : List JobId). length js) h in
    record { out = o; held = h; room = omega (arith, a, b, r) }

-- what a grant to the task of the chosen job returns
answered : (s : State) (j : JobId) → IsFree s → chosen_now s ≡ Some j → grant_answer s j.task.0 ≡ Ok (granted s j)
answered s j f c = given_before s j (grant_answer s j.task.0) f.out c f.room refl

-- the granted tick is of the chosen job
job_of : (x y : Granted) (r : Result Granted GrantFault) → Ok x ≡ r → r ≡ Ok y → x.job ≡ y.job
job_of x y r p q = cc

-- a tick that is granted to the task of the chosen job, and its outcome, add the row of a tick
pub grant_adds : (s t u : State) (j : JobId) (x : Granted) (done : Bool) → IsFree s → chosen_now s ≡ Some j → Ok x ≡ grant_answer s j.task.0 → t ≡ after_grant s j.task.0 → u ≡ after_outcome t x.job done → AddsTick s u
grant_adds s t u j x done f c e p q =
    let same : x.job ≡ j = job_of x (granted s j) (grant_answer s j.task.0) e (answered s j f c) in
    let state : u ≡ after_outcome (after_grant s j.task.0) j done = q ∙ (ap (λ (i : JobId). after_outcome t i done) same ∙ ap (λ (y : State). after_outcome y j done) p) in
    tick_adds s u (Tick j (outcome_of s.set s.rule s.rows j done)) refl (state ∙ given s j done f.out f.held c f.room)

-- a grant to the task of the chosen job is not refused
pub never_refused : (s : State) (j : JobId) (e : GrantFault) → IsFree s → chosen_now s ≡ Some j → Err e ≡ grant_answer s j.task.0 → ⊥
never_refused s j e f c p = let q : Err e ≡ Ok (granted s j) = p ∙ answered s j f c in cc

-- an idle tick, if no job is chosen, adds the row of a tick
pub idle_adds : (s t : State) → IsFree s → chosen_now s ≡ None → t ≡ after_idle s → AddsTick s t
idle_adds s t f c e = tick_adds s t Idle refl (e ∙ go s.out (chosen_now s) (is_full s) f.out c (not_full s f.room))
  where
    go : (out chosen : Option JobId) (full : Bool) → out ≡ None → chosen ≡ None → full ≡ false →
        unless (option_or (option_map idle_fault.TickOut out) (option_or (option_map idle_fault.Pending chosen) (refused_if full idle_fault.Full))) (record s { rows = Idle ∷ s.rows }) s ≡ record s { rows = Idle ∷ s.rows }
    go None None false p q r = refl
    go (Some j) chosen full p q r = cc
    go None (Some j) full p q r = cc
    go None None true p q r = cc
