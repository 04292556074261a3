-- What follows from a row that fits the rows before it.
use Rattle.std.proofs.Common.{◌≡◌, ℕ, ◌+◌, ◌≤◌, Bool, true, false, not, ◌&&◌, ◌||◌, List, [], ◌∷◌, ◌++◌, None, cond, nat_lt, ◌==◌, ◌≢◌, refl, arith, leb-true, ltb-false, eqb-true}
use Rattle.mc_task.specs.declared.task.Rule.{Rule}
use Rattle.mc_task.specs.declared.task.Task.{Task}
use Rattle.mc_task.specs.declared.task.JobId.{JobId}
use Rattle.mc_task.specs.TaskSet.{task_at}
use Rattle.mc_model.specs.declared.row.How.{How}
use Rattle.mc_model.specs.declared.row.How.TheVariants.{More, Done, Stop, Over}
use Rattle.mc_model.specs.declared.row.Row.{Row}
use Rattle.mc_model.specs.declared.row.Row.TheVariants.{Release, Tick, Idle}
use Rattle.mc_model.specs.declared.verdict.Why.{Why}
use Rattle.mc_model.specs.TaskNumbers.{period_in, low_in, own_in, is_high_in}
use Rattle.mc_model.specs.Pending.{KeptRelease}
use Rattle.mc_model.specs.Rows.{ticks, used, releases, next_release, is_too_soon}
use Rattle.mc_model.specs.Legal.{Legal, is_pending, is_least, is_empty, same_how, is_allowed_how, first_of_parts}
use Rattle.mc_task.specs.Kinds.{is_virtual}
use Rattle.mc_model.specs.Mode.{high_mode}
use Rattle.mc_model.proofs.Fold.{pending, fault}
use Rattle.std.proofs.lemmas.Bool.{or_parts, not-true, eqb-false}
use Rattle.std.proofs.Math.Bool.{beq}

-- the rows of a legal trace up to any of them are legal; the newest row stands first
pub legal_earlier : (set : List Task) (rule : Rule) (later h : List Row) → Legal set rule (later ++ h) → Legal set rule h
legal_earlier set rule [] h l = l
legal_earlier set rule (row ∷ later) h l = legal_earlier set rule later h l.2

-- if no part of one fails, that part is true
pub parts_one : (a : Bool) (u : Why) → first_of_parts ((a, u) ∷ []) ≡ None → a ≡ true
parts_one true u h = refl
parts_one false u h = cc

-- if no part of three fails, all are true
pub parts_three : (a b c : Bool) (u v w : Why) → first_of_parts ((a, u) ∷ (b, v) ∷ (c, w) ∷ []) ≡ None → (a ≡ true) × (b ≡ true) × (c ≡ true)
parts_three true true true u v w h = (refl, refl, refl)
parts_three false b c u v w h = cc
parts_three true false c u v w h = cc
parts_three true true false u v w h = cc

-- what follows from a release that fits
pub record ReleaseFits (set : List Task) (rule : Rule) (j : JobId) (kept : Bool) (g : List Row) : Type 0 where
  pub soon : next_release set g j.task.0 ≤ ticks g
  pub count : j.count ≡ releases g j.task.0 + 1
  pub kept_so : beq kept (is_high_in (task_at set j.task.0) || not (high_mode rule g)) ≡ true

-- if no release is too recent, the next one is allowed
pub soon_enough : (set : List Task) (now : ℕ) (g : List Row) (k : ℕ) → is_too_soon set now g k ≡ false → next_release set g k ≤ now
soon_enough set now [] k h = omega arith
soon_enough set now (Tick j how ∷ g) k h = soon_enough set now g k h
soon_enough set now (Idle ∷ g) k h = soon_enough set now g k h
soon_enough set now (Release j kept ∷ g) k h = here (j.task.0 == k) (or_parts _ _ h).0 (soon_enough set now g k (or_parts _ _ h).1)
  where
    here : (b : Bool) → (b && nat_lt now (ticks g + period_in (task_at set k))) ≡ false → next_release set g k ≤ now → cond b (ticks g + period_in (task_at set k)) (next_release set g k) ≤ now
    here true f r = ltb-false _ _ f
    here false f r = r

-- a release that fits has all parts of `ReleaseFits`
pub release_fits : (set : List Task) (rule : Rule) (j : JobId) (kept : Bool) (g : List Row) → fault set rule (Release j kept) g ≡ None → ReleaseFits set rule j kept g
release_fits set rule j kept g h =
    let p = parts_three _ _ _ _ _ _ h in
    record { soon = soon_enough set (ticks g) g j.task.0 (not-true _ p.0); count = eqb-true _ _ p.1; kept_so = p.2 }

-- what follows from a tick that fits
pub record TickFits (set : List Task) (rule : Rule) (j : JobId) (how : How) (g : List Row) : Type 0 where
  pub live : is_pending (pending set g) j ≡ true
  pub least : is_least set rule (high_mode rule g) (pending set g) j ≡ true
  pub how_so : is_allowed_how set rule g j how ≡ true

-- a tick that fits has all parts of `TickFits`
pub tick_fits : (set : List Task) (rule : Rule) (j : JobId) (how : How) (g : List Row) → fault set rule (Tick j how) g ≡ None → TickFits set rule j how g
tick_fits set rule j how g h =
    let p = parts_three _ _ _ _ _ _ h in
    record { live = p.0; least = p.1; how_so = p.2 }

-- an idle tick fits only where nothing is pending
pub idle_fits : (set : List Task) (rule : Rule) (g : List Row) → fault set rule Idle g ≡ None → pending set g ≡ []
idle_fits set rule g h = go (pending set g) (parts_one _ _ h)
  where
    go : (is : List KeptRelease) → is_empty is ≡ true → is ≡ []
    go [] e = refl
    go (i ∷ is) e = cc

-- what the outcome of a tick that fits says of the job
pub data Hows (set : List Task) (rule : Rule) (g : List Row) (j : JobId) : How → Type 0 where
  more : used g j + 1 ≢ own_in (task_at set j.task.0) → ((is_virtual rule ≡ true) → high_mode rule g ≡ false → is_high_in (task_at set j.task.0) ≡ true → used g j + 1 ≢ low_in (task_at set j.task.0)) → Hows set rule g j More
  done : used g j + 1 ≤ own_in (task_at set j.task.0) → Hows set rule g j Done
  stop : used g j + 1 ≡ own_in (task_at set j.task.0) → Hows set rule g j Stop
  over : is_virtual rule ≡ true → high_mode rule g ≡ false → is_high_in (task_at set j.task.0) ≡ true → used g j + 1 ≡ low_in (task_at set j.task.0) → used g j + 1 ≢ own_in (task_at set j.task.0) → Hows set rule g j Over

-- More is right if the job is at neither budget
more_so : (eo c : Bool) → same_how More (cond eo Stop (cond c Over More)) ≡ true → (eo ≡ false) × (c ≡ false)
more_so true c h = cc
more_so false true h = cc
more_so false false h = (refl, refl)

-- Stop is right at the job's own budget
stop_so : (eo c : Bool) → same_how Stop (cond eo Stop (cond c Over More)) ≡ true → eo ≡ true
stop_so true c h = refl
stop_so false true h = cc
stop_so false false h = cc

-- Over is right at the low budget alone
over_so : (eo c : Bool) → same_how Over (cond eo Stop (cond c Over More)) ≡ true → (eo ≡ false) × (c ≡ true)
over_so true c h = cc
over_so false true h = (refl, refl)
over_so false false h = cc

-- Done is right up to the job's own budget
done_so : (le eo c : Bool) → ((true && le) || same_how Done (cond eo Stop (cond c Over More))) ≡ true → le ≡ true
done_so true eo c h = refl
done_so false true c h = cc
done_so false false true h = cc
done_so false false false h = cc

-- the four parts of an `and` that is true
all_four : (a b d e : Bool) → (((a && b) && not d) && e) ≡ true → (a ≡ true) × (b ≡ true) × (d ≡ false) × (e ≡ true)
all_four true true false true h = (refl, refl, refl, refl)
all_four false b d e h = cc
all_four true false d e h = cc
all_four true true true e h = cc
all_four true true false false h = cc

-- if an `and` of four is false, and its other parts are true, the last part is false
not_four : (a b d e : Bool) → (((a && b) && not d) && e) ≡ false → b ≡ true → d ≡ false → a ≡ true → e ≡ false
not_four true true false true h p q r = h
not_four true true false false h p q r = refl
not_four false b d e h p q r = cc
not_four true false d e h p q r = cc
not_four true true true e h p q r = cc

-- the outcome of a tick that fits has its case of `Hows`
pub hows : (set : List Task) (rule : Rule) (g : List Row) (j : JobId) (how : How) → is_allowed_how set rule g j how ≡ true → Hows set rule g j how
hows set rule g j More h =
    let p = more_so _ _ h in
    more (eqb-false _ _ p.0) (λ v m i. eqb-false _ _ (not_four _ _ _ _ p.1 v m i))
hows set rule g j Done h = done (leb-true _ _ (done_so _ _ _ h))
hows set rule g j Stop h = stop (eqb-true _ _ (stop_so _ _ h))
hows set rule g j Over h =
    let p = over_so _ _ h in
    let q = all_four _ _ _ _ p.1 in
    over q.1 q.2 q.0 (eqb-true _ _ q.3) (eqb-false _ _ p.0)
