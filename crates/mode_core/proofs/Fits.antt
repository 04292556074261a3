-- The rows that the events add fit.
use Rattle.std.proofs.Common.{◌≡◌, ℕ, ◌+◌, ◌≤◌, Bool, true, false, List, [], ◌∷◌, Some, None, refl, sym, subst, arith, le-leb, le-ltb, eq-eqb, ne_eqb, inl, inr}
use Rattle.mc_model.proofs.Booleans.{or_true}
use Rattle.std.proofs.lemmas.Bool.{cases_eq, not_from_false}
use Rattle.mc_task.specs.declared.task.Rule.{Rule}
use Rattle.mc_task.specs.declared.task.Task.{Task}
use Rattle.mc_task.specs.declared.task.JobId.{JobId}
use Rattle.mc_model.specs.declared.row.How.{How}
use Rattle.mc_model.specs.declared.row.How.TheVariants.{More, Done, Stop, Over}
use Rattle.mc_model.specs.declared.row.Row.{Row}
use Rattle.mc_model.specs.declared.row.Row.TheVariants.{Release, Tick, Idle}
use Rattle.mc_model.specs.declared.verdict.Why.{Why}
use Rattle.mc_model.specs.declared.verdict.Why.TheVariants.{TooSoon, WrongCount, WrongKept, NotPending, NotLeast, WrongHow}
use Rattle.mode_core.proofs.Chosen.{Choice, choice, is_first, least, pending_one}
use Rattle.std.specs.List.{AllByRecursion}
use Rattle.std.proofs.Math.Bool.{beq}
use Rattle.mc_task.specs.TaskSet.{IsTask, task_at, IsIn}
use Rattle.mc_model.specs.TaskNumbers.{period_in, own_in}
use Rattle.mc_model.specs.Pending.{pending}
use Rattle.mc_model.specs.Rows.{ticks, used, releases, next_release, is_too_soon}
use Rattle.mc_model.specs.Mode.{high_mode}
use Rattle.mc_model.specs.Legal.{same_how, is_allowed_how, first_of_parts, how_of, is_least, is_pending, fault_among, Legal}
use Rattle.mc_model.specs.Core.{chosen, keeps, release_row, outcome_of}
use Rattle.mc_model.proofs.Lists.{Each}
use Rattle.mc_model.proofs.Jobs.{each_in}
use Rattle.mc_model.proofs.Steps.{release_fits}
use Rattle.mc_model.proofs.Live.{IsLiveOk, live_ok}
use Rattle.mc_model.proofs.Bridge.{IsBridged, bridge}

-- a release at the boundary from which it is allowed, or later, is not too soon
pub not_too_soon : (set : List Task) (rule : Rule) (now k : ℕ) (g : List Row) → Legal set rule g → next_release set g k ≤ now → is_too_soon set now g k ≡ false
not_too_soon set rule now k [] l n = refl
not_too_soon set rule now k (Release j kept ∷ g) l n = elim (cases_eq j.task.0 k) [
  | inl m ↦ let here : ticks g + period_in (task_at set k) ≤ now = rw (eq-eqb _ _ m) at n in
      let s : next_release set g k ≤ ticks g = subst (λ i. next_release set g i ≤ ticks g) m (release_fits set rule j kept g l.1).soon in
      rw (eq-eqb _ _ m, le-ltb _ _ here, not_too_soon set rule now k g l.2 (omega arith)) refl
  | inr m ↦ rw (ne_eqb _ _ m) (not_too_soon set rule now k g l.2 (rw (ne_eqb _ _ m) at n))
]
not_too_soon set rule now k (row ∷ g) l n = not_too_soon set rule now k g l.2 n

-- if three parts of a row hold, none of the parts fails
three : (a b c : Bool) (u v w : Why) → a ≡ true → b ≡ true → c ≡ true → first_of_parts ((a, u) ∷ (b, v) ∷ (c, w) ∷ []) ≡ None
three a b c u v w p q r = rw (p, q, r) refl

-- a truth value equals itself by the test
pub same_bool-refl : (b : Bool) → beq b b ≡ true
same_bool-refl true = refl
same_bool-refl false = refl

-- the row of a release that is not too soon is legal
pub release_legal : (set : List Task) (rule : Rule) (j : JobId) (g : List Row) → Legal set rule g → IsIn set j.task.0 → next_release set g j.task.0 ≤ ticks g → j.count ≡ releases g j.task.0 + 1 → Legal set rule (release_row set rule j g ∷ g)
release_legal set rule j g l i n c =
    let soon = not_from_false _ (not_too_soon set rule (ticks g) j.task.0 g l n) in
    (i, three _ _ _ TooSoon WrongCount WrongKept soon (eq-eqb _ _ c) (same_bool-refl (keeps set rule g j.task.0)), l)

-- an idle row is legal if no job is pending
pub idle_legal : (set : List Task) (rule : Rule) (g : List Row) → Legal set rule g → pending set g ≡ [] → Legal set rule (Idle ∷ g)
idle_legal set rule g l e = (tt, subst (λ xs. fault_among set rule xs Idle g ≡ None) (sym e) refl, l)

-- an outcome is the same as itself
same_how-refl : (h : How) → same_how h h ≡ true
same_how-refl h = elim h as (λ (i : How). same_how i i ≡ true) [ More ↦ refl | Done ↦ refl | Stop ↦ refl | Over ↦ refl ]

-- the outcome that is determined, or that the job is done, is allowed
allowed : (set : List Task) (rule : Rule) (g : List Row) (j : JobId) (done : Bool) → used g j + 1 ≤ own_in (task_at set j.task.0) → is_allowed_how set rule g j (outcome_of set rule g j done) ≡ true
allowed set rule g j true u = let t = le-leb _ _ u in rw t refl
allowed set rule g j false u = or_true _ _ (same_how-refl (how_of set rule g j (used g j + 1)))

-- each pending job is of the set, was released by now, and has a tick of its budget left
pub each_ok : (set : List Task) (rule : Rule) (h : List Row) → AllByRecursion IsTask set → Legal set rule h → Each (IsLiveOk set rule h) (pending set h)
each_ok set rule h s l = let b : IsBridged set rule h = bridge set rule h l in subst (Each (IsLiveOk set rule h)) (sym b.same) (live_ok set rule h s b.legal)

-- what is known of the chosen job
pub record Chooses (set : List Task) (rule : Rule) (g : List Row) (j : JobId) : Type 0 where
  pub inside : IsIn set j.task.0
  pub own : used g j + 1 ≤ own_in (task_at set j.task.0)
  pub waits : is_pending (pending set g) j ≡ true
  pub soonest : is_least set rule (high_mode rule g) (pending set g) j ≡ true

-- the chosen job has a tick of its budget left, is pending and has a least key
pub chooses : (set : List Task) (rule : Rule) (g : List Row) (j : JobId) → AllByRecursion IsTask set → Legal set rule g → chosen set rule g ≡ Some j → Chooses set rule g j
chooses set rule g j s l e =
    let c : Choice set rule g j = choice set rule g j e in
    let f = is_first set rule (high_mode rule g) (pending set g) c.kept c.first in
    let ok : IsLiveOk set rule g c.kept = each_in (IsLiveOk set rule g) c.kept (pending set g) f.inside (each_ok set rule g s l) in
    subst (Chooses set rule g) c.job (record {
      inside = ok.inside;
      own = ok.own;
      waits = pending_one c.kept (pending set g) f.inside;
      soonest = least set rule (high_mode rule g) (pending set g) c.kept f;
    })

-- the row of a tick of the chosen job is legal
pub tick_legal : (set : List Task) (rule : Rule) (j : JobId) (g : List Row) (done : Bool) → AllByRecursion IsTask set → Legal set rule g → chosen set rule g ≡ Some j → Legal set rule (Tick j (outcome_of set rule g j done) ∷ g)
tick_legal set rule j g done s l e =
    let c : Chooses set rule g j = chooses set rule g j s l e in
    (c.inside, three _ _ _ NotPending NotLeast WrongHow c.waits c.soonest (allowed set rule g j done c.own), l)
