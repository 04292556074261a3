-- The job that runs first is pending, and none runs before it.
use Rattle.std.proofs.Common.{◌≡◌, Bool, true, false, ◌&&◌, List, [], ◌∷◌, Some, None, nat_le, refl, subst, arith, inl, inr}
use Rattle.std.specs.List.{list_all}
use Rattle.std.proofs.lemmas.Bool.{cases_Bool}
use Rattle.std.proofs.lemmas.Bool.Decides.{nat_tests}
use Rattle.std.proofs.lemmas.Option.{same_Some}
use Rattle.mc_task.specs.declared.task.Rule.{Rule}
use Rattle.mc_task.specs.declared.task.Task.{Task}
use Rattle.mc_task.specs.declared.task.JobId.{JobId}
use Rattle.mc_model.specs.declared.row.Row.{Row}
use Rattle.mc_model.specs.Pending.{KeptRelease, pending}
use Rattle.mc_model.specs.Rows.{same_job}
use Rattle.mc_model.specs.Mode.{high_mode}
use Rattle.mc_model.specs.Key.{key}
use Rattle.mc_model.specs.Legal.{none_below, is_least, is_pending}
use Rattle.mc_model.specs.Core.{runs_before, first_of_two, first_to_run, chosen}
use Rattle.mc_model.proofs.Booleans.{or_true}
use Rattle.mc_model.proofs.Jobs.{is_in, any_in, same_job-refl, head_in}
use Rattle.mc_model.proofs.Lists.{Each, Each-map}
use Rattle.mode_core.proofs.Options.{mapped, no_map}

-- no job runs before itself
runs-self : (set : List Task) (rule : Rule) (high : Bool) (x : KeptRelease) → runs_before set rule high x x ≡ false
runs-self set rule high x = grind (arith, nat_tests)

-- of two jobs at most one runs before the other
runs-back : (set : List Task) (rule : Rule) (high : Bool) (x y : KeptRelease) → runs_before set rule high x y ≡ true → runs_before set rule high y x ≡ false
runs-back set rule high x y h = grind (arith, nat_tests)

-- if z does not run before y, and y does not run before x, then z does not run before x
runs-trans : (set : List Task) (rule : Rule) (high : Bool) (x y z : KeptRelease) →
    runs_before set rule high z y ≡ false → runs_before set rule high y x ≡ false → runs_before set rule high z x ≡ false
runs-trans set rule high x y z h k = grind (arith, nat_tests)

-- a job that does not run before x has no lesser key than x, by the test
not_less : (set : List Task) (rule : Rule) (high : Bool) (x y : KeptRelease) →
    runs_before set rule high y x ≡ false → nat_le (key set rule high x) (key set rule high y) ≡ true
not_less set rule high x y h = grind (arith, nat_tests)

-- x is of the list, and none of the list runs before it
pub record IsFirst (set : List Task) (rule : Rule) (high : Bool) (xs : List KeptRelease) (x : KeptRelease) : Type 0 where
  pub inside : is_in xs x ≡ true
  pub none_before : Each (λ i. runs_before set rule high i x ≡ false) xs

-- the job that runs first is of the list, and none of the list runs before it
pub is_first : (set : List Task) (rule : Rule) (high : Bool) (xs : List KeptRelease) (x : KeptRelease) → first_to_run set rule high xs ≡ Some x → IsFirst set rule high xs x
is_first set rule high [] x e = cc
is_first set rule high (i ∷ []) x e =
    subst (IsFirst set rule high (i ∷ [])) (same_Some i x e) (record { inside = head_in i []; none_before = (runs-self set rule high i, tt) })
is_first set rule high (i ∷ k ∷ ks) x e =
    let y = first_of_two set rule high k (first_to_run set rule high ks) in
    let f = is_first set rule high (k ∷ ks) y refl in
    elim (cases_Bool (runs_before set rule high y i)) [
      | inl m ↦ subst (IsFirst set rule high (i ∷ k ∷ ks)) (same_Some y x (rw m at e))
          (record { inside = or_true _ _ f.inside; none_before = (runs-back set rule high y i m, f.none_before) })
      | inr m ↦ subst (IsFirst set rule high (i ∷ k ∷ ks)) (same_Some i x (rw m at e)) (record {
        inside = head_in i (k ∷ ks);
        none_before =
            (runs-self set rule high i, Each-map {P = λ z. runs_before set rule high z y ≡ false} (λ z r. runs-trans set rule high i y z r m) (k ∷ ks) f.none_before);
      })
    ]

-- if each job passes a test, the test of all jobs is true
pub all_from : (p : KeptRelease → Bool) (xs : List KeptRelease) → Each (λ x. p x ≡ true) xs → list_all p xs ≡ true
all_from p [] h = refl
all_from p (x ∷ xs) h = let a = h.0 in rw a (all_from p xs h.1)

-- the job that runs first has a least key
pub least : (set : List Task) (rule : Rule) (high : Bool) (xs : List KeptRelease) (x : KeptRelease) → IsFirst set rule high xs x → is_least set rule high xs x.job ≡ true
least set rule high xs x f =
    let below : none_below set rule high (key set rule high x) xs ≡ true =
    all_from (λ i. nat_le (key set rule high x) (key set rule high i)) xs
    (Each-map {P = λ i. runs_before set rule high i x ≡ false} (not_less set rule high x) xs f.none_before) in
    any_in (λ i. same_job x.job i.job && none_below set rule high (key set rule high i) xs) x xs f.inside (rw (same_job-refl x.job, below) refl)

-- a job of the list is one of the pending jobs
pub pending_one : (x : KeptRelease) (xs : List KeptRelease) → is_in xs x ≡ true → is_pending xs x.job ≡ true
pending_one x xs e = any_in (λ i. same_job x.job i.job) x xs e (same_job-refl x.job)

-- the pending job that is chosen
pub record Choice (set : List Task) (rule : Rule) (h : List Row) (j : JobId) : Type 0 where
  pub kept : KeptRelease
  pub first : first_to_run set rule (high_mode rule h) (pending set h) ≡ Some kept
  pub job : kept.job ≡ j

-- a job that is chosen is one that runs first
pub choice : (set : List Task) (rule : Rule) (h : List Row) (j : JobId) → chosen set rule h ≡ Some j → Choice set rule h j
choice set rule h j e =
    let m = mapped (λ (i : KeptRelease). i.job) (first_to_run set rule (high_mode rule h) (pending set h)) j e in
    record { kept = m.0; first = m.1; job = m.2 }

-- if no job of the list runs first, the list is empty
pub none_runs : (set : List Task) (rule : Rule) (high : Bool) (xs : List KeptRelease) → first_to_run set rule high xs ≡ None → xs ≡ []
none_runs set rule high [] e = refl
none_runs set rule high (x ∷ xs) e = cc

-- if no job is chosen, no job is pending
pub none_pending : (set : List Task) (rule : Rule) (h : List Row) → chosen set rule h ≡ None → pending set h ≡ []
none_pending set rule h e = none_runs set rule (high_mode rule h) (pending set h) (no_map (λ (i : KeptRelease). i.job) _ e)
