-- The job that runs first is the choice.
use Rattle.std.proofs.Common.{◌≡◌, Bool, true, false, List, [], ◌∷◌, Option, Some, None, Contains, refl, sym, subst, arith, inl, inr}
use Rattle.std.proofs.lemmas.Bool.{cases_Bool}
use Rattle.std.proofs.lemmas.Bool.Decides.{nat_tests}
use Rattle.std.proofs.lemmas.List.Elements.{All-from_recursion, Contains-append_right}
use Rattle.mc_task.specs.declared.task.Rule.{Rule}
use Rattle.mc_task.specs.declared.task.Task.{Task}
use Rattle.mc_task.specs.declared.task.JobId.{JobId}
use Rattle.mc_model.specs.declared.row.Row.{Row}
use Rattle.mc_model.specs.Mode.{high_mode}
use Rattle.mc_model.specs.Pending.{KeptRelease, pending}
use Rattle.mc_model.specs.Core.{runs_before, chosen}
use Rattle.mc_model.proofs.Lists.{Each-map}
use Rattle.mc_model.proofs.Jobs.{same_live, is_in, live_eq}
use Rattle.mode_core.specs.Choice.{MayWait, IsChoice}
use Rattle.mode_core.proofs.Chosen.{is_first, Choice, choice, none_pending}

-- a job that does not run before x may wait for it
may_wait : (set : List Task) (rule : Rule) (high : Bool) (x y : KeptRelease) → runs_before set rule high y x ≡ false → MayWait set rule high x y
may_wait set rule high x y r = record { order = grind (arith, nat_tests); tie = λ e. grind (arith, nat_tests) }

-- a pending job that `is_in` finds in a list is an element of the list
contained : (x : KeptRelease) (xs : List KeptRelease) → is_in xs x ≡ true → Contains xs x
contained x [] e = cc
contained x (y ∷ ys) e = elim (cases_Bool (same_live x y)) [
  | inl m ↦ subst (λ (z : KeptRelease). Contains (y ∷ ys) z) (sym (live_eq x y m)) (0, omega arith, refl)
  | inr m ↦ Contains-append_right (y ∷ []) ys x (contained x ys (rw m at e))
]

-- the chosen job is the choice
pub choice_of : (set : List Task) (rule : Rule) (h : List Row) (o : Option JobId) → o ≡ chosen set rule h → IsChoice set rule h o
choice_of set rule h None e = none_pending set rule h (sym e)
choice_of set rule h (Some j) e =
    let c : Choice set rule h j = choice set rule h j (sym e) in
    let f = is_first set rule (high_mode rule h) (pending set h) c.kept c.first in
    record {
      kept = c.kept;
      of_job = c.job;
      waiting = contained c.kept (pending set h) f.inside;
      others = All-from_recursion (MayWait set rule (high_mode rule h) c.kept) (pending set h) (Each-map {P = λ i. runs_before set rule (high_mode rule h) i c.kept ≡ false} (λ y r. may_wait set rule (high_mode rule h) c.kept y r) (pending set h) f.none_before);
    }
