-- The greatest budgets of given tasks, task by task.
use Rattle.std.proofs.Common.{◌≡◌, ℕ, suc, ◌+◌, ◌<◌, inl, inr, sym, subst, ap, ◌∙◌, arith, List, length}
use Rattle.std.proofs.Math.ListN.{set}
use Rattle.std.proofs.lemmas.Bool.Decides.{leb_tells}
use Rattle.std.proofs.lemmas.List.{length-map}
use Rattle.mc_task.specs.declared.task.Task.{Task}
use Rattle.sensitivity.specs.declared.budget.GreatestBudgets.{GreatestBudgets}
use Rattle.sensitivity.specs.Budgets.{AreGreatestOf}
use Rattle.edfvd_c.specs.declared.sets.given.CTask.{CTask}
use Rattle.edfvd_c.specs.declared.sets.margins.CBudgets.{CBudgets}
use Rattle.edfvd_c.specs.Sets.Given.{AreOf, numbers_of}
use Rattle.edfvd_c.specs.Sets.Margins.{IsGreatestAt, budgets_of}
use Rattle.mc_model.proofs.Lists.{set_here, set_other}

-- there are as many tasks as are given
pub AreOf-length : (given : List CTask) (tasks : List Task) → AreOf given tasks → length given ≡ length tasks
AreOf-length given tasks numbers = sym (ap length numbers) ∙ length-map tasks numbers_of

-- the budgets before i are greatest ones, and then those of the next task are stored at i
pub greatest_more : (tasks : List Task) (budgets : List CBudgets) (i : ℕ) (g : GreatestBudgets) → i < length budgets → AreGreatestOf tasks (i + 1) g
    → ((k : ℕ) → k < i → IsGreatestAt tasks budgets k) → (k : ℕ) → k < i + 1 → IsGreatestAt tasks (set budgets i (budgets_of g)) k
greatest_more tasks budgets i g inside is before k below =
    elim (leb_tells (suc k) i) [
      | inl less ↦
          let (h, of, at) = before k less.1 in
          (h, of, set_other budgets i k (budgets_of g) (λ e. omega (arith, less.1, e)) ∙ at)
      | inr past ↦
          let same : i ≡ k = omega (arith, past.1, below) in
          subst (λ j. IsGreatestAt tasks (set budgets i (budgets_of g)) j) same (g, is, set_here budgets i (budgets_of g) inside)
    ]
