-- When a rule holds for tasks, and the laws that tie it to the test.
use Rattle.std.specs.Prelude.{◌≡◌, ℕ, ◌+◌, ◌-◌, ◌*◌, ◌^◌, ◌<◌, ◌≤◌, ◌↔◌, ◌⊎◌, List, Option, Some, None, IsSome}
use Rattle.std.specs.List.{AllByRecursion}
use Rattle.mc_task.specs.declared.task.Task.{Task}
use Rattle.mc_task.specs.declared.task.Level.TheVariants.{Low}
use Rattle.mc_task.specs.declared.task.Scale.{Scale}
use Rattle.mc_task.specs.declared.task.Rule.{Rule}
use Rattle.mc_task.specs.declared.task.Rule.TheVariants.{Plain, Virtual}
use Rattle.mc_task.specs.TaskSet.{AreTasks, Set}
use Rattle.mc_model.specs.Loads.{product, load_ll, load_hl, load_hh}
use Rattle.mc_model.specs.Test.{published, test}

-- the inequalities under which the rule schedules U_LL = a/n, U_HL = b/n and U_HH = c/n:
-- U_LL + U_HH ≤ 1 for EDF; U_LL + U_HL/x ≤ 1 and x*U_LL + U_HH ≤ 1 for the scale x = p/q
abbrev pub HoldsOver : ℕ → ℕ → ℕ → ℕ → Rule → Type 0
HoldsOver n a b c Plain = a + c ≤ n
HoldsOver n a b c (Virtual p q) = (1 ≤ p) × (p ≤ q) × (p * a + q * b ≤ p * n) × (p * a + q * c ≤ q * n)

-- the rule holds for the tasks
abbrev pub Holds : List Task → Rule → Type 0
Holds tasks rule = HoldsOver (product tasks) (load_ll tasks) (load_hl tasks) (load_hh tasks) rule

-- the rule's scale is a fraction of at most 1 whose parts are at most 2^60
abbrev pub Fits : Rule → Type 0
Fits Plain = Unit {0}
Fits (Virtual p q) = (1 ≤ p) × (p ≤ q) × (q ≤ 2 ^ 60)

-- the rule of the test for a set, said by Holds: the rule of its scale if it has one that holds; otherwise
-- the rule of the published test
pub record IsRuleOf (set : Set) (rule : Option Rule) : Type 0 where
  pub scaled : (x : Scale) → set.scale ≡ Some x → Holds set.tasks (Virtual x.p x.q)
      → rule ≡ Some (Virtual x.p x.q)
  pub otherwise : ((x : Scale) → set.scale ≡ Some x → ¬ Holds set.tasks (Virtual x.p x.q))
      → rule ≡ published set.tasks

-- law: the test gives the rule of a set's scale if that holds, and otherwise the rule of the published test
abbrev pub TestByHolds : Type 0
TestByHolds = (set : Set) → IsRuleOf set (test set)

-- law: the rule of the published test holds
abbrev pub PublishedRuleHolds : Type 0
PublishedRuleHolds =
    (tasks : List Task) (rule : Rule) → AreTasks tasks → published tasks ≡ Some rule → Holds tasks rule

-- law: the rule of the test holds for the set's tasks
abbrev pub TestRuleHolds : Type 0
TestRuleHolds = (set : Set) (rule : Rule) → AreTasks set.tasks → test set ≡ Some rule → Holds set.tasks rule

-- law: tasks for which some rule holds are admitted
abbrev pub AdmittedIfHolds : Type 0
AdmittedIfHolds =
    (tasks : List Task) (rule : Rule) → AreTasks tasks → Holds tasks rule → IsSome (published tasks)

-- the inequalities of the scaled test, of x = U_HL / (1 - U_LL), over n: U_LL < 1 and x*U_LL + U_HH ≤ 1
abbrev pub PassesScaledOver : ℕ → ℕ → ℕ → ℕ → Type 0
PassesScaledOver n a b c = (a < n) × (a * b + c * (n - a) ≤ n * (n - a))

-- the tasks pass the scaled test, whether or not plain EDF holds for them
abbrev pub PassesScaled : List Task → Type 0
PassesScaled tasks = PassesScaledOver (product tasks) (load_ll tasks) (load_hl tasks) (load_hh tasks)

-- the tasks are all low, and their load is exactly 1
pub record AreLowWithLoad1 (tasks : List Task) : Type 0 where
  pub low : AllByRecursion (λ t. t.level ≡ Low) tasks
  pub load : load_ll tasks ≡ product tasks

-- law: plain EDF admits no tasks that the scaled test refuses, except low tasks whose load is exactly 1
abbrev pub EdfOrScaled : Type 0
EdfOrScaled =
    (tasks : List Task) → AreTasks tasks → Holds tasks Plain → PassesScaled tasks ⊎ AreLowWithLoad1 tasks

-- law: the scale of a set admits and refuses nothing: the test gives no rule exactly where the published test
-- gives none
abbrev pub NoneWherePublishedNone : Type 0
NoneWherePublishedNone = (set : Set) → AreTasks set.tasks → (test set ≡ None) ↔ (published set.tasks ≡ None)

-- U_LL + U_HL ≤ 3/4 and U_HH ≤ 3/4, where U_LL = a/n, U_HL = b/n and U_HH = c/n
abbrev pub IsThreeQuartersOver : ℕ → ℕ → ℕ → ℕ → Type 0
IsThreeQuartersOver n a b c = (4 * (a + b) ≤ 3 * n) × (4 * c ≤ 3 * n)

-- the tasks' loads are at most 3/4: U_LL + U_HL ≤ 3/4 and U_HH ≤ 3/4
abbrev pub IsThreeQuarters : List Task → Type 0
IsThreeQuarters tasks = IsThreeQuartersOver (product tasks) (load_ll tasks) (load_hl tasks) (load_hh tasks)

-- the 3/4 law: tasks with U_LL + U_HL ≤ 3/4 and U_HH ≤ 3/4 are admitted
abbrev pub ThreeQuartersLaw : Type 0
ThreeQuartersLaw = (tasks : List Task) → AreTasks tasks → IsThreeQuarters tasks → IsSome (published tasks)
