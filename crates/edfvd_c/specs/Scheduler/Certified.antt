-- The rule of a scheduler that is opened under a scale, which must hold.
use Rattle.std.specs.Prelude.{◌≡◌, ℕ, ◌^◌, ◌==◌, ◌&&◌, ◌||◌, Bool, not, nat_lt, MatchBool, List, Some, None}
use Rattle.mc_task.specs.declared.task.Task.{Task}
use Rattle.mc_task.specs.declared.task.Rule.{Rule}
use Rattle.mc_task.specs.declared.task.Rule.TheVariants.{Virtual}
use Rattle.mc_model.specs.Test.{published}
use Rattle.mc_model.specs.Holds.{Holds}
use Rattle.restart.specs.Restarted.{Restarted, opened}
use Rattle.mode_core.specs.Events.{empty_state}
use Rattle.edfvd_c.specs.declared.sets.given.CTask.{CTask}
use Rattle.edfvd_c.specs.declared.handle.held.Held.{Held}
use Rattle.edfvd_c.specs.Sets.Refused.{AreInRange}

-- p and q are neither 0 and 0, for the rule of the published test, nor a scale with 1 ≤ p ≤ q ≤ 2^60
abbrev pub is_no_scale : ℕ → ℕ → Bool
is_no_scale p q = nat_lt q p || (nat_lt (2 ^ 60) q || (p == 0 && not (q == 0)))

-- the rule for p and q: that of the published test where p is 0, and otherwise EDF-VD with the scale p/q, which holds
abbrev pub IsCertified : ℕ → ℕ → List Task → Rule → Type 0
IsCertified p q tasks rule =
    MatchBool (p == 0) (published tasks ≡ Some rule) ((rule ≡ Virtual p q) × Holds tasks (Virtual p q))

-- an opened scheduler, with or without an end: the tasks have the given numbers and are a set within range, the rule is the one
-- for p and q, and it has no rows
abbrev pub IsScaledOpening : (Restarted → Held) → List CTask → ℕ → ℕ → ℕ → Held → Type 0
IsScaledOpening kind given p q places made =
    (tasks : List Task) × (rule : Rule) × AreInRange given tasks × IsCertified p q tasks rule
    × (made ≡ kind (opened (empty_state tasks rule places)))

-- the given tasks are a set within range for which p and q give no rule: the published test gives none where p is 0, and
-- otherwise the scale p/q does not hold
abbrev pub AreUncertified : List CTask → ℕ → ℕ → Type 0
AreUncertified given p q =
    (tasks : List Task) × AreInRange given tasks × MatchBool (p == 0) (published tasks ≡ None) (Holds tasks (Virtual p q) → ⊥)
