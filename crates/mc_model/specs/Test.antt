-- The test of EDF-VD (Baruah et al., ECRTS 2012): EDF if its load fits, otherwise x = U_HL / (1 - U_LL).
-- This profile adds that plain EDF is tried first, and that a set may have a scale of its own.
use Rattle.std.specs.Prelude.{ℕ, ◌+◌, ◌-◌, ◌*◌, Bool, ◌&&◌, nat_lt, nat_le, if◌then◌else◌, List, Option, Some, None}
use Rattle.mc_task.specs.declared.task.Task.{Task}
use Rattle.mc_task.specs.declared.task.Scale.{Scale}
use Rattle.mc_task.specs.declared.task.Rule.{Rule}
use Rattle.mc_task.specs.declared.task.Rule.TheVariants.{Plain, Virtual}
use Rattle.mc_task.specs.TaskSet.{Set}
use Rattle.tick_frac.specs.Fraction.{lowest}
use Rattle.mc_model.specs.Loads.{product, load_ll, load_hl, load_hh}

-- the rule of the published test where U_LL = a/n, U_HL = b/n and U_HH = c/n
unfoldable pub rule_of : ℕ → ℕ → ℕ → ℕ → Option Rule
rule_of n a b c =
    if nat_le (a + c) n then Some Plain
    else if nat_lt a n && nat_le (a * b + c * (n - a)) (n * (n - a))
    then (let x = lowest b (n - a) in Some (Virtual x.num x.den))
    else None

-- the rule of the published test for the tasks; none if they are not admitted
unfoldable pub published : List Task → Option Rule
published tasks = rule_of (product tasks) (load_ll tasks) (load_hl tasks) (load_hh tasks)

-- whether the scale p/q holds where U_LL = a/n, U_HL = b/n and U_HH = c/n
unfoldable pub scale_holds_over : ℕ → ℕ → ℕ → ℕ → ℕ → ℕ → Bool
scale_holds_over n a b c p q =
    nat_le 1 p && (nat_le p q && (nat_le (p * a + q * b) (p * n) && nat_le (p * a + q * c) (q * n)))

-- whether the scale holds for the tasks
abbrev pub scale_holds : List Task → Scale → Bool
scale_holds tasks x = scale_holds_over (product tasks) (load_ll tasks) (load_hl tasks) (load_hh tasks) x.p x.q

-- the rule of the scale, if there is one and it holds for the tasks; otherwise the rule of the published test
abbrev pub scaled_or_published : List Task → Option Scale → Option Rule
scaled_or_published tasks None = published tasks
scaled_or_published tasks (Some x) = if scale_holds tasks x then Some (Virtual x.p x.q) else published tasks

-- the rule of the test for a set: by its scale or by the published test; none if the set is not admitted
unfoldable pub test : Set → Option Rule
test set = scaled_or_published set.tasks set.scale
