-- What `check` writes: the loads, the rule of the test, and the scale of the set if it does not hold.
use Rattle.std.specs.Prelude.{ℕ, if◌then◌else◌, List, [], ◌++◌, length, Option, None, Some, codes, decimal}
use Rattle.mc_task.specs.declared.task.Task.{Task}
use Rattle.mc_task.specs.declared.task.Scale.{Scale}
use Rattle.mc_task.specs.declared.task.Rule.{Rule}
use Rattle.mc_task.specs.declared.task.Rule.TheVariants.{Plain, Virtual}
use Rattle.mc_task.specs.TaskSet.{Set}
use Rattle.tick_frac.specs.Fraction.{lowest, fraction_text}
use Rattle.mc_model.specs.Loads.{product, load_ll, load_hl, load_hh}
use Rattle.mc_model.specs.Test.{scale_holds}

-- the lines that name a rule
unfoldable pub rule_text : Rule → List ℕ
rule_text Plain = codes "rule plain\n"
rule_text (Virtual p q) = codes "rule virtual\nx " ++ (decimal p ++ (codes "/" ++ (decimal q ++ codes "\n")))

-- the three loads over n, with this gap between them
unfoldable pub load_texts : List ℕ → ℕ → ℕ → ℕ → ℕ → List ℕ
load_texts gap n a b c =
    codes "U_LL "
    ++ (fraction_text (lowest a n)
    ++ (gap ++ (codes "U_HL "
    ++ (fraction_text (lowest b n) ++ (gap ++ (codes "U_HH " ++ fraction_text (lowest c n)))))))

-- the three loads of the tasks as text, with this gap between them
abbrev pub set_load_texts : List ℕ → List Task → List ℕ
set_load_texts gap tasks = load_texts gap (product tasks) (load_ll tasks) (load_hl tasks) (load_hh tasks)

-- the line of a scale that does not hold
unfoldable pub scale_text : Scale → List ℕ
scale_text x = codes "scale " ++ (decimal x.p ++ (codes "/" ++ (decimal x.q ++ codes " does not hold\n")))

-- the line of a scale that does not hold for the tasks; empty if there is no scale, or it holds
abbrev pub unheld_text : List Task → Option Scale → List ℕ
unheld_text tasks None = []
unheld_text tasks (Some x) = if scale_holds tasks x then [] else scale_text x

-- the text of an admitted set and its rule
unfoldable pub check_text : Set → Rule → List ℕ
check_text set rule =
    codes "tasks "
    ++ (decimal (length set.tasks)
    ++ (codes "\n" ++ (set_load_texts (codes "\n") set.tasks
    ++ (codes "\n" ++ (rule_text rule ++ unheld_text set.tasks set.scale)))))

-- the line of tasks that are not admitted
unfoldable pub not_admitted_text : List Task → List ℕ
not_admitted_text tasks = codes "not admitted: " ++ (set_load_texts (codes " ") tasks ++ codes "\n")
