-- The scales that hold for given tasks, in numbers.
use Rattle.std.proofs.Common.{◌≡◌, sym, subst, List, None}
use Rattle.mc_task.specs.declared.task.Task.{Task}
use Rattle.mc_task.specs.declared.task.Rule.TheVariants.{Virtual}
use Rattle.mc_task.specs.TaskSet.{AreTasks}
use Rattle.mc_model.specs.Holds.{Holds}
use Rattle.mc_model.specs.Loads.{range_fault}
use Rattle.tick_frac.specs.Fraction.{Fraction, IsLowest}
use Rattle.sensitivity.specs.Scales.{HoldBetween}
use Rattle.edfvd_c.specs.declared.sets.given.CTask.{CTask}
use Rattle.edfvd_c.specs.declared.sets.margins.CScaleRange.{CScaleRange}
use Rattle.edfvd_c.specs.Sets.Given.{AreOf}
use Rattle.edfvd_c.specs.Sets.Margins.{AreScales, least_of, greatest_of}

-- the numbers of two fractions between which the scales hold
pub AreScales-of : (given : List CTask) (tasks : List Task) (s : CScaleRange) (least greatest : Fraction) → least_of s ≡ least → greatest_of s ≡ greatest
    → AreOf given tasks → AreTasks tasks → range_fault tasks ≡ None → HoldBetween least greatest tasks → Holds tasks (Virtual greatest.num greatest.den) → IsLowest least → IsLowest greatest
    → AreScales given s
AreScales-of given tasks s least greatest l g numbers are range between holds low high = record {
  tasks = tasks;
  numbers = numbers;
  set = are;
  range = range;
  between = subst (λ (f : Fraction). HoldBetween f (greatest_of s) tasks) (sym l) (subst (λ (f : Fraction). HoldBetween least f tasks) (sym g) between);
  greatest = subst (λ (f : Fraction). Holds tasks (Virtual f.num f.den)) (sym g) holds;
  least_lowest = subst (λ (f : Fraction). IsLowest f) (sym l) low;
  greatest_lowest = subst (λ (f : Fraction). IsLowest f) (sym g) high;
}
