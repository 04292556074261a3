-- What the published test says of given tasks, in numbers.
use Rattle.std.specs.Prelude.{◌≡◌, ℕ, ◌+◌, ◌*◌, ◌^◌, List, Option, Some, None}
use Rattle.mc_task.specs.declared.task.Task.{Task}
use Rattle.mc_task.specs.declared.task.Rule.{Rule}
use Rattle.mc_task.specs.declared.task.Rule.TheVariants.{Plain, Virtual}
use Rattle.load_sum.specs.declared.loads.Loads.{Loads}
use Rattle.load_sum.specs.Belong.{BelongTo}
use Rattle.mc_model.specs.Loads.{range_fault}
use Rattle.mc_model.specs.Test.{published}
use Rattle.edfvd_c.specs.declared.sets.given.CTask.{CTask}
use Rattle.edfvd_c.specs.declared.sets.tested.CTest.{CTest}
use Rattle.edfvd_c.specs.Sets.Given.{AreOf}

-- a number of two halves, of 64 bits each
abbrev pub whole : ℕ → ℕ → ℕ
whole top rest = 2 ^ 64 * top + rest

-- the loads that the halves stand for
abbrev pub loads_of : CTest → Loads
loads_of t = record {
  lcm = t.lcm;
  low_low = whole t.low_low_top t.low_low;
  high_low = whole t.high_low_top t.high_low;
  high_high = whole t.high_high_top t.high_high;
}

-- rule 0 is none, 1 plain EDF, and 2 EDF-VD with the scale p/q; without a scale p and q are 0
abbrev pub HasRule : Option Rule → CTest → Type 0
HasRule None t = (t.rule ≡ 0) × (t.p ≡ 0) × (t.q ≡ 0)
HasRule (Some Plain) t = (t.rule ≡ 1) × (t.p ≡ 0) × (t.q ≡ 0)
HasRule (Some (Virtual p q)) t = (t.rule ≡ 2) × (t.p ≡ p) × (t.q ≡ q)

-- the tasks have these numbers and are a set within range, the loads are theirs, the rule is that of the published test, and no
-- task is at fault
pub record IsTested (given : List CTask) (t : CTest) : Type 0 where
  pub tasks : List Task
  pub numbers : AreOf given tasks
  pub loads : BelongTo tasks (loads_of t)
  pub range : range_fault tasks ≡ None
  pub rule : HasRule (published tasks) t
  pub task : t.task ≡ 0

-- a result with the task of a refusal, and no other number
abbrev pub refused_at : ℕ → CTest
refused_at task = record {
  rule = 0;
  task = task;
  p = 0;
  q = 0;
  lcm = 0;
  low_low_top = 0;
  low_low = 0;
  high_low_top = 0;
  high_low = 0;
  high_high_top = 0;
  high_high = 0;
}
