-- Whether a level is high, and whether a rule is EDF-VD.
use Rattle.std.specs.Prelude.{Bool, true, false}
use Rattle.mc_task.specs.declared.task.Level.{Level}
use Rattle.mc_task.specs.declared.task.Level.TheVariants.{Low, High}
use Rattle.mc_task.specs.declared.task.Rule.{Rule}
use Rattle.mc_task.specs.declared.task.Rule.TheVariants.{Plain, Virtual}

-- whether the level is high
abbrev pub is_high : Level → Bool
is_high Low = false
is_high High = true

-- whether the rule is EDF-VD, and not plain EDF
abbrev pub is_virtual : Rule → Bool
is_virtual Plain = false
is_virtual (Virtual p q) = true
