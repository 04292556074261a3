-- The mode: high between an overrun and the next idle tick. The newest row stands first.
use Rattle.std.specs.Prelude.{Bool, true, false, ◌&&◌, ◌||◌, List, [], ◌∷◌}
use Rattle.mc_task.specs.declared.task.Rule.{Rule}
use Rattle.mc_task.specs.Kinds.{is_virtual}
use Rattle.mc_model.specs.declared.row.How.{How}
use Rattle.mc_model.specs.declared.row.How.TheVariants.{Over}
use Rattle.mc_model.specs.declared.row.Row.{Row}
use Rattle.mc_model.specs.declared.row.Row.TheVariants.{Release, Tick, Idle}

-- whether the tick ended with an overrun
abbrev pub is_over : How → Bool
is_over Over = true
is_over _ = false

-- whether the mode is high: under Virtual, an Over row stands after the last Idle row
abbrev pub high_mode : Rule → List Row → Bool
high_mode rule [] = false
high_mode rule (Release j kept ∷ g) = high_mode rule g
high_mode rule (Tick j how ∷ g) = (is_virtual rule && is_over how) || high_mode rule g
high_mode rule (Idle ∷ g) = false
