-- The mode of a chart is that of the rule: under plain EDF no Over row is legal.
use Rattle.std.proofs.Common.{◌≡◌, Bool, ◌&&◌, ◌||◌, List, [], ◌∷◌, refl, ap₂}
use Rattle.mc_task.specs.declared.task.Rule.{Rule}
use Rattle.mc_task.specs.declared.task.Rule.TheVariants.{Plain}
use Rattle.mc_task.specs.declared.task.Task.{Task}
use Rattle.mc_task.specs.declared.task.JobId.{JobId}
use Rattle.mc_model.specs.declared.row.How.{How}
use Rattle.mc_model.specs.declared.row.How.TheVariants.{Over}
use Rattle.mc_model.specs.declared.row.Row.{Row}
use Rattle.mc_model.specs.declared.row.Row.TheVariants.{Release, Tick, Idle}
use Rattle.mc_task.specs.Kinds.{is_virtual}
use Rattle.mc_model.specs.Mode.{is_over}
use Rattle.sched_chart.specs.ChartText.{ChartedModeLaw}
use Rattle.mc_model.proofs.Bridge.{bridge}
use Rattle.mc_model.proofs.Steps.{Hows, over, hows, tick_fits}

-- a tick that fits is an overrun only under EDF-VD
over_is_virtual : (set : List Task) (rule : Rule) (g : List Row) (j : JobId) (how : How) → Hows set rule g j how → is_over how ≡ (is_virtual rule && is_over how)
over_is_virtual set Plain g j Over (over v m y e a) = absurd (cc)
over_is_virtual set rule g j how h = refl

pub charted_mode : ChartedModeLaw
charted_mode set rule [] l = refl
charted_mode set rule (Release j kept ∷ g) l = charted_mode set rule g l.2
charted_mode set rule (Idle ∷ g) l = refl
charted_mode set rule (Tick j how ∷ g) l =
    let fits = tick_fits set rule j how g ((bridge set rule (Tick j how ∷ g) l).legal.1) in
    ap₂ (λ (a b : Bool). a || b) (over_is_virtual set rule g j how (hows set rule g j how fits.how_so)) (charted_mode set rule g l.2)
