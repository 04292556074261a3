use Rattle.std.proofs.Common.{◌≡◌, List, sym}
use Rattle.mc_task.specs.declared.task.Task.{Task}
use Rattle.tick_frac.specs.Fraction.{lowest}
use Rattle.tick_frac.proofs.Fractions.{lowest-scaled}
use Rattle.mc_model.specs.Loads.{product, load_hh}
use Rattle.load_sum.specs.declared.loads.Loads.{Loads}
use Rattle.load_sum.specs.Belong.{BelongTo}
use Rattle.load_sum.proofs.BelongTo.{IsScaled-from_BelongTo}
use Rattle.study.specs.Stretch.{at_percent}
use Rattle.study.specs.Loads.{with_high}
use Rattle.study_commands.specs.Stretch.{high_line}
use Rattle.study_commands.proofs.stretch.high_line.Goals as goal

-- the load of the high tasks, by loads that belong to the set
high-lowest : (set : List Task) (loads : Loads) → BelongTo set loads → lowest loads.high_high loads.lcm ≡ lowest (load_hh set) (product set)
high-lowest set loads b = let (k, s) = IsScaled-from_BelongTo set loads b in rw (s.high_high, s.periods) (sym (lowest-scaled k _ _ s.above))

pub returns : goal.returns
unfolding high_line
returns c =
    let same = high-lowest (at_percent c.args.set.now.tasks c.args.s) (with_high c.args.loads.now c.high_at.result) c.high_at.ensures in
    rw (← same, ← c.from.ensures, ← c.new-load.ensures.value) c.format.ensures.ok
