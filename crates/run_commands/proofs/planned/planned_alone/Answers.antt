use Rattle.std.proofs.Common.{◌≡◌, ◌∙◌, ap, sym}
use Rattle.executive.specs.Stands.{opening_of}
use Rattle.run_commands.proofs.PlannedTrace.{is_planned}
use Rattle.run_commands.proofs.planned.planned_alone.Goals as goal

pub returns : goal.returns
returns c =
    let began = c.in_ok-floor.ensures.opening in
    let same : opening_of c.finish.new.self ≡ c.in_ok-floor.floor = ap opening_of c.finish.ensures.stays ∙ (ap opening_of began ∙ sym began) in
    is_planned c.args.job c.args.ticks.now c.in_ok-floor.floor c.finish.new.self began same c.finish.ensures.trace c.in_ok-floor.ensures.ticks c.in_ok-floor.ensures.work
