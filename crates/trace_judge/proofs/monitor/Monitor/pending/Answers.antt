use Rattle.std.proofs.Common.{◌^◌, ◌<◌, length, ap, subst, sym, ◌∙◌, rules}
use Rattle.mc_model.specs.Pending.{pending}
use Rattle.trace_judge.specs.Watched.{Watched, Watches, fitted}
use Rattle.trace_judge.proofs.Watching.{pending_count}
use Rattle.trace_judge.proofs.monitor.Monitor.pending.Goals as goal

pub returns : goal.returns
returns c h w =
    let k = subst (Watches h) (sym c.self.view_is) w in
    let room : c.self.inside.state.rows < 2 ^ 64 = search rules in
    c.count.ensures ∙ (pending_count c.self.inside.set.tasks c.self.inside.rule (fitted c.self.inside.set.tasks c.self.inside.rule h) c.self.inside.state k.legal k.tracks room
    ∙ ap (λ (m : Watched). length (pending m.set.tasks (fitted m.set.tasks m.rule h))) c.self.view_is)
