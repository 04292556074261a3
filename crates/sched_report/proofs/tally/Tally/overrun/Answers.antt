use Rattle.std.proofs.Common.{◌≡◌, ◌-◌, length, map, set, refl, ap, ◌∙◌, arith}
use Rattle.std.proofs.lemmas.List.{take_at}
use Rattle.std.proofs.lemmas.Option.{get_or_from_slice_get}
use Rattle.mc_model.specs.declared.row.How.TheVariants.{Over}
use Rattle.sched_report.specs.TaskTally.{with_switch, with_tick}
use Rattle.sched_report.proofs.tally.Tally.overrun.Goals as goal

pub returns : goal.returns
returns c = λ t f.
    let here : c.index.result.now ≡ t = c.index.ensures ∙ get_or_from_slice_get c.args.self.now.tasks.items (c.args.job.task.0 - 1) t c.index.result.now f in
    let long : length c.switch_all.new.tasks ≡ c.args.self.now.tasks.len = omega (arith, c.switch_all.auto.tasks, c.deref_mut.ensures.len) in
    record {
      tasks =
          take_at c.switch_all.new.tasks _ c.args.self.now.tasks.len long
          ∙ (c.switch_all.ensures
          ∙ ap (map with_switch) c.deref_mut.ensures.value
          ∙ ap (λ x. map with_switch (set c.args.self.now.tasks.items (c.args.job.task.0 - 1) x)) (c.with_tick.ensures ∙ ap (with_tick Over) here));
      waiting = c.discard.ensures.high;
      tick = refl;
      idle = refl;
      switches = refl;
    }
