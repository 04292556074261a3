use Rattle.std.proofs.Common.{◌≡◌, ◌≢◌, ◌∙◌, [], sym, rules, length, map, ap}
use Rattle.std.proofs.lemmas.List.{nil_from_length}
use Rattle.mc_model.specs.Legal.{is_empty}
use Rattle.mc_model.proofs.Repeats.{idle_legal}
use Rattle.mc_model.specs.declared.run.Run.TheVariants as run
use Rattle.trace_judge.specs.Placed.{waiting}
use Rattle.trace_judge.proofs.Placed.{kept_of, pending_is}
use Rattle.trace_judge.proofs.Ticks.{at_first, at_first_tracks}
use Rattle.trace_judge.proofs.Faults.{idle_some, same_length}
use Rattle.trace_judge.proofs.Keeps.{keeps_rest}
use Rattle.trace_judge.proofs.step.idle.Goals as goal

pub returns-then-not-is_empty : goal.returns-then-not-is_empty
returns-then-not-is_empty c g l t = (
  at_first c.args.set.now.tasks c.args.rule _ g _ _ c.first.ensures c.requires.is_run l (idle_some c.args.set.now.tasks c.args.rule g c.args.state.now l t (let h : length c.args.state.now.waiting.entries ≢ 0 = search rules in h)),
  at_first_tracks c.args.set.now.tasks c.args.rule (run.Idles c.args.length) g c.args.state.now _ _ c.first.ensures t,
)

pub returns : goal.returns
returns c g l t =
    let h : length c.args.state.now.waiting.entries ≡ 0 = search rules in
    let none : waiting c.args.set.now.tasks g ≡ [] = nil_from_length (waiting c.args.set.now.tasks g)
    (sym (same_length c.args.set.now.tasks c.args.rule g c.args.state.now t) ∙ h) in (
      idle_legal c.args.set.now.tasks c.args.rule c.args.length g l (ap is_empty (pending_is c.args.set.now.tasks c.args.rule g l ∙ ap (map kept_of) none)),
      keeps_rest c.args.set.now.tasks c.args.rule g c.args.state.now _ c.args.length c.requires.is_run none t c.rest.ensures,
    )
