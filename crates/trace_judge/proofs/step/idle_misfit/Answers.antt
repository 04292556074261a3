use Rattle.std.proofs.Common.{◌≡◌, ◌≢◌, ◌∙◌, [], sym, rules, length, map, ap}
use Rattle.std.proofs.lemmas.List.{nil_from_length}
use Rattle.mc_model.specs.Legal.{is_empty}
use Rattle.mc_model.proofs.Repeats.{idle_legal}
use Rattle.trace_judge.specs.Placed.{waiting}
use Rattle.trace_judge.proofs.Placed.{kept_of, pending_is}
use Rattle.trace_judge.proofs.Ticks.{at_first}
use Rattle.trace_judge.proofs.Faults.{idle_some, same_length}
use Rattle.trace_judge.proofs.step.idle_misfit.Goals as goal

pub returns-then-is_empty : goal.returns-then-is_empty
returns-then-is_empty c set rule g l t =
    let h : length c.args.state.now.waiting.entries ≡ 0 = search rules in
    let none : waiting set g ≡ [] = nil_from_length (waiting set g) (sym (same_length set rule g c.args.state.now t) ∙ h) in
    idle_legal set rule c.args.length g l (ap is_empty (pending_is set rule g l ∙ ap (map kept_of) none))

pub returns-else-is_empty : goal.returns-else-is_empty
returns-else-is_empty c set rule g l t =
    at_first set rule _ g _ _ c.first.ensures c.requires.is_run l (idle_some set rule g c.args.state.now l t (let h : length c.args.state.now.waiting.entries ≢ 0 = search rules in h))
