-- The newest call of a pass that released its task.
use Rattle.std.proofs.Common.{◌∙◌, sym, ap, [], ◌∷◌, ◌++◌, Result, Ok, Err, IfOk}
use Rattle.mode_core.specs.declared.answers.Released.{Released}
use Rattle.mode_core.specs.declared.answers.ReleaseFault.{ReleaseFault}
use Rattle.timetable.specs.declared.acts.ActFault.{ActFault}
use Rattle.executive.specs.declared.entry.Call.TheVariants as call
use Rattle.executive.specs.declared.entry.Answer.TheVariants as answer
use Rattle.executive.specs.Histories.{entry}
use Rattle.executive.specs.Passes.{PassState, Calls}
use Rattle.executive.specs.Gates.{HasReleased}

pub has_released : (r : Result Released (ActFault ReleaseFault)) (old new : PassState) → Calls call.Release (answer.Released r) old new → IfOk r (λ x. HasReleased new)
has_released (Err fault) old new calls = tt
has_released (Ok x) old new calls = record {
  before = old.lists.mine;
  released = x;
  newest = calls.adds.makes ∙ ap (λ k. old.lists.mine ++ entry k call.Release (answer.Released (Ok x)) ∷ []) (sym calls.task);
}
