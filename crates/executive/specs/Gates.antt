-- What holds of a pass when a gate is called.
use Rattle.std.specs.Prelude.{◌≡◌, List, [], ◌∷◌, ◌++◌, Ok}
use Rattle.mode_core.specs.declared.answers.Released.{Released}
use Rattle.executive.specs.declared.entry.Call.TheVariants as call
use Rattle.executive.specs.declared.entry.Answer.TheVariants as answer
use Rattle.executive.specs.declared.entry.Entry.{Entry}
use Rattle.executive.specs.Histories.{entry}
use Rattle.executive.specs.Passes.{PassState}

-- the newest call of the pass is a release that the floor took
pub record HasReleased (p : PassState) : Type 0 where
  pub before : List Entry
  pub released : Released
  pub newest : p.lists.mine ≡ before ++ entry p.task call.Release (answer.Released (Ok released)) ∷ []
