use Rattle.std.proofs.Common.{◌≡◌, List, [], ◌∷◌, ◌++◌, false, ap, ◌∙◌, subst, arith}
use Rattle.executive.specs.declared.pass.TaskPass.{TaskPass}
use Rattle.executive.specs.Closing.{has_pass}
use Rattle.calling_examples.proofs.Passes.{none_missing}
use Rattle.calling_examples.proofs.watched.finished.Goals as goal

pub unreachable-requires : goal.unreachable-requires
unreachable-requires g c =
    let missing = c.in-Err.ensures.missing in
    let passes = c.requires.passes in
    let items = c.push_reserved-2.ensures.items ∙ ap (λ (ps : List TaskPass). ps ++ c.args.second ∷ []) c.push_reserved.ensures.items in
    let none = subst (λ (ps : List TaskPass). has_pass ps c.in-Err._unclosed.task.0 ≡ false) items missing.none in
    none_missing c.args.list.items c.args.first c.args.second c.in-Err._unclosed.task.0 passes.0.1 passes.1.1 missing.in_set.0 (omega (arith, missing.in_set.1, c.requires.floor.two)) none
