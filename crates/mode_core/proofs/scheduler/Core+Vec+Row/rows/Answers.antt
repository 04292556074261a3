use Rattle.std.proofs.Common.{◌≡◌, All, List, reverse, subst, ap, ◌∙◌, sym}
use Rattle.std.proofs.lemmas.List.{reverse-reverse}
use Rattle.mc_model.specs.declared.row.Row.{Row}
use Rattle.mc_model.specs.Legal.{IsOfSet}
use Rattle.mc_model.proofs.Traces.{rows_of_legal}
use Rattle.mode_core.proofs.scheduler.Core+Vec+Row.rows.Goals as goal

pub returns-clause-of_set : goal.returns-clause-of_set
returns-clause-of_set c =
    let shown : c.deref.result.now ≡ reverse c.args.self.now.rows =
    c.deref.ensures.value ∙ sym (reverse-reverse c.recorder.result.now.items) ∙ ap reverse c.recorder.ensures.rows in
    subst (λ (rows : List Row). All (IsOfSet c.args.self.now.set) rows) (sym shown) (rows_of_legal _ _ _ c.recorder.ensures.legal)
