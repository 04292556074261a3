use Rattle.std.proofs.Common.{◌≡◌, ◌∙◌, ◌+◌, cond, Bool, true, ap, sym}
use Rattle.mc_model.specs.Rows.{ticks}
use Rattle.timetable.specs.Floor.{FloorState}
use Rattle.status_board.specs.declared.shown.Shown.{Shown}
use Rattle.executive.specs.Histories.{answer_to}
use Rattle.executive.specs.Shows.{ends_tick}
use Rattle.executive.proofs.Shows.{ticks_law}
use Rattle.executive.proofs.state.State.act.Goals as goal

pub show-requires-clause-next : goal.show-requires-clause-next
show-requires-clause-next c =
    let f = c.args.self.now.called.floor in
    let ends : ends_tick (answer_to f c.args.task.0 c.args.call) ≡ true = ap ends_tick (sym c.answer-answer.ensures.answer) ∙ (sym c.ends_tick.ensures ∙ c.if-ends_tick.true) in (
      ticks f.core.rows,
      c.requires.shown,
      ap (λ (x : Shown). x.ticks) c.shown.ensures.shown
          ∙ (ap (λ (x : FloorState). ticks x.core.rows) c.answer-answer.ensures.floor
          ∙ (ticks_law f c.args.task.0 c.args.call ∙ ap (λ (b : Bool). ticks f.core.rows + cond b 1 0) ends)),
    )
