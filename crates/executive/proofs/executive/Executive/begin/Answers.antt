use Rattle.std.proofs.Common.{rules, ℕ, ◌≡◌, ◌∙◌, ◌++◌, ◌∷◌, [], List, sym, ap, subst, refl, option_map}
use Rattle.turnstile.specs.History.{made_by}
use Rattle.turnstile.specs.Seats.{mine, history}
use Rattle.timetable.specs.Floor.{FloorState}
use Rattle.mc_task.specs.TaskSet.{IsIn}
use Rattle.mc_model.specs.Rows.{ticks}
use Rattle.status_board.specs.Tokens.{writer_board}
use Rattle.executive.specs.declared.entry.Entry.{Entry}
use Rattle.executive.specs.declared.state.State.{State}
use Rattle.executive.specs.declared.state.Opened.{Opened}
use Rattle.executive.specs.Histories.{IsLegalEntry, MayCall, after_call, after, answer_to, entry, seat_number}
use Rattle.executive.specs.Shows.{IsUpTo, HasShown, shows}
use Rattle.executive.specs.Stands.{opening_of, opened, IsKept}
use Rattle.executive.specs.Seats.{floor_or_none, lists}
use Rattle.executive.proofs.Histories.{opening_call, own_calls}
use Rattle.executive.proofs.Shows.{up_to, shown_more}
use Rattle.executive.proofs.Adding.{Found, may_there, stands_more, adds}
use Rattle.executive.proofs.executive.Executive.begin.Goals as goal
use Rattle.executive.proofs.executive.Executive.begin.Goals.{After-enter-turn}

-- what the turn found before the call
found : (g : _) (c : After-enter-turn g) → Found (opening_of c.enter-turn.result.state.called.floor) c.args.task.0 (history c.enter-turn.result) (lists c.args.seat)
found g c =
    let t = c.enter-turn.ensures in record {
      opens = ap floor_or_none c.requires.of.1 ∙ sym (ap (λ (x : Opened). x.floor) t.fixed);
      begins = t.begins;
      legal = t.stands.legal;
      whole = c.requires.whole;
      still = t.own ∙ (ap (λ (i : ℕ). made_by seat_number i (history c.enter-turn.result)) c.requires.number
          ∙ own_calls _ (history c.enter-turn.result) c.args.task.0 t.stands.legal c.requires.in_set.0);
    }

pub act-answer-requires-clause-may : goal.act-answer-requires-clause-may
act-answer-requires-clause-may g c =
    let k = c.args.task.0 in
    subst (λ (f : FloorState). MayCall f k c.args.call) (sym (ap (λ (x : State). x.called.floor) c.state.ensures.value ∙ c.enter-turn.ensures.stands.leaves))
    (may_there _ k c.args.call _ (lists c.args.seat) (found g (goal.at.act-answer-requires-clause-may g c).After-enter-turn) c.requires.may)

pub act-answer-requires-clause-board : goal.act-answer-requires-clause-board
act-answer-requires-clause-board g c =
    ap (λ (x : State). (opened x).board) c.state.ensures.value ∙ (ap (λ (x : Opened). x.board) c.enter-turn.ensures.fixed ∙ c.args.self.now.beside)

pub act-answer-requires-clause-shown : goal.act-answer-requires-clause-shown
act-answer-requires-clause-shown g c =
    let s = c.enter-turn.ensures.stands in
    let turn = c.enter-turn.result in
    let o = opening_of turn.state.called.floor in
    subst (λ (x : State). IsUpTo (ticks x.called.floor.core.rows) x.writer) (sym c.state.ensures.value)
    (subst (λ (f : FloorState). IsUpTo (ticks f.core.rows) turn.state.writer) (sym s.leaves) (up_to o (history turn) turn.state.writer s.legal refl s.shown))

both_parts : (x y : State) → opening_of x.called.floor ≡ opening_of y.called.floor → option_map writer_board x.writer ≡ option_map writer_board y.writer → opened x ≡ opened y
both_parts x y e f = λ k. record { floor = e k; board = f k }

pub returns : goal.returns
returns g c =
    let k = c.args.task.0 in
    let call = c.args.call in
    let t = c.enter-turn.ensures in
    let turn = c.enter-turn.result in
    let a = c.act-answer.ensures in
    let o = opening_of turn.state.called.floor in
    let e = entry k call c.act-answer.result in
    let was : c.state.result.now.called.floor ≡ turn.state.called.floor = ap (λ (x : State). x.called.floor) c.state.ensures.value in
    let at : c.state.result.now.called.floor ≡ after o (history turn) = was ∙ t.stands.leaves in
    let there = found g (goal.at.returns g c).After-enter-turn in
    let in_set : IsIn turn.state.called.floor.core.set k = subst (λ (f : Opened). IsIn f.floor.core.set k) (sym t.fixed) c.requires.in_set in
    let one : IsLegalEntry (after o (history turn)) e = record {
      in_set = subst (λ (f : FloorState). IsIn f.core.set k) t.stands.leaves in_set;
      may = may_there o k call (history turn) (lists c.args.seat) there c.requires.may;
      answered = a.answer ∙ ap (λ (f : FloorState). answer_to f k call) at;
    } in
    let next : c.act-answer.new.self.called.floor ≡ after_call (after o (history turn)) k call = a.floor ∙ ap (λ (f : FloorState). after_call f k call) at in
    let writer : turn.state.writer ≡ c.state.result.now.writer = ap (λ (x : State). x.writer) (sym c.state.ensures.value) in
    record {
      of = search rules;
      number = search rules;
      adds = adds o e (history turn) (lists c.args.seat) _ (record {
        found = there;
        opened = ap floor_or_none t.of.1 ∙ sym (ap (λ (x : Opened). x.floor) t.fixed);
        sees = ap (λ (x : Entry). history turn ++ x ∷ []) a.last;
        makes = ap (λ (x : List Entry). x ++ c.act-answer.new.self.called.last ∷ []) t.seat.1 ∙ ap (λ (x : Entry). mine c.args.seat ++ x ∷ []) a.last;
        one = one;
        kept = subst IsKept next a.kept;
      });
      last = search rules;
      stands = stands_more c.act-answer.new.self o (history turn) e refl t.stands.legal next one a.last a.kept
          (shown_more o (history turn) e c.state.result.now.writer c.act-answer.new.self.writer c.act-answer.new.self.called.floor next a.shown
          (subst (HasShown (shows o (history turn))) writer t.stands.shown));
      fixed = both_parts c.act-answer.new.self turn.state (ap opening_of a.floor ∙ (opening_call c.state.result.now.called.floor k call ∙ ap opening_of was))
          (a.board ∙ ap (λ (x : State). option_map writer_board x.writer) c.state.ensures.value) ∙ t.fixed;
    }
