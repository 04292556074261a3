-- The pairs that are shown on the board, entry by entry.
use Rattle.std.proofs.Common.{◌≡◌, ℕ, ◌≤◌, ◌+◌, ◌^◌, List, [], ◌∷◌, ◌++◌, Bool, true, false, Option, Some, None, refl, ap, sym, ◌∙◌, subst, arith, cond, append_assoc, append-nil}
use Rattle.mc_model.specs.declared.row.Row.TheVariants as row
use Rattle.mc_model.specs.Rows.{ticks}
use Rattle.mc_model.proofs.Ticks.{ticks-le}
use Rattle.mc_model.specs.Core.{State as CoreState, outcome_of}
use Rattle.mode_core.specs.Shape.{IsSound}
use Rattle.timetable.specs.Floor.{FloorState}
use Rattle.status_board.specs.declared.shown.Shown.{Shown}
use Rattle.status_board.specs.declared.tokens.Writer.{Writer}
use Rattle.status_board.specs.Logs.{start, last_of}
use Rattle.executive.specs.declared.entry.Entry.{Entry}
use Rattle.executive.specs.declared.entry.Call.{Call}
use Rattle.executive.specs.declared.entry.Answer.{Answer}
use Rattle.executive.specs.Histories.{answer_to, after_call, after, IsLegal}
use Rattle.executive.proofs.Histories.{Way, outcome_written, idle_written, way}
use Rattle.executive.specs.Shows.{shown_of, ends_tick, shows_now, shows_from, shows, HasShown, IsUpTo}
use Rattle.mode_core.proofs.CallerLemmas.{ticks-held}

-- one more entry shows what its call adds
shows_more : (f : FloorState) (log : List Entry) (e : Entry) → shows f (log ++ e ∷ []) ≡ shows f log ++ shows_now (after_call (after f log) e.task.0 e.call) e.answer
shows_more f log e = ap (λ (l : List Shown). start ∷ l) (more f log)
  where
    more : (f : FloorState) (log : List Entry) → shows_from f (log ++ e ∷ []) ≡ shows_from f log ++ shows_now (after_call (after f log) e.task.0 e.call) e.answer
    more f [] = append-nil (shows_now (after_call f e.task.0 e.call) e.answer)
    more f (x ∷ xs) =
        let g = after_call f x.task.0 x.call in
        ap (λ (l : List Shown). shows_now g x.answer ++ l) (more g xs) ∙ sym (append_assoc (shows_now g x.answer) (shows_from g xs) (shows_now (after_call (after g xs) e.task.0 e.call) e.answer))

nothing : (n : ℕ) → n ≡ n + 0
nothing n = omega arith

-- a call adds a tick to the rows exactly if its answer ends one
pub ticks_law : (f : FloorState) (k : ℕ) (c : Call) → ticks (after_call f k c).core.rows ≡ ticks f.core.rows + cond (ends_tick (answer_to f k c)) 1 0
ticks_law f k c = go (way f k c)
  where
    go : {d : Call} {a : Answer} {g : FloorState} → Way f k d a g → ticks g.core.rows ≡ ticks f.core.rows + cond (ends_tick a) 1 0
    go (outcome_written claimed done j out is) =
        ticks-held f.core.set f.core.rule f.core.held (row.Tick j (outcome_of f.core.set f.core.rule f.core.rows j done) ∷ f.core.rows)
    go (idle_written out) = refl
    go w = nothing _

one_shown : (f g : FloorState) (d : Shown) (es : List Entry) (b : Bool) → ((x : Shown) → x.ticks ≡ ticks g.core.rows → (last_of x (shows_from g es)).ticks ≡ ticks (after g es).core.rows)
    → d.ticks ≡ ticks f.core.rows → ticks g.core.rows ≡ ticks f.core.rows + cond b 1 0 → (last_of d (cond b (shown_of g ∷ []) [] ++ shows_from g es)).ticks ≡ ticks (after g es).core.rows
one_shown f g d es true rest is law = rest (shown_of g) refl
one_shown f g d es false rest is law = rest d (is ∙ (nothing _ ∙ sym law))

-- the last pair shown has as many ticks as the floor
last_from : (f : FloorState) (log : List Entry) (d : Shown) → IsLegal f log → d.ticks ≡ ticks f.core.rows → (last_of d (shows_from f log)).ticks ≡ ticks (after f log).core.rows
last_from f [] d legal is = is
last_from f (e ∷ es) d legal is =
    one_shown f (after_call f e.task.0 e.call) d es (ends_tick e.answer) (λ x same. last_from (after_call f e.task.0 e.call) es x legal.1 same) is
    (ticks_law f e.task.0 e.call ∙ ap (λ (a : Answer). ticks f.core.rows + cond (ends_tick a) 1 0) (sym legal.0.answered))

-- the last pair that the writer showed has as many ticks as the floor
pub up_to : (f : FloorState) (log : List Entry) (w : Option Writer) → IsLegal f log → ticks f.core.rows ≡ 0 → HasShown (shows f log) w → IsUpTo (ticks (after f log).core.rows) w
up_to f log None legal empty h = tt
up_to f log (Some w) legal empty h = ap (λ (l : List Shown). (last_of start l).ticks) h ∙ last_from f log start legal (sym empty)

-- a valid core has at most 2 ^ 62 ticks
pub few_ticks : (s : CoreState) → IsSound s → ticks s.rows ≤ 2 ^ 62
few_ticks s sound =
    let room = sound.room in
    let range = sound.range in
    let fit = ticks-le s.rows in
    omega (arith, room, range, fit)

-- if the writer showed the pairs of a history, it shows those of one more entry
pub shown_more : (f : FloorState) (log : List Entry) (e : Entry) (old new : Option Writer) (now : FloorState) → now ≡ after_call (after f log) e.task.0 e.call
    → ((l : List Shown) → HasShown l old → HasShown (l ++ shows_now now e.answer) new) → HasShown (shows f log) old → HasShown (shows f (log ++ e ∷ [])) new
shown_more f log e old new now at more has =
    subst (λ (l : List Shown). HasShown l new) (ap (λ (g : FloorState). shows f log ++ shows_now g e.answer) at ∙ sym (shows_more f log e)) (more (shows f log) has)
