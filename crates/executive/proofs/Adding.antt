-- A turn adds one entry.
use Rattle.std.proofs.Common.{◌≡◌, ℕ, ◌<◌, ◌+◌, ◌^◌, List, [], ◌∷◌, ◌++◌, ap, sym, ◌∙◌, subst, arith, refl}
use Rattle.mode_core.specs.Events.{running}
use Rattle.timetable.specs.Floor.{FloorState}
use Rattle.turnstile.specs.History.{StartsWith}
use Rattle.turnstile.proofs.Histories.{made_yes}
use Rattle.executive.specs.declared.count.Count.{Count}
use Rattle.executive.specs.declared.state.State.{State}
use Rattle.executive.specs.declared.entry.Call.{Call}
use Rattle.executive.specs.declared.entry.Answer.{Answer}
use Rattle.executive.specs.declared.entry.Entry.{Entry}
use Rattle.executive.specs.Histories.{MayCall, answer_to, after_call, after, IsLegalEntry, IsLegal, calls_of}
use Rattle.mc_model.specs.Sums.{total}
use Rattle.executive.specs.Counts.{released, ticked, ended, idled, tally, with_answer, IsAtMost}
use Rattle.executive.specs.Shows.{shows, HasShown}
use Rattle.executive.specs.Stands.{opening_of, IsKept, Stands}
use Rattle.executive.specs.Seats.{Lists, lists, floor_seen, floor_or_none, job_out}
use Rattle.executive.specs.declared.executive.Executive.{Executive}
use Rattle.executive.specs.declared.pass.CountedSeat.{CountedSeat}
use Rattle.executive.specs.Passes.{Adds, job_then, floor_of, IsCountedSeatOf}
use Rattle.executive.proofs.Histories.{opening_after, after_more, legal_more, out_own, still_out, may_still}
use Rattle.mc_model.proofs.Sums.{total-append}
use Rattle.executive.proofs.Counting.{IsEmpty, few}

-- after one more entry the state stands for the history with it
pub stands_more : (x : State) (o : FloorState) (log : List Entry) (e : Entry) → opening_of o ≡ o → IsLegal o log → x.called.floor ≡ after_call (after o log) e.task.0 e.call
    → IsLegalEntry (after o log) e → x.called.last ≡ e → IsKept x.called.floor → HasShown (shows o (log ++ e ∷ [])) x.writer → Stands (log ++ x.called.last ∷ []) x
stands_more x o log e opens legal next one last kept shown =
    let left : x.called.floor ≡ after o (log ++ e ∷ []) = next ∙ sym (after_more o log (e ∷ [])) in
    let same : opening_of x.called.floor ≡ o = ap opening_of left ∙ (opening_after o (log ++ e ∷ []) ∙ opens) in
    subst (λ (y : Entry). Stands (log ++ y ∷ []) x) (sym last) (record {
      legal = subst (λ (g : FloorState). IsLegal g (log ++ e ∷ [])) (sym same) (legal_more o log e legal one);
      leaves = left ∙ ap (λ (g : FloorState). after g (log ++ e ∷ [])) (sym same);
      kept = kept;
      shown = subst (λ (g : FloorState). HasShown (shows g (log ++ e ∷ [])) x.writer) (sym same) shown;
    })

-- what a turn of task number k finds: the history before it, in which the task's calls are those that its
-- seat made
pub record Found (o : FloorState) (k : ℕ) (before : List Entry) (old : Lists) : Type 0 where
  pub opens : old.opening ≡ o
  pub begins : StartsWith before old.seen
  pub legal : IsLegal o before
  pub whole : old.mine ≡ calls_of k old.seen
  pub still : old.mine ≡ calls_of k before

-- the job of the granted tick of the task is still the one that its seat saw
stays : (o : FloorState) (k : ℕ) (before : List Entry) (old : Lists) → Found o k before old → running (after o before).core.out k ≡ job_out k old
stays o k before old t =
    still_out k o old.seen before t.begins t.legal (sym t.whole ∙ t.still) ∙ ap (λ (f : FloorState). running (after f old.seen).core.out k) (sym t.opens)

-- a call that the task may make after what its seat saw is allowed in its turn
pub may_there : (o : FloorState) (k : ℕ) (c : Call) (before : List Entry) (old : Lists)
    → Found o k before old → MayCall (floor_seen old) k c → MayCall (after o before) k c
may_there o k c before old t may = may_still (floor_seen old) (after o before) k c (stays o k before old t) may

-- what a turn leaves: the history with one more entry, and the floor after it
pub record Turned (o : FloorState) (e : Entry) (before : List Entry) (old new : Lists) : Type 0 where
  pub found : Found o e.task.0 before old
  pub opened : new.opening ≡ o
  pub sees : new.seen ≡ before ++ e ∷ []
  pub makes : new.mine ≡ old.mine ++ e ∷ []
  pub one : IsLegalEntry (after o before) e
  pub kept : IsKept (after_call (after o before) e.task.0 e.call)

-- a turn leaves what the contract of a call says
pub adds : (o : FloorState) (e : Entry) (before : List Entry) (old new : Lists) → Turned o e before old new → Adds e old new
adds o e before old new t =
    let k : ℕ = e.task.0 in
    let opens = t.found.opens in
    let stay = stays o k before old t.found in
    let next : floor_seen new ≡ after_call (after o before) k e.call =
    ap (λ (f : FloorState). after f new.seen) t.opened ∙ (ap (after o) t.sees ∙ after_more o before (e ∷ [])) in record {
      opened = t.opened ∙ sym opens;
      before = before;
      begins = t.found.begins;
      sees = t.sees;
      makes = t.makes;
      legal = subst (λ (f : FloorState). IsLegal f new.seen) (sym opens) (subst (IsLegal o) (sym t.sees) (legal_more o before e t.found.legal t.one));
      own = t.makes ∙ (ap (λ (l : List Entry). l ++ e ∷ []) t.found.still ∙ (sym (made_yes (λ (x : Entry). x.task.0) k before e refl) ∙ ap (calls_of k) (sym t.sees)));
      answered = t.one.answered ∙ ap (λ (f : FloorState). answer_to (after f before) k e.call) (sym opens);
      stays = ap (λ (f : FloorState). running (after f before).core.out k) opens ∙ stay;
      out = ap (λ (f : FloorState). running f.core.out k) next
          ∙ (out_own (after o before) k e.call
          ∙ (ap (λ (a : Answer). job_then a (running (after o before).core.out k)) (sym t.one.answered) ∙ ap (job_then e.answer) stay));
      kept = subst IsKept (sym next ∙ ap (λ (f : FloorState). after f new.seen) (t.opened ∙ sym opens)) t.kept;
    }

-- Counts.

-- a call is counted once
one_more : (w : Answer → ℕ) (e : Entry) (old new : Lists) → Adds e old new
    → total (λ (x : Entry). w x.answer) old.mine + w e.answer ≡ total (λ (x : Entry). w x.answer) new.mine
one_more w e old new a =
    let h = ap (total (λ (x : Entry). w x.answer)) a.makes ∙ total-append (λ (x : Entry). w x.answer) old.mine (e ∷ []) in
    omega (arith, h)

-- the count with one more answer is that of one more call
pub tally_more : (c d : Count) (e : Entry) (old new : Lists) → Adds e old new → c ≡ tally old.mine → d ≡ with_answer c e.answer → d ≡ tally new.mine
tally_more c d e old new a is next = next ∙ (ap (λ (x : Count). with_answer x e.answer) is ∙ more)
  where
    more : with_answer (tally old.mine) e.answer ≡ tally new.mine
    more = λ i. record {
      releases = one_more released e old new a i;
      ticks = one_more ticked e old new a i;
      ends = one_more ended e old new a i;
      idles = one_more idled e old new a i;
    }

-- the floor that an executive was made with is empty
pub opens_empty : (e : Executive) → IsEmpty (floor_of e)
opens_empty e = record { rows = refl; held = refl }

-- the floor that a task's seat knows as the first one is empty
pub empty : (e : Executive) (h : CountedSeat) → IsCountedSeatOf e h → IsEmpty (lists h.seat).opening
empty e h of = subst IsEmpty (sym (ap floor_or_none of.0.1)) (opens_empty e)

-- no call changes the capacity
same_places : (f : FloorState) (log : List Entry) → (after f log).core.places ≡ f.core.places
same_places f log = ap (λ (g : FloorState). g.core.places) (opening_after f log)

-- each field of the count is at most the capacity
pub tally_few : (d : Count) (e : Entry) (old new : Lists) → Adds e old new → IsEmpty old.opening → d ≡ tally new.mine → IsAtMost d new.opening.core.places
tally_few d e old new a empty is =
    let room = a.kept.sound.room in
    let same = same_places old.opening new.seen in
    let most = few e.task.0 old.opening new.seen old.opening.core.places empty a.legal (omega (arith, same, room)) in
    subst (λ (c : Count). IsAtMost c new.opening.core.places) (sym (is ∙ ap tally a.own))
    (subst (λ (f : FloorState). IsAtMost (tally (calls_of e.task.0 new.seen)) f.core.places) (sym a.opened) most)

-- the capacity is below 2 ^ 32
pub few_places : (e : Entry) (old new : Lists) → Adds e old new → new.opening.core.places < 2 ^ 32
few_places e old new a =
    let opened = ap (λ (f : FloorState). f.core.places) a.opened in
    let same = same_places old.opening new.seen in
    let range = a.kept.sound.range in
    omega (arith, opened, same, range)
