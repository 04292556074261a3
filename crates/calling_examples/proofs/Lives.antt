-- A live schedule, row by row.
use Rattle.std.proofs.Common.{◌≡◌, ℕ, ◌<◌, ◌^◌, List, [], ◌∷◌, ◌++◌, Option, Some, None, IfSome, Result, Ok, Err, OnOk, length, refl, sym, ap, ◌∙◌, subst, arith}
use Rattle.std.specs.Prelude.{is_some, is_err}
use Rattle.mc_model.specs.Legal.{Legal}
use Rattle.mc_model.specs.Late.{late}
use Rattle.mc_model.specs.Rows.{ticks}
use Rattle.mc_model.specs.Verdict.{verdict}
use Rattle.mc_model.specs.declared.row.Row.{Row}
use Rattle.mc_model.specs.declared.verdict.Verdict.TheVariants as verdicts
use Rattle.mc_model.proofs.Ticks.{ticks-le}
use Rattle.mc_model.proofs.Verdicts.{no_fault}
use Rattle.mc_task.specs.declared.task.Task.{Task}
use Rattle.mc_task.specs.declared.task.Rule.{Rule}
use Rattle.mc_task.specs.TaskSet.{Set}
use Rattle.trace_judge.specs.Watched.{Watches}
use Rattle.calling_examples.specs.declared.live.Live.TheInside.{Inside}
use Rattle.calling_examples.specs.Live.{row_line, rows_text, with_line, LiveRows, IsLegalTrace}
use Rattle.calling_examples.specs.Handed.{rows_of_live, IsLive}

-- what holds in any case holds if a call succeeds
pub either_way : {T E P : Type 0} (r : Result T E) → P → OnOk r P
either_way (Ok x) p = p
either_way (Err e) p = tt

-- a call without an error has succeeded
pub no_error : {T E P : Type 0} (r : Result T E) (e : Option E) → is_some e ≡ is_err r → OnOk r P → e ≡ None → P
no_error (Ok x) e is p none = p
no_error (Err d) None is p none = cc
no_error (Err d) (Some y) is p none = cc

-- with one line more, the written bytes, if they are known, are the bytes before and the line
pub text_more : (old new : Option (List ℕ)) (p t : List ℕ) → IfSome old (λ bytes. bytes ≡ p) → new ≡ with_line old t → IfSome new (λ bytes. bytes ≡ p ++ t)
text_more None new p t h e = rw e tt
text_more (Some b) new p t h e = rw e (ap (λ x. x ++ t) h)

-- a legal schedule without a late job has this verdict
pub calm : (set : List Task) (rule : Rule) (h : List Row) → Legal set rule h → late set h ≡ [] → verdict set rule h ≡ verdicts.Legal 0 None
calm set rule h l e = rw (no_fault set rule h l, e) refl

-- a recorder that took the legal rows of a schedule in which no job is late, and that wrote their text
pub legal_trace : (set : List Task) (rule : Rule) (h : List Row) (live : LiveRows) → live.set ≡ set → live.rule ≡ rule → live.rows ≡ h → live.stop ≡ None → Legal set rule h → late set h ≡ [] → IfSome live.written (λ bytes. bytes ≡ rows_text live.set live.rows) → IsLegalTrace set rule live
legal_trace set rule h live s r w n l e t = record {
  set_is = s;
  rule_is = r;
  going = n;
  legal = subst (λ (x : List Row). Legal set rule x) (sym w) l;
  timely = subst (λ (x : List Row). late set x ≡ []) (sym w) e;
  judged = subst (λ (x : List Row). verdict set rule x ≡ verdicts.Legal 0 None) (sym w) (calm set rule h l e);
  text = subst (λ (x : List Task). IfSome live.written (λ bytes. bytes ≡ rows_text x live.rows)) s t;
}

-- the clock of a live schedule is far from its end
pub clock_small : {W : Type 0} (written : Option (List ℕ)) (a : Inside W) → IsLive written a → length (rows_of_live a) < 2 ^ 62 → a.ticks < 2 ^ 63
clock_small written a is few = let at_most = ticks-le (rows_of_live a) in omega (arith, is.clock, at_most, few)

-- a live schedule with one row more, which was judged and written unless the schedule stopped
pub one_more : {W : Type 0} (written more : Option (List ℕ)) (a b : Inside W) (row : Row) → IsLive written a
    → rows_of_live b ≡ row ∷ rows_of_live a → b.set ≡ a.set → b.monitor.set ≡ a.monitor.set
    → b.ticks ≡ ticks (row ∷ rows_of_live a) → (b.stop ≡ None → a.stop ≡ None)
    → (b.stop ≡ None → (h : List Row) → Watches h a.monitor → Watches (row ∷ h) b.monitor)
    → (b.stop ≡ None → more ≡ with_line written (row_line a.set.tasks a.ticks row)) → IsLive more b
one_more written more a b row is rows set watched_set clock before watched line = record {
  set = set ∙ (is.set ∙ sym watched_set);
  clock = clock ∙ ap ticks (sym rows);
  watched = λ going. subst (λ (x : List Row). Watches x b.monitor) (sym rows) (watched going (rows_of_live a) (is.watched (before going)));
  text = λ going.
      let old : List ℕ = rows_text a.set.tasks (rows_of_live a) in
      let t : IfSome more (λ bytes. bytes ≡ old ++ row_line a.set.tasks a.ticks row) = text_more written more old (row_line a.set.tasks a.ticks row) (is.text (before going)) (line going) in
      let u : IfSome more (λ bytes. bytes ≡ old ++ row_line a.set.tasks (ticks (rows_of_live a)) row) = subst (λ (n : ℕ). IfSome more (λ bytes. bytes ≡ old ++ row_line a.set.tasks n row)) is.clock t in
      let v : IfSome more (λ bytes. bytes ≡ rows_text a.set.tasks (rows_of_live b)) = subst (λ (x : List Row). IfSome more (λ bytes. bytes ≡ rows_text a.set.tasks x)) (sym rows) u in
      subst (λ (x : Set). IfSome more (λ bytes. bytes ≡ rows_text x.tasks (rows_of_live b))) (sym set) v;
}
