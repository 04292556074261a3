-- What the fields of a schedule log satisfy, with the rows that its recorder took, and when they are a
-- schedule log again after one more row.
use Rattle.std.proofs.Common.{◌≡◌, ℕ, ◌<◌, ◌≤◌, ◌^◌, List, ◌∷◌, ◌++◌, length, refl, sym, subst, ap, arith}
use Rattle.mc_task.specs.declared.task.Task.{Task}
use Rattle.mc_task.specs.declared.task.Rule.{Rule}
use Rattle.mc_model.specs.declared.row.Row.{Row}
use Rattle.mc_model.specs.Legal.{Legal}
use Rattle.mc_model.proofs.Ticks.{ticks-le}
use Rattle.mode_core.specs.Slots.{waiting}
use Rattle.mode_core.specs.Written.{Written}
use Rattle.mode_core.specs.Representation.{written, AreDiscarded, IsScheduleLog, IsTally}
use Rattle.mode_core.specs.declared.schedule_log.ScheduleLog.TheInside.{Inside}

module _ {K : Type 0} (h : List Row) (a : Inside K) where
  -- one more row is legal after the recorder's rows, by the log's fields
  pub opened_legal : (w : Written) (row : Written → Row) → written h a ≡ w → Legal w.set w.rule (row w ∷ w.rows) → Legal a.pending_jobs.set a.pending_jobs.rule (row (written h a) ∷ h)
  opened_legal w row e l = subst (λ (v : Written). Legal v.set v.rule (row v ∷ v.rows)) (sym e) l

  -- the log has capacity for one more row
  pub opened_room : (w : Written) → written h a ≡ w → length w.rows < w.places → length h < a.places
  opened_room w e r = subst (λ (v : Written). length v.rows < v.places) (sym e) r

  module _ (n : ℕ) (is_for : List Task → Rule → Type 0) (k : IsScheduleLog h n is_for a) where
    -- the clock is in range
    pub clock_small : a.ticks ≤ 2 ^ 62
    clock_small = omega (arith, k.tally.clock_is, ticks-le h, k.few, k.range)

    -- the recorder has capacity for one more row
    pub room_for_one : (w : Written) → written h a ≡ w → length w.rows < w.places → length h < n
    room_for_one w e r = omega (arith, opened_room w e r, k.room)

-- the set, the rule and the capacity are the same, and there is one more row
pub record OneMore {K : Type 0} (h g : List Row) (a b : Inside K) (row : Row) : Type 0 where
  pub set : b.pending_jobs.set ≡ a.pending_jobs.set
  pub rule : b.pending_jobs.rule ≡ a.pending_jobs.rule
  pub places : b.places ≡ a.places
  pub rows : g ≡ row ∷ h

-- contracts see one more row
pub one_more_seen : {K : Type 0} (h g : List Row) (a b : Inside K) (row : Row) → OneMore h g a b row → written g b ≡ record (written h a) { rows = row ∷ h }
one_more_seen h g a b row m = rw (m.set, m.rule, m.places, m.rows) refl

-- the fields are a schedule log after one more row, if the clock, the mode and the slots agree with the rows
pub one_more_kept :
    {K : Type 0} (h g : List Row) (a b : Inside K) (row : Row) (n m : ℕ) (old_for new_for : List Task → Rule → Type 0) → IsScheduleLog h n old_for a → length h < a.places → OneMore h g a b row → m ≡ n →
    ((set : List Task) (rule : Rule) → old_for set rule → new_for set rule) → IsTally a.pending_jobs.set a.pending_jobs.rule (row ∷ h) b.ticks b.pending_jobs.high (waiting b.pending_jobs) → AreDiscarded (row ∷ h) b.pending_jobs → IsScheduleLog g m new_for b
one_more_kept h g a b row n m old_for new_for k r o cap keeps tally discards = record {
  tasks = rw o.set k.tasks;
  fits = rw o.rule k.fits;
  holds = rw (o.set, o.rule) k.holds;
  tally = rw (o.set, o.rule, o.rows) tally;
  discards = subst (λ (g : List Row). AreDiscarded g b.pending_jobs) (sym o.rows) discards;
  range = omega (arith, k.range, o.places);
  few = omega (arith, r, o.places, ap length o.rows);
  room = omega (arith, k.room, o.places, cap);
  recorder = rw (o.set, o.rule) (keeps a.pending_jobs.set a.pending_jobs.rule k.recorder);
}

-- the set, the rule and the capacity are the same, and there are these rows more
pub record Grown {K : Type 0} (h g : List Row) (a b : Inside K) (rows : List Row) : Type 0 where
  pub set : b.pending_jobs.set ≡ a.pending_jobs.set
  pub rule : b.pending_jobs.rule ≡ a.pending_jobs.rule
  pub places : b.places ≡ a.places
  pub rows_are : g ≡ rows ++ h

-- contracts see the rows more
pub grown_seen : {K : Type 0} (h g : List Row) (a b : Inside K) (rows : List Row) → Grown h g a b rows → written g b ≡ record (written h a) { rows = rows ++ h }
grown_seen h g a b rows m = rw (m.set, m.rule, m.places, m.rows_are) refl

-- the fields are a schedule log after these rows more, if the clock, the mode and the slots agree with the rows
pub grown_kept :
    {K : Type 0} (h g : List Row) (a b : Inside K) (rows : List Row) (n m : ℕ) (old_for new_for : List Task → Rule → Type 0) → IsScheduleLog h n old_for a → length (rows ++ h) ≤ a.places → Grown h g a b rows → m ≡ n →
    ((set : List Task) (rule : Rule) → old_for set rule → new_for set rule) → IsTally a.pending_jobs.set a.pending_jobs.rule (rows ++ h) b.ticks b.pending_jobs.high (waiting b.pending_jobs) → AreDiscarded (rows ++ h) b.pending_jobs → IsScheduleLog g m new_for b
grown_kept h g a b rows n m old_for new_for k r o cap keeps tally discards = record {
  tasks = rw o.set k.tasks;
  fits = rw o.rule k.fits;
  holds = rw (o.set, o.rule) k.holds;
  tally = rw (o.set, o.rule, o.rows_are) tally;
  discards = subst (λ (g : List Row). AreDiscarded g b.pending_jobs) (sym o.rows_are) discards;
  range = omega (arith, k.range, o.places);
  few = omega (arith, r, o.places, ap length o.rows_are);
  room = omega (arith, k.room, o.places, cap);
  recorder = rw (o.set, o.rule) (keeps a.pending_jobs.set a.pending_jobs.rule k.recorder);
}
