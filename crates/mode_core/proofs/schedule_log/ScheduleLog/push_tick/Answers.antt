use Rattle.std.proofs.Common.{◌≡◌, ℕ, ◌+◌, List, ◌∷◌, Bool, refl, sym, ap, ◌∙◌, subst, arith, rules}
use Rattle.mc_task.specs.declared.task.JobId.{JobId}
use Rattle.mc_task.specs.declared.task.Task.{Task}
use Rattle.mc_task.specs.declared.task.Rule.{Rule}
use Rattle.mc_task.specs.TaskSet.{IsIn}
use Rattle.mc_model.specs.declared.row.How.{How}
use Rattle.mc_model.specs.declared.row.Row.{Row}
use Rattle.mc_model.specs.declared.row.Row.TheVariants as row
use Rattle.mc_model.specs.Rows.{used}
use Rattle.mc_model.specs.Legal.{Legal}
use Rattle.mc_model.specs.Core.{outcome_of}
use Rattle.mode_core.specs.declared.schedule_log.ScheduleLog.TheInside.{Inside}
use Rattle.mode_core.specs.Slots.{Slots, ticks_at, IsOutcome}
use Rattle.mode_core.specs.Written.{Written}
use Rattle.mode_core.specs.Representation.{written, IsScheduleLog}
use Rattle.mode_core.proofs.Tally.{ticking_own, ticking_line, ticked}
use Rattle.mode_core.proofs.Discards.{noted_tick}
use Rattle.mode_core.proofs.Opened.{opened_legal, opened_room, clock_small, room_for_one, one_more_seen, one_more_kept}
use Rattle.mode_core.proofs.schedule_log.ScheduleLog.push_tick.Goals as goal

-- the row of this tick
abbrev tick_row : JobId → Bool → Written → Row
tick_row j done w = row.Tick j (outcome_of w.set w.rule w.rows j done)

module _ {K : Type 0} (h : List Row) (a : Inside K) (n : ℕ) (is_for : List Task → Rule → Type 0) (j : JobId) (done : Bool) (k : IsScheduleLog h n is_for a) (l : Legal a.pending_jobs.set a.pending_jobs.rule (tick_row j done (written h a) ∷ h)) where
  -- the ticks of the job are counted
  line : used h j ≡ ticks_at a.pending_jobs j.task.0
  line = ticking_line a.pending_jobs h a.ticks a.pending_jobs.high j (outcome_of a.pending_jobs.set a.pending_jobs.rule h j done) k.tasks.each k.holds l k.tally

  -- the outcome by the slots is that by the rows
  outcome : (how : How) → IsOutcome a.pending_jobs j done how → how ≡ outcome_of a.pending_jobs.set a.pending_jobs.rule h j done
  outcome how o = o h (sym k.tally.mode_is) line

pub tick-how-requires : goal.tick-how-requires
tick-how-requires g c =
    let a = c.self.inside in
    let h : List Row = g.R.Recorder.rows a.recorder in
    let l = opened_legal h a c.args.self.now (tick_row c.args.job c.args.done) c.self.view_is c.requires.legal in
    let how = outcome_of a.pending_jobs.set a.pending_jobs.rule h c.args.job c.args.done in
    let own = ticking_own a.pending_jobs.set a.pending_jobs.rule h c.args.job how c.self.invariant.tasks.each c.self.invariant.holds l in
    record {
      in_set = l.0;
      below = omega (arith, own, line h a _ _ c.args.job c.args.done c.self.invariant l);
    }

pub clear_after-requires : goal.clear_after-requires
clear_after-requires g c =
    subst (λ (ts : List Task). IsIn ts c.args.job.task.0) (sym c.tick-how.ensures.state.same_set)
    (opened_legal (g.R.Recorder.rows c.self.inside.recorder) c.self.inside c.args.self.now (tick_row c.args.job c.args.done) c.self.view_is c.requires.legal).0

pub add-requires : goal.add-requires
add-requires g c = record { room = room_for_one _ c.self.inside _ _ c.self.invariant c.args.self.now c.self.view_is c.requires.room }

pub overflow_add-self : goal.overflow_add-self
overflow_add-self g c = let t = clock_small _ c.self.inside _ _ c.self.invariant in search (rules, t)

pub invariant_of-self : goal.invariant_of-self
invariant_of-self g c =
    let a = c.self.inside in
    let h : List Row = g.R.Recorder.rows a.recorder in
    let s : Slots = a.pending_jobs in
    let l = opened_legal h a c.args.self.now (tick_row c.args.job c.args.done) c.self.view_is c.requires.legal in
    let how = outcome h a _ _ c.args.job c.args.done c.self.invariant l c.tick-how.result c.tick-how.ensures.answer in
    let e = c.tick-how.ensures.state in
    let f = c.clear_after.ensures.slots in
    one_more_kept h _ a _ (row.Tick c.args.job c.tick-how.result) _ _ _ _ c.self.invariant (opened_room h a c.args.self.now c.self.view_is c.requires.room)
    (record { set = f.same_set ∙ e.same_set; rule = f.same_rule ∙ e.same_rule; places = refl; rows = c.add.ensures.rows })
    c.add.ensures.capacity c.add.ensures.set
    (ticked s c.tick-how.new.self c.clear_after.new.self h a.ticks c.args.job c.tick-how.result c.self.invariant.tasks.each c.self.invariant.holds
    (subst (λ (o : How). Legal s.set s.rule (row.Tick c.args.job o ∷ h)) (sym how) l) e f c.self.invariant.tally)
    (noted_tick s c.tick-how.new.self c.clear_after.new.self h a.ticks c.args.job c.tick-how.result e c.tick-how.ensures.discarded f c.clear_after.ensures.discarded c.self.invariant.tally c.self.invariant.discards)

pub returns : goal.returns
returns g c =
    let a = c.self.inside in
    let h : List Row = g.R.Recorder.rows a.recorder in
    let l = opened_legal h a c.args.self.now (tick_row c.args.job c.args.done) c.self.view_is c.requires.legal in
    let how = outcome h a _ _ c.args.job c.args.done c.self.invariant l c.tick-how.result c.tick-how.ensures.answer in
    let e = c.tick-how.ensures.state in
    let f = c.clear_after.ensures.slots in
    record {
      answer = subst (λ (w : Written). c.tick-how.result ≡ outcome_of w.set w.rule w.rows c.args.job c.args.done) c.self.view_is how;
      state =
          one_more_seen h _ a (record a { recorder = c.add.new.self; ticks = a.ticks + 1; pending_jobs = c.clear_after.new.self }) (row.Tick c.args.job c.tick-how.result)
          (record { set = f.same_set ∙ e.same_set; rule = f.same_rule ∙ e.same_rule; places = refl; rows = c.add.ensures.rows })
          ∙ ap (λ (o : How). let v : Written = record (written h a) { rows = row.Tick c.args.job o ∷ h } in v) how
          ∙ ap (λ (w : Written). let v : Written = record w { rows = tick_row c.args.job c.args.done w ∷ w.rows } in v) c.self.view_is;
    }
