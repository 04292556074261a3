use Rattle.std.proofs.Common.{◌≡◌, ℕ, ◌+◌, ◌<◌, ◌≤◌, true, List, ◌++◌, Some, length, replicate, refl, sym, ap, ◌∙◌, subst, arith, rules}
use Rattle.mc_task.specs.declared.task.JobId.{JobId}
use Rattle.mc_task.specs.declared.task.Task.{Task}
use Rattle.mc_task.specs.declared.task.Rule.{Rule}
use Rattle.mc_model.specs.declared.row.How.TheVariants.{More}
use Rattle.mc_model.specs.declared.row.Row.{Row}
use Rattle.mc_model.specs.declared.row.Row.TheVariants as row
use Rattle.mc_model.specs.Rows.{used}
use Rattle.mc_model.specs.Core.{chosen, outcome_of}
use Rattle.mc_model.proofs.Repeats.{length_copies}
use Rattle.mode_core.specs.declared.schedule_log.ScheduleLog.TheInside.{Inside}
use Rattle.mode_core.specs.Slots.{ticks_at}
use Rattle.mode_core.specs.Written.{Written}
use Rattle.mode_core.specs.Runs.{ticks_left}
use Rattle.mode_core.specs.Representation.{written, IsScheduleLog}
use Rattle.mode_core.proofs.Fits.{chooses, tick_legal}
use Rattle.mode_core.proofs.Tally.{ticking_line}
use Rattle.mode_core.proofs.Going.{within_own, tally_more}
use Rattle.mode_core.proofs.Discards.{noted_still, more_discards}
use Rattle.mode_core.proofs.Opened.{clock_small, grown_seen, grown_kept}
use Rattle.mode_core.proofs.schedule_log.ScheduleLog.push_more.Goals as goal

module _ {K : Type 0} (h : List Row) (a : Inside K) (n : ℕ) (is_for : List Task → Rule → Type 0) (k : IsScheduleLog h n is_for a) (w : Written) (e : written h a ≡ w) (j : JobId) (count : ℕ) where
  -- the job is the chosen one, by the log's fields
  is_chosen : chosen w.set w.rule w.rows ≡ Some j → chosen a.pending_jobs.set a.pending_jobs.rule h ≡ Some j
  is_chosen c = subst (λ (v : Written). chosen v.set v.rule v.rows ≡ Some j) (sym e) c

  -- the ticks are below its boundary
  is_below : count < ticks_left w.set w.rule w.rows j → count < ticks_left a.pending_jobs.set a.pending_jobs.rule h j
  is_below b = subst (λ (v : Written). count < ticks_left v.set v.rule v.rows j) (sym e) b

  -- there is capacity for them
  has_room : length w.rows + count ≤ w.places → length h + count ≤ a.places
  has_room r = subst (λ (v : Written). length v.rows + count ≤ v.places) (sym e) r

  -- the ticks of the job are counted
  line : chosen a.pending_jobs.set a.pending_jobs.rule h ≡ Some j → used h j ≡ ticks_at a.pending_jobs j.task.0
  line c = ticking_line a.pending_jobs h a.ticks a.pending_jobs.high j (outcome_of a.pending_jobs.set a.pending_jobs.rule h j true) k.tasks.each k.holds (tick_legal _ _ j h true k.tasks.each k.tally.legal c) k.tally

pub tick_many-requires : goal.tick_many-requires
tick_many-requires g c =
    let a = c.self.inside in
    let h : List Row = g.R.Recorder.rows a.recorder in
    let is = is_chosen h a _ _ c.self.invariant c.args.self.now c.self.view_is c.args.job c.args.count c.requires.chosen in
    let below = is_below h a _ _ c.self.invariant c.args.self.now c.self.view_is c.args.job c.args.count c.requires.left in
    record {
      in_set = (chooses _ _ h c.args.job c.self.invariant.tasks.each c.self.invariant.tally.legal is).inside;
      within = omega (
        arith,
        line h a _ _ c.self.invariant c.args.self.now c.self.view_is c.args.job c.args.count is,
        within_own _ _ h c.args.job c.self.invariant.tasks.each c.self.invariant.tally.legal is c.args.count below,
      );
    }

pub add_run-requires : goal.add_run-requires
add_run-requires g c =
    let a = c.self.inside in
    let h : List Row = g.R.Recorder.rows a.recorder in
    let room = has_room h a _ _ c.self.invariant c.args.self.now c.self.view_is c.args.job c.args.count c.requires.room in
    record { room = omega (arith, room, c.self.invariant.room) }

pub overflow_add-self : goal.overflow_add-self
overflow_add-self g c =
    let t = clock_small _ c.self.inside _ _ c.self.invariant in
    search (rules, t)

pub invariant_of-self : goal.invariant_of-self
invariant_of-self g c =
    let a = c.self.inside in
    let h : List Row = g.R.Recorder.rows a.recorder in
    let n : ℕ = c.args.count in
    let is = is_chosen h a _ _ c.self.invariant c.args.self.now c.self.view_is c.args.job n c.requires.chosen in
    let below = is_below h a _ _ c.self.invariant c.args.self.now c.self.view_is c.args.job n c.requires.left in
    let room = has_room h a _ _ c.self.invariant c.args.self.now c.self.view_is c.args.job n c.requires.room in
    let e = c.tick_many.ensures.state in
    grown_kept h _ a _ (replicate n (row.Tick c.args.job More)) _ _ _ _ c.self.invariant (omega (arith, room, length_copies (row.Tick c.args.job More) n h))
    (record { set = e.same_set; rule = e.same_rule; places = refl; rows_are = c.add_run.ensures.rows })
    c.add_run.ensures.capacity c.add_run.ensures.set
    (tally_more a.pending_jobs c.tick_many.new.self h a.ticks n c.args.job c.self.invariant.tasks.each c.self.invariant.holds is below e c.self.invariant.tally)
    (noted_still a.pending_jobs c.tick_many.new.self h (replicate n (row.Tick c.args.job More) ++ h) e.same_set c.tick_many.ensures.discarded (more_discards a.pending_jobs.set h c.args.job n) c.self.invariant.discards)

pub returns : goal.returns
returns g c =
    let a = c.self.inside in
    let h : List Row = g.R.Recorder.rows a.recorder in
    let rows : List Row = replicate c.args.count (row.Tick c.args.job More) in
    let e = c.tick_many.ensures.state in
    grown_seen h _ a (record a { recorder = c.add_run.new.self; ticks = a.ticks + c.args.count; pending_jobs = c.tick_many.new.self }) rows
    (record { set = e.same_set; rule = e.same_rule; places = refl; rows_are = c.add_run.ensures.rows })
    ∙ ap (λ (w : Written). let v : Written = record w { rows = rows ++ w.rows } in v) c.self.view_is
