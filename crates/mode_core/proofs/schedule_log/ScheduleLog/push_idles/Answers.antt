use Rattle.std.proofs.Common.{◌≡◌, ℕ, ◌+◌, ◌≤◌, List, [], ◌++◌, length, replicate, refl, sym, ap, ◌∙◌, subst, arith, rules}
use Rattle.mc_model.specs.declared.row.Row.{Row}
use Rattle.mc_model.specs.declared.row.Row.TheVariants as row
use Rattle.mc_model.specs.Pending.{pending}
use Rattle.mc_model.proofs.Repeats.{length_copies}
use Rattle.mode_core.specs.declared.schedule_log.ScheduleLog.TheInside.{Inside}
use Rattle.mode_core.specs.Slots.{Slots, waiting}
use Rattle.mode_core.specs.Written.{Written}
use Rattle.mode_core.specs.Entries.{entry, job_of}
use Rattle.std.proofs.Common.{option_map}
use Rattle.mode_core.specs.Representation.{written, IsTally}
use Rattle.mode_core.proofs.Going.{tally_idles}
use Rattle.mode_core.proofs.Discards.{noted_still, idle_discards}
use Rattle.mode_core.proofs.Opened.{clock_small, grown_seen, grown_kept}
use Rattle.mode_core.proofs.schedule_log.ScheduleLog.push_idles.Goals as goal

module _ {K : Type 0} (h : List Row) (a : Inside K) (w : Written) (e : written h a ≡ w) where
  -- nothing is pending, by the log's fields
  is_quiet : pending w.set w.rows ≡ [] → pending a.pending_jobs.set h ≡ []
  is_quiet q = subst (λ (v : Written). pending v.set v.rows ≡ []) (sym e) q

  -- there is capacity for the ticks
  has_room : (n : ℕ) → length w.rows + n ≤ w.places → length h + n ≤ a.places
  has_room n r = subst (λ (v : Written). length v.rows + n ≤ v.places) (sym e) r

pub add_run-requires : goal.add_run-requires
add_run-requires g c =
    let a = c.self.inside in
    let h : List Row = g.R.Recorder.rows a.recorder in
    let room = has_room h a c.args.self.now c.self.view_is c.args.count c.requires.room in
    record { room = omega (arith, room, c.self.invariant.room) }

pub overflow_add-self : goal.overflow_add-self
overflow_add-self g c =
    let a = c.self.inside in
    let h : List Row = g.R.Recorder.rows a.recorder in
    let t = clock_small _ c.self.inside _ _ c.self.invariant in
    let room = has_room h a c.args.self.now c.self.view_is c.args.count c.requires.room in
    let range = c.self.invariant.range in
    search (rules, t, room, range)

pub calm-requires : goal.calm-requires
calm-requires g c =
    let a = c.self.inside in
    let h : List Row = g.R.Recorder.rows a.recorder in
    λ k i. c.self.invariant.tally.slots_are k i ∙ ap (λ xs. option_map (entry h) (job_of k xs)) (is_quiet h a c.args.self.now c.self.view_is c.requires.none)

pub invariant_of-self : goal.invariant_of-self
invariant_of-self g c =
    let a = c.self.inside in
    let h : List Row = g.R.Recorder.rows a.recorder in
    let s : Slots = a.pending_jobs in
    let n : ℕ = c.args.count in
    let room = has_room h a c.args.self.now c.self.view_is n c.requires.room in
    grown_kept h _ a _ (replicate n row.Idle) _ _ _ _ c.self.invariant (omega (arith, room, length_copies row.Idle n h))
    (record { set = ap (λ (x : Slots). x.set) c.calm.ensures; rule = ap (λ (x : Slots). x.rule) c.calm.ensures; places = refl; rows_are = c.add_run.ensures.rows })
    c.add_run.ensures.capacity c.add_run.ensures.set
    (subst (λ (x : Slots). IsTally s.set s.rule (replicate n row.Idle ++ h) (a.ticks + n) x.high (waiting x)) (sym c.calm.ensures)
    (tally_idles s.set s.rule h a.ticks n s.high (waiting s) c.requires.some (is_quiet h a c.args.self.now c.self.view_is c.requires.none) c.self.invariant.tally))
    (noted_still s c.calm.new.self h (replicate n row.Idle ++ h) (ap (λ (x : Slots). x.set) c.calm.ensures) (ap (λ (x : Slots). x.discarded) c.calm.ensures) (idle_discards s.set h n) c.self.invariant.discards)

pub returns : goal.returns
returns g c =
    let a = c.self.inside in
    let h : List Row = g.R.Recorder.rows a.recorder in
    let rows : List Row = replicate c.args.count row.Idle in
    grown_seen h _ a (record a { recorder = c.add_run.new.self; ticks = a.ticks + c.args.count; pending_jobs = c.calm.new.self }) rows
    (record { set = ap (λ (x : Slots). x.set) c.calm.ensures; rule = ap (λ (x : Slots). x.rule) c.calm.ensures; places = refl; rows_are = c.add_run.ensures.rows })
    ∙ ap (λ (w : Written). let v : Written = record w { rows = rows ++ w.rows } in v) c.self.view_is
