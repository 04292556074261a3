use Rattle.std.proofs.Common.{◌+◌, List, ◌∷◌, refl, sym, ap, ◌∙◌, subst, rules}
use Rattle.mc_model.specs.declared.row.Row.{Row}
use Rattle.mc_model.specs.declared.row.Row.TheVariants as row
use Rattle.mode_core.specs.Slots.{Slots, waiting}
use Rattle.mode_core.specs.Written.{Written}
use Rattle.mode_core.specs.Representation.{IsTally}
use Rattle.mode_core.proofs.Tally.{quiet, tally_idle}
use Rattle.mode_core.proofs.Discards.{noted_still}
use Rattle.mode_core.proofs.Opened.{opened_legal, opened_room, clock_small, room_for_one, one_more_seen, one_more_kept}
use Rattle.mode_core.proofs.schedule_log.ScheduleLog.push_idle.Goals as goal

pub add-requires : goal.add-requires
add-requires g c = record { room = room_for_one _ c.self.inside _ _ c.self.invariant c.args.self.now c.self.view_is c.requires.room }

pub overflow_add-self : goal.overflow_add-self
overflow_add-self g c = let t = clock_small _ c.self.inside _ _ c.self.invariant in search (rules, t)

pub calm-requires : goal.calm-requires
calm-requires g c =
    let a = c.self.inside in
    let h : List Row = g.R.Recorder.rows a.recorder in
    quiet a.pending_jobs.set a.pending_jobs.rule h a.ticks a.pending_jobs.high (waiting a.pending_jobs) (opened_legal h a c.args.self.now (λ w. row.Idle) c.self.view_is c.requires.legal) c.self.invariant.tally

pub invariant_of-self : goal.invariant_of-self
invariant_of-self g c =
    let a = c.self.inside in
    let h : List Row = g.R.Recorder.rows a.recorder in
    let s : Slots = a.pending_jobs in
    let l = opened_legal h a c.args.self.now (λ w. row.Idle) c.self.view_is c.requires.legal in
    one_more_kept h _ a _ row.Idle _ _ _ _ c.self.invariant (opened_room h a c.args.self.now c.self.view_is c.requires.room)
    (record { set = ap (λ (x : Slots). x.set) c.calm.ensures; rule = ap (λ (x : Slots). x.rule) c.calm.ensures; places = refl; rows = c.add.ensures.rows })
    c.add.ensures.capacity c.add.ensures.set
    (subst (λ (x : Slots). IsTally s.set s.rule (row.Idle ∷ h) (a.ticks + 1) x.high (waiting x)) (sym c.calm.ensures)
    (tally_idle s.set s.rule h a.ticks s.high (waiting s) l c.self.invariant.tally))
    (noted_still s c.calm.new.self h (row.Idle ∷ h) (ap (λ (x : Slots). x.set) c.calm.ensures) (ap (λ (x : Slots). x.discarded) c.calm.ensures) (λ k. refl) c.self.invariant.discards)

pub returns : goal.returns
returns g c =
    let a = c.self.inside in
    one_more_seen (g.R.Recorder.rows a.recorder) _ a (record a { recorder = c.add.new.self; ticks = a.ticks + 1; pending_jobs = c.calm.new.self }) row.Idle
    (record { set = ap (λ (x : Slots). x.set) c.calm.ensures; rule = ap (λ (x : Slots). x.rule) c.calm.ensures; places = refl; rows = c.add.ensures.rows })
    ∙ ap (λ (w : Written). let v : Written = record w { rows = row.Idle ∷ w.rows } in v) c.self.view_is
