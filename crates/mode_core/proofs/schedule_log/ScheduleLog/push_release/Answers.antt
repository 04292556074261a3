use Rattle.std.proofs.Common.{List, ◌∷◌, Bool, refl, sym, ap, ◌∙◌, subst}
use Rattle.mc_model.specs.declared.row.Row.{Row}
use Rattle.mc_model.specs.declared.row.Row.TheVariants as row
use Rattle.mc_model.specs.Legal.{Legal}
use Rattle.mode_core.specs.Slots.{Slots, waiting}
use Rattle.mode_core.specs.Written.{Written}
use Rattle.mode_core.specs.Representation.{IsTally}
use Rattle.mode_core.proofs.Tally.{slot_free, began, tally_dropped}
use Rattle.mode_core.proofs.Discards.{noted_still}
use Rattle.mode_core.proofs.Opened.{opened_legal, opened_room, clock_small, room_for_one, one_more_seen, one_more_kept}
use Rattle.mode_core.proofs.schedule_log.ScheduleLog.push_release.Goals as goal

pub add-requires : goal.add-requires
add-requires g c = record { room = room_for_one _ c.self.inside _ _ c.self.invariant c.args.self.now c.self.view_is c.requires.room }

pub begin-requires : goal.begin-requires
begin-requires g c =
    let a = c.self.inside in
    let h : List Row = g.R.Recorder.rows a.recorder in
    let l = opened_legal h a c.args.self.now (λ w. row.Release c.args.job c.args.kept) c.self.view_is c.requires.legal in
    record {
      in_set = l.0;
      range = clock_small h a _ _ c.self.invariant;
      free =
          slot_free a.pending_jobs.set a.pending_jobs.rule h a.ticks a.pending_jobs.high (waiting a.pending_jobs) c.args.job c.args.kept
          c.self.invariant.tasks.each c.self.invariant.holds l c.self.invariant.tally;
    }

pub invariant_of-self : goal.invariant_of-self
invariant_of-self g c =
    let a = c.self.inside in
    let h : List Row = g.R.Recorder.rows a.recorder in
    let s : Slots = a.pending_jobs in
    let l = opened_legal h a c.args.self.now (λ w. row.Release c.args.job c.args.kept) c.self.view_is c.requires.legal in
    let k = c.if-kept.true in
    let e = c.begin.ensures.state in
    one_more_kept h _ a _ (row.Release c.args.job c.args.kept) _ _ _ _ c.self.invariant (opened_room h a c.args.self.now c.self.view_is c.requires.room)
    (record { set = e.same_set; rule = e.same_rule; places = refl; rows = c.add.ensures.rows })
    c.add.ensures.capacity c.add.ensures.set
    (subst (λ (b : Bool). IsTally s.set s.rule (row.Release c.args.job b ∷ h) a.ticks c.begin.new.self.high (waiting c.begin.new.self)) (sym k)
    (began s c.begin.new.self h a.ticks c.args.job (subst (λ (b : Bool). Legal s.set s.rule (row.Release c.args.job b ∷ h)) k l) e c.self.invariant.tally))
    (noted_still s c.begin.new.self h (row.Release c.args.job c.args.kept ∷ h) e.same_set c.begin.ensures.discarded (λ k. refl) c.self.invariant.discards)

pub returns-then-kept : goal.returns-then-kept
returns-then-kept g c =
    let a = c.self.inside in
    let e = c.begin.ensures.state in
    one_more_seen (g.R.Recorder.rows a.recorder) _ a (record a { recorder = c.add.new.self; pending_jobs = c.begin.new.self }) (row.Release c.args.job c.args.kept)
    (record { set = e.same_set; rule = e.same_rule; places = refl; rows = c.add.ensures.rows })
    ∙ ap (λ (w : Written). let v : Written = record w { rows = row.Release c.args.job c.args.kept ∷ w.rows } in v) c.self.view_is

pub invariant_of-self-else-kept : goal.invariant_of-self-else-kept
invariant_of-self-else-kept g c =
    let a = c.self.inside in
    let h : List Row = g.R.Recorder.rows a.recorder in
    let s : Slots = a.pending_jobs in
    let l = opened_legal h a c.args.self.now (λ w. row.Release c.args.job c.args.kept) c.self.view_is c.requires.legal in
    let k = c.if-kept.false in
    one_more_kept h _ a _ (row.Release c.args.job c.args.kept) _ _ _ _ c.self.invariant (opened_room h a c.args.self.now c.self.view_is c.requires.room)
    (record { set = refl; rule = refl; places = refl; rows = c.add.ensures.rows })
    c.add.ensures.capacity c.add.ensures.set
    (subst (λ (b : Bool). IsTally s.set s.rule (row.Release c.args.job b ∷ h) a.ticks s.high (waiting s)) (sym k)
    (tally_dropped s.set s.rule h a.ticks s.high (waiting s) c.args.job (subst (λ (b : Bool). Legal s.set s.rule (row.Release c.args.job b ∷ h)) k l) c.self.invariant.tally))
    (noted_still s s h (row.Release c.args.job c.args.kept ∷ h) refl refl (λ k. refl) c.self.invariant.discards)
