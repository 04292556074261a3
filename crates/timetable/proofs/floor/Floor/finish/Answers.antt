use Rattle.std.proofs.Common.{◌≡◌, true, None, sym, ◌∙◌, subst}
use Rattle.timetable.specs.Floor.{FloorState, is_planned}
use Rattle.timetable.proofs.Determined.{one_follows}
use Rattle.timetable.proofs.NextActs.{ended}
use Rattle.mode_core.proofs.CallerLemmas.{sound_timely}
use Rattle.timetable.proofs.InTime.{sound_kept, sound_ended}
use Rattle.timetable.proofs.floor.Floor.finish.Goals as goal

pub returns : goal.returns
returns c =
    let planned = subst (λ (f : FloorState). is_planned f.plan ≡ true) (sym c.loop-self.invariant) c.requires.planned in
    let out = subst (λ (f : FloorState). f.core.out ≡ None) (sym c.loop-self.invariant) c.requires.out in
    let sound = c.is_finished.ensures.sound in
    let finished = sym c.is_finished.ensures.value ∙ c.loop-self-test.false in
    let last = ended c.loop-self.self.core c.loop-self.self.plan c.loop-self.self.taken planned out finished sound c.is_finished.ensures.run in
    record {
      trace = last.trace;
      law = λ set rule work n g h tasks fits of_g of_h. one_follows set rule work n g h tasks.each fits of_g of_h;
      timely = sound_timely c.loop-self.self.core sound;
      kept = sound_kept c.loop-self.self.core sound;
      ended = sound_ended c.loop-self.self.core sound;
      taken = last.taken;
      finished = last.next;
      stays = c.loop-self.invariant;
    }
