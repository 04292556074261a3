use Rattle.std.proofs.Common.{sym}
use Rattle.calling_examples.proofs.Steps.{is_free, grant_adds, never_refused, idle_adds}
use Rattle.calling_examples.proofs.schedule.give_tick.Goals as goal

pub returns-in-Ok : goal.returns-in-Ok
returns-in-Ok g c =
    let free = is_free c.args.core.now c.ticks-sound.ensures.sound c.requires.none_out c.requires.room in
    grant_adds c.args.core.now c.grant.new.self c.outcome.new.self c.in-Some.job c.in-Ok.granted c.run-done.result free (sym c.in-Some.ensures.value) c.in-Ok.ensures.answer c.grant.ensures.state c.outcome.ensures.state

pub returns-in_default : goal.returns-in_default
returns-in_default g c =
    let free = is_free c.args.core.now c.ticks-sound.ensures.sound c.requires.none_out c.requires.room in
    absurd (never_refused c.args.core.now c.in-Some.job c.in_default.field-0 free (sym c.in-Some.ensures.value) c.in_default.ensures.answer)

pub returns-in-None : goal.returns-in-None
returns-in-None g c =
    let free = is_free c.args.core.now c.ticks-sound.ensures.sound c.requires.none_out c.requires.room in
    idle_adds c.args.core.now c.idle.new.self free (sym c.in-None.ensures.value) c.idle.ensures.state
