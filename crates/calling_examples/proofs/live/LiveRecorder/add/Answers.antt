use Rattle.std.proofs.Common.{◌<◌, ◌^◌, length, refl, sym, subst}
use Rattle.calling_examples.specs.Live.{LiveRows}
use Rattle.calling_examples.specs.Handed.{rows_of_live}
use Rattle.calling_examples.proofs.Lives.{clock_small, one_more}
use Rattle.calling_examples.proofs.live.LiveRecorder.add.Goals as goal

pub ticks_after-self-inside-requires : goal.ticks_after-self-inside-requires
ticks_after-self-inside-requires g c =
    clock_small (g.W.Lines.written c.self.inside.out) c.self.inside c.self.invariant
    (subst (λ (live : LiveRows). length live.rows < 2 ^ 62) (sym c.self.view_is) c.requires.room)

pub invariant_of-self : goal.invariant_of-self
invariant_of-self g c =
    let a = c.self.inside in
    let handed = c.hand_on-self-inside.ensures in
    one_more (g.W.Lines.written a.out) (g.W.Lines.written c.hand_on-self-inside.new.out) a _ c.args.row c.self.invariant c.add.ensures.rows
    refl handed.set (c.ticks_after-self-inside.ensures (rows_of_live a) c.self.invariant.clock) handed.before handed.watched
    handed.line
