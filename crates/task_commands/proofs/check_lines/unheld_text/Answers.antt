use Rattle.std.proofs.Common.{◌≡◌}
use Rattle.std.proofs.lemmas.Bool.Decides.{same_from_decides}
use Rattle.std.proofs.lemmas.Result.{IfOk-weaker}
use Rattle.mc_model.proofs.ScaledTests.{scale_holds-Decides}
use Rattle.task_commands.proofs.check_lines.unheld_text.Goals as goal

pub returns-in-Some : goal.returns-in-Some
returns-in-Some c = λ tasks belong.
    let same = same_from_decides _ _ (c.holds_for.ensures.exactly tasks belong) (scale_holds-Decides tasks c.in-Some.scale) in
    rw (c.in-Some.is, ← same, c.if-holds_for.true) c.new.ensures.bytes

pub returns-in-Some-2 : goal.returns-in-Some-2
returns-in-Some-2 c = IfOk-weaker c.scale_text.result _ _ (λ line is tasks belong.
    let same = same_from_decides _ _ (c.holds_for.ensures.exactly tasks belong) (scale_holds-Decides tasks c.in-Some.scale) in
    let one : c.in-Some-2.scale ≡ c.in-Some.scale = cc (c.in-Some.is, c.in-Some-2.is) in
    rw (c.in-Some.is, ← same, c.if-holds_for.false) (rw one at is)) c.scale_text.ensures
