use Rattle.std.proofs.Common.{refl, sym}
use Rattle.calling_examples.proofs.Lives.{legal_trace}
use Rattle.calling_examples.proofs.live.finished.Goals as goal

pub returns-in-None-clause-trace : goal.returns-in-None-clause-trace
returns-in-None-clause-trace g c =
    let core = c.args.core in
    legal_trace core.set core.rule core.rows c.into_recorder-live.result c.into_recorder-live.ensures.set.0 c.into_recorder-live.ensures.set.1
    c.into_recorder-live.ensures.rows (sym c.in-None.ensures.value) c.recorder-legal.ensures.legal c.recorder-legal.ensures.timely.now (c.in-None.ensures.text refl)
