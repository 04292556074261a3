use Rattle.edfvd_c.proofs.handle.Marked.{lends_open}
use Rattle.edfvd_c.proofs.handle.Handle.held.Goals as goal

pub returns-then-self-eq-OPEN_MARK : goal.returns-then-self-eq-OPEN_MARK
returns-then-self-eq-OPEN_MARK c =
    (lends_open c.held_mut.result.ghost_name c.args.self.now c.if-self-eq-OPEN_MARK.true _, record { writes_back = tt; some = c.held_mut.ensures.value; none = tt })
