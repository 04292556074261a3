use Rattle.calling_examples.proofs.Lives.{no_error}
use Rattle.calling_examples.proofs.live.hand_on.Goals as goal

pub returns-in-None-clause-watched : goal.returns-in-None-clause-watched
returns-in-None-clause-watched g c = no_error c.observe_and_write.result c.err.result c.err.ensures.variant c.observe_and_write.ensures.watched
