use Rattle.std.proofs.Common.{rules}
use Rattle.turnstile.proofs.Serving.{draws}
use Rattle.turnstile.proofs.turns.Turnstile.draw.Goals as goal

pub fetch_add-requires : goal.fetch_add-requires
fetch_add-requires g c = (c.requires.table, search rules, draws g.S.Kept _ _ _ _ _ c.requires.idle)
