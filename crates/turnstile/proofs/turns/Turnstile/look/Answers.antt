use Rattle.std.proofs.Common.{rules, ap, sym, ◌∙◌, ◌∷◌, Some}
use Rattle.atomic_table.specs.Table.{rest}
use Rattle.turnstile.proofs.Serving.{looks}
use Rattle.turnstile.proofs.turns.Turnstile.look.Goals as goal

pub load-requires : goal.load-requires
load-requires g c = (c.requires.table, search rules, looks g.S.Kept _ _ _ _ _ c.requires.waits)

pub exchange-requires : goal.exchange-requires
exchange-requires g c =
    let t = c.load.ensures.2.0 (c.if-load-ticket.true ∙ sym c.requires.ticket) in
    let e = ap (λ m. m.1) t.1.1 in
    (search rules, (Some t.0, e ∙ ap (λ l. (0, Some t.0) ∷ rest l) (sym e)))
