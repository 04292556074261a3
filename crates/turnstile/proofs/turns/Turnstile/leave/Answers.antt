use Rattle.std.proofs.Common.{rules, ap, sym, ◌∙◌, ◌∷◌, Some}
use Rattle.atomic_table.specs.Table.{rest}
use Rattle.turnstile.proofs.Serving.{passes}
use Rattle.turnstile.proofs.turns.Turnstile.leave.Goals as goal

pub fetch_add-served-requires : goal.fetch_add-served-requires
fetch_add-served-requires g c =
    let claim = c.args.turn.claim in
    let served = claim.served in
    let here = c.exchange-empty.ensures.3 ∙ ap (λ l. (claim.table_seat.me.0, (0, Some c.args.turn.state) ∷ rest l)) served.3 in (
      search rules,
      search rules,
      passes g.S.Kept _ _ _ _ _ _ _ _ c.args.self.now.sized.1 here (served.0, served.1, served.2) c.requires.by c.requires.stands
          (c.requires.of.1 ∙ ap Some (sym c.requires.fixed)),
    )
