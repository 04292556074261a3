use Rattle.std.proofs.Common.{◌∙◌, ◌++◌, ◌∷◌, [], sym, ap, subst, Some}
use Rattle.atomic_table.specs.Table.{opening}
use Rattle.turnstile.specs.Views.{newest_view}
use Rattle.turnstile.specs.Rule.{Orderly}
use Rattle.turnstile.proofs.Seating.{starts}
use Rattle.turnstile.proofs.turns.Turnstile.set_up.Goals as goal

pub new-requires : goal.new-requires
new-requires g c =
    let kept = g.S.Kept in
    let fixed = kept.fixed c.of.result.value in
    let items = c.push_reserved.ensures.items ∙ ap (λ l. l ++ Some c.args.state ∷ []) c.in-Ok.ensures.items in
    subst (λ xs. Orderly kept fixed c.args.seats (opening (0 ∷ 0 ∷ []) xs (newest_view fixed c.args.seats 0))) (sym items)
    (starts kept fixed c.args.seats c.args.state (ap kept.fixed (sym c.of.ensures)) c.requires.stands c.requires.seats)
