use Rattle.std.proofs.Common.{◌≡◌, ◌∙◌, sym, subst, refl}
use Rattle.std.specs.Option.{IsSome}
use mathlib.Core.Option.{some-injective}
use Rattle.turnstile.specs.Joined.{Unseats}
use Rattle.turnstile.proofs.Seating.{ends}
use Rattle.turnstile.proofs.turns.Turnstile.unseat.Goals as goal

pub unwrap-requires : goal.unwrap-requires
unwrap-requires g c =
    let i = c.requires.idle in
    let e = ends g.S.Kept c.args.self _ _ _ _ (i.0, i.1, i.2) c.requires.all c.close_with-closed.ensures.values.2 in
    subst IsSome (some-injective _ _ (sym e.1 ∙ c.take-state.ensures.value)) refl

pub returns : goal.returns
returns g c =
    let i = c.requires.idle in
    let e = ends g.S.Kept c.args.self _ _ _ _ (i.0, i.1, i.2) c.requires.all c.close_with-closed.ensures.values.2 in
    let same : e.0 ≡ c.unwrap.result = cc in
    subst (Unseats g.S.Kept c.args.self c.args.table_seat.me.0) same e.2
