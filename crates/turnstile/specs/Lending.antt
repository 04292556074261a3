-- The state that a turn lends.
use Rattle.std.specs.Prelude.{[]}
use Rattle.std.specs.Borrow.{Lends, MutBor, Fml}
use mir.Syntax.{named}
use denote.RattleType.{RattleType}
use Rattle.turnstile.specs.declared.kept.Kept.{Ghosts}
use Rattle.turnstile.specs.declared.tokens.Turn.{Turn}
use Rattle.turnstile.specs.contracts.tokens.Turn.{the_row}

module _ (S E F : RattleType) (g : Ghosts S.Denot E.Denot F.Denot) where
  -- the turn with another state
  abbrev pub with_state : Turn S.Denot E.Denot F.Denot g → S.Denot → Turn S.Denot E.Denot F.Denot g
  with_state t x = record t { state = x }

  -- the turn ends with the last value that was written through r as its state
  abbrev pub LendsState : MutBor (Turn S.Denot E.Denot F.Denot g) → MutBor S.Denot → Fml
  LendsState t r = Lends (the_row (record { mir = named 1; lft = [] }) S E F g) S t r (with_state t.now)
