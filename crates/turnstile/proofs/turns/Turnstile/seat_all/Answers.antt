use Rattle.std.proofs.Common.{rules, arith, ◌≡◌, ◌+◌, ◌∙◌, ◌∷◌, ◌++◌, [], All, length, List, length-append, sym, ap, refl, subst, Some}
use Rattle.std.proofs.lemmas.List.Elements.{All-push, All-same}
use Rattle.turnstile.specs.declared.board.SeatView.{SeatView}
use Rattle.turnstile.specs.declared.kept.Kept.{Ghosts}
use Rattle.turnstile.specs.declared.tokens.Seat.{Seat}
use Rattle.turnstile.specs.declared.turns.Turnstile.{Turnstile}
use Rattle.turnstile.specs.Views.{older_view}
use Rattle.turnstile.specs.Seats.{IsOf, IsFresh, AreFresh, fixed_part}
use Rattle.turnstile.proofs.Seating.{splits}
use Rattle.turnstile.proofs.Lists.{each_last}
use Rattle.turnstile.proofs.turns.Turnstile.seat_all.Goals as goal

-- one more fresh seat of the turnstile at the end of the list
one_more : {S E F : Type 0} {kept : Ghosts S E F} (t : Turnstile S E F) (seats more : List (Seat S E F kept)) (s : Seat S E F kept) (v : SeatView E F)
    → more ≡ seats ++ s ∷ [] → AreFresh seats → All (λ s. IsOf t s) seats → s.table_seat.table_id ≡ t.board.shared.table_id → s.table_seat.me.0 ≡ v
    → (v.number ≡ length seats) × (v.seen ≡ []) × (v.mine ≡ []) × (v.fixed ≡ Some (fixed_part kept.fixed t)) → AreFresh more × All (λ s. IsOf t s) more
one_more t seats more s v is fresh all table me new = (
  subst AreFresh (sym is) (each_last IsFresh seats s fresh (ap (λ w. w.number) me ∙ new.0, ap (λ w. w.seen) me ∙ new.1, ap (λ w. w.mine) me ∙ new.2)),
  All-same (λ s. IsOf t s) _ _ is (All-push (λ s. IsOf t s) seats s all (table, ap (λ w. w.fixed) me ∙ new.3)),
)

pub split_seat-next-requires : goal.split_seat-next-requires
split_seat-next-requires g c =
    let l = c.loop-i.invariant in
    let lt = c.loop-i-test.true in (
      l.table,
      search rules,
      splits g.S.Kept _ _ c.loop-i.table_seat.id c.loop-i.table_seat.me.0 (rw l.me (refl, refl, refl)) (rw l.me refl) (rw l.me (omega (arith, l.len, lt))),
    )

pub loop-i-preserved : goal.loop-i-preserved
loop-i-preserved g c =
    let l = c.loop-i.invariant in
    let split = c.split_seat-next.ensures in
    let items = c.push_reserved.ensures.items in
    let more = one_more c.args.self.now c.loop-i.list.items _ _ _ items l.fresh l.all (ap (λ p. p.table_id) c.of.ensures ∙ (split.0 ∙ l.table))
    (ap (λ p. p.me.0) c.of.ensures ∙ (ap (λ m. m.0) split.2 ∙ ap (λ m. older_view m.0) l.me)) (refl, refl, refl, refl) in
    let len : length c.push_reserved.new.self.items ≡ length c.loop-i.list.items + 1 = ap length items ∙ length-append c.loop-i.list.items (c.of.result ∷ []) in
    record {
      low = omega arith;
      table = search rules;
      me = rw (split.4, l.me, len) refl;
      len = omega (arith, len, l.len);
      room = search rules;
      capacity = search rules;
      fresh = more.0;
      all = more.1;
    }

pub returns : goal.returns
returns g c =
    let l = c.loop-i.invariant in
    let more = one_more c.args.self.now c.loop-i.list.items _ _ _ c.push_reserved-2.ensures.items l.fresh l.all (ap (λ p. p.table_id) c.of-2.ensures ∙ l.table)
    (ap (λ p. p.me.0) c.of-2.ensures ∙ ap (λ m. m.0) l.me) (refl, refl, refl, refl) in
    let len = c.push_reserved-2.ensures.len in
    record { seats = (search rules, more.0, more.1); room = search rules }
