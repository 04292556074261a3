use Rattle.std.proofs.Common.{rules, ◌≡◌, ◌∙◌, ap, Some, refl, append_assoc}
use Rattle.std.proofs.lemmas.List.{map-append}
use Rattle.std.proofs.lemmas.List.Elements.{All-pop}
use Rattle.turnstile.proofs.Seating.{joins}
use Rattle.turnstile.proofs.turns.Turnstile.gather.Goals as goal

pub join_seat-requires : goal.join_seat-requires
join_seat-requires g c =
    let i = c.loop-seat.invariant.idle in
    let w = c.into_table_seat.ensures.1 in
    let items = c.in-Some.ensures.items in
    let all = All-pop (λ s. s.table_seat.table_id ≡ c.args.self.now.board.shared.table_id) _ c.pop.new.self.items (Some c.in-Some.seat) items c.loop-seat.invariant.of in (
      search rules,
      ap (λ p. p.table_id) c.into_table_seat.ensures.0 ∙ all.1,
      w.3,
      search rules,
      joins g.S.Kept _ _ _ _ _ _ (i.0, i.1, i.2) (w.0, w.1, w.2),
    )

pub loop-seat-preserved : goal.loop-seat-preserved
loop-seat-preserved g c =
    let old = c.loop-seat.invariant in
    let me = c.join_seat.ensures.2 in
    let items = c.in-Some.ensures.items in
    record {
      table = search rules;
      id = search rules;
      idle = rw me old.idle;
      me = rw (me, old.me) refl;
      joined = rw (me, c.into_table_seat.ensures.0) (simp (items, map-append, append_assoc) at old.joined);
      of = (All-pop (λ s. s.table_seat.table_id ≡ c.args.self.now.board.shared.table_id) _ c.pop.new.self.items (Some c.in-Some.seat) items old.of).0;
    }
