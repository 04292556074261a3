use Rattle.std.proofs.Common.{rules, arith, ◌≡◌, ℕ, suc, ◌+◌, ◌%◌, ◌^◌, ◌<◌, ◌∷◌, [], List, true, length, map, slice_index_or, inl, inr, refl, sym, ap, ◌∙◌, subst, ne_eqb}
use Rattle.std.specs.Prelude.{◌==◌}
use Rattle.std.specs.List.{list_any}
use Rattle.std.proofs.lemmas.Bool.{cases_eq, eq-eqb, eqb-true}
use Rattle.std.proofs.lemmas.List.{get_or_default}
use Rattle.std.proofs.lemmas.List.Elements.{All-map}
use Rattle.std.proofs.Math.Nat.{mod-eq_of_lt}
use Rattle.executive_tests.specs.declared.turns.counters.Player.{Player}
use Rattle.turnstile.specs.History.{made_by}
use Rattle.turnstile.specs.Seats.{IsOf, mine, number, seats_of, IsIn}
use Rattle.turnstile.proofs.Lists.{found, all_get}
use Rattle.executive_tests.proofs.turns.rounds.closed.Goals as goal

abbrev Order : ℕ → List Player → Type 0
Order n ps = (k : ℕ) (d : Player) → k < length ps → (slice_index_or ps k d).which + k + 1 ≡ n

-- in a list of players whose numbers fall to 0, each number below n has a player
has_each : (n k : ℕ) (ps : List Player) → length ps ≡ n → Order n ps → k < n → list_any (λ s. number s == k) (map (λ p. p.seat) ps) ≡ true
has_each n k [] len order lt = absurd (omega arith)
has_each n k (p ∷ ps) len order lt =
    let first : p.which + 0 + 1 ≡ n = order 0 p (omega arith) in
    let later : Order p.which ps = λ i d below. let here : (slice_index_or ps i d).which + suc i + 1 ≡ n = order (suc i) d (omega arith) in omega (arith, here, first) in
    elim (cases_eq (number p.seat) k) [
      | inl e ↦ rw (eq-eqb (number p.seat) k e) refl
      | inr ne ↦ rw (ne_eqb (number p.seat) k ne) (has_each p.which k ps (omega (arith, len, first)) later (omega (arith, first, p.own, ne, lt)))
    ]

pub close-requires-clause-of : goal.close-requires-clause-of
close-requires-clause-of c = rw c.give_seats.ensures (All-map (λ s. IsOf c.args.turns s) (λ p. p.seat) c.args.players.items c.requires.players.1)

pub close-requires-clause-each : goal.close-requires-clause-each
close-requires-clause-each c k lt = rw c.give_seats.ensures (has_each (seats_of c.args.turns) k c.args.players.items (search rules) c.requires.order lt)

pub returns : goal.returns
returns c =
    let t = c.close.ensures in
    let seats = map (λ p. p.seat) c.args.players.items in
    let all : length c.args.players.items ≡ seats_of c.args.turns = search rules in
    let len = t.fixed ∙ c.requires.turns in
    let counters : length c.close.result.counters.items ≡ seats_of c.args.turns = search rules in (
      len,
      λ k d lt.
          let lt2 : k < seats_of c.args.turns = subst (λ n. k < n) counters lt in
          let f = found (λ s. number s == k) seats (has_each (seats_of c.args.turns) k c.args.players.items all c.requires.order lt2) in
          let is = eqb-true (number f.1) k f.3 in
          let each = rw c.give_seats.ensures at t.each in
          let made = all_get (λ s. IsIn t.log s) seats f.0 f.1 each f.2 in
          let own = All-map (λ s. length (mine s) ≡ c.args.each) (λ p. p.seat) c.args.players.items c.requires.players.2 in
          let turns = all_get (λ s. length (mine s) ≡ c.args.each) seats f.0 f.1 own f.2 in
          let count : length (made_by (λ e. e.which) k t.log) ≡ c.args.each = ap (λ n. length (made_by (λ e. e.which) n t.log)) (sym is) ∙ (ap length (sym made.1) ∙ turns) in
          let small : c.args.each < 2 ^ 64 = search rules in
          get_or_default c.close.result.counters.items k d 0 lt ∙ (t.stands k lt ∙ (ap (λ n. n % 2 ^ 64) count ∙ mod-eq_of_lt small)),
    )
