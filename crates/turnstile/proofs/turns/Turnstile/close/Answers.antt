use Rattle.std.proofs.Common.{◌≡◌, ◌⊎◌, ℕ, suc, ◌∙◌, ◌++◌, ◌∷◌, ◌==◌, [], List, true, inl, inr, sym, ap, refl, subst, map, All, ne_eqb}
use Rattle.std.specs.List.{list_any}
use Rattle.std.specs.Option.{option_to_list}
use Rattle.std.proofs.lemmas.Bool.{cases_eq}
use Rattle.std.proofs.lemmas.List.Elements.{All-push, All-same}
use mathlib.Core.Option.{some}
use lib.ListN.{get_elem?}
use Rattle.turnstile.specs.declared.board.Report.{Report}
use Rattle.turnstile.specs.declared.kept.Kept.{Ghosts}
use Rattle.turnstile.specs.declared.tokens.Seat.{Seat}
use Rattle.turnstile.specs.Rule.{HasAllOf}
use Rattle.turnstile.specs.Views.{report_of}
use Rattle.turnstile.specs.Seats.{number}
use Rattle.turnstile.specs.Joined.{report}
use Rattle.turnstile.proofs.Lists.{held_first}
use Rattle.turnstile.proofs.turns.Turnstile.close.Goals as goal

-- a number of some seat of a list is that of the last seat, or of one of the seats that it took in
covered : {S E F : Type 0} {kept : Ghosts S E F} (seats : List (Seat S E F kept)) (last : Seat S E F kept) (more : List (Report E)) (k : ℕ)
    → list_any (λ s. number s == k) (seats ++ last ∷ []) ≡ true
    → (k ≡ number last) ⊎ ((i : ℕ) × (r : Report E) × (get_elem? (map report seats ++ more) i ≡ some r) × (r.number ≡ k))
covered [] last more k e = elim (cases_eq (number last) k) [ inl is ↦ inl (sym is) | inr ne ↦ (let no = rw (ne_eqb (number last) k ne) at e in absurd (cc)) ]
covered (s ∷ seats) last more k e = elim (cases_eq (number s) k) [
  | inl is ↦ inr (0, report s, refl, is)
  | inr ne ↦ elim (covered seats last more k (rw (ne_eqb (number s) k ne) at e)) [ inl is ↦ inl is | inr t ↦ inr (suc t.0, t.1, t.2, t.3) ]
]

pub unseat-requires-clause-all : goal.unseat-requires-clause-all
unseat-requires-clause-all g c k lt =
    rw (c.gather.ensures.me, c.into_table_seat-table_seat.ensures.0)
    (covered c.pop.new.self.items c.unwrap-first.result _ k (rw (c.pop.ensures.items, c.unwrap-first.ensures) at (c.requires.each k lt)))

pub returns : goal.returns
returns g c =
    let u = c.unseat.ensures in
    let by = g.S.Kept.by in
    let seats = c.pop.new.self.items in
    let me = c.gather.ensures.me in
    let known = subst (λ m. All (HasAllOf by u.log) m.0.joined) me u.known in
    let own = subst (λ p. HasAllOf by u.log (report_of p.me.0)) c.into_table_seat-table_seat.ensures.0 (subst (λ m. HasAllOf by u.log (report_of m.0)) me u.own) in
    let items = c.pop.ensures.items ∙ ap (λ r. seats ++ option_to_list r) c.unwrap-first.ensures in
    record {
      log = u.log;
      stands = u.stands;
      fixed = u.fixed;
      each = All-same (λ s. HasAllOf by u.log (report s)) _ _ items
          (All-push (λ s. HasAllOf by u.log (report s)) seats c.unwrap-first.result (held_first (HasAllOf by u.log) report seats _ known) own);
      others = u.others;
    }
