-- The rule at the start, after one more seat is made, and after a seat is joined into another; and the state
-- once one seat has taken in all others.
use Rattle.std.proofs.Common.{◌≡◌, ℕ, zero, suc, ◌<◌, ◌≤◌, List, [], ◌∷◌, length, set, sym, refl, ap, ◌∙◌, subst, inl, inr, arith, length-set, true, false, Option, Some}
use Rattle.std.proofs.lemmas.Bool.{false_from_ne_true}
use Rattle.std.proofs.lemmas.List.{set_comm}
use mathlib.Core.Option.{some, some-injective, some-ne-none}
use mathlib.Core.Option as maybe
use lib.ListN.{get_elem?}
use Rattle.atomic_table.specs.Table.{Splits, Joins, Final, Seen, opening}
use Rattle.atomic_table.proofs.Lists.{set_else}
use Rattle.turnstile.specs.declared.board.SeatView.{SeatView}
use Rattle.turnstile.specs.declared.board.Report.{Report}
use Rattle.turnstile.specs.declared.kept.Kept.{Ghosts}
use Rattle.turnstile.specs.declared.turns.Turnstile.{Turnstile}
use Rattle.turnstile.specs.Views.{newest_view, older_view, next_view, report_of, both_views, spent_view}
use Rattle.turnstile.specs.Rule.{HasAllOf, IsReported, IsAtHome}
use Rattle.turnstile.specs.Seats.{seats_of, fixed_part}
use Rattle.turnstile.specs.Joined.{Covers, Unseats}
use Rattle.turnstile.proofs.Lists.{all_of, set_at, set_all, below, both_ways, never}
use Rattle.turnstile.proofs.Stepping.{Rule, steps, quiet, slot_set, appended}

module _ {S E F : Type 0} (kept : Ghosts S E F) (fixed : F) (seats : ℕ) where
  -- a table without a seat keeps the rule
  empty : (x : S) → kept.fixed x ≡ fixed → kept.stands 0 [] x → seats ≤ 128
      → Rule kept fixed seats (record { words = 0 ∷ 0 ∷ []; homes = some (Some x) ∷ []; views = [] })
  empty x same ok few = record {
    drawn = 0;
    history = [];
    words = refl;
    few = (omega arith, few);
    count = refl;
    each = λ id v at. absurd (some-ne-none v (sym at));
    in_hand = λ k lo hi. absurd (omega arith);
    differ = λ i j v w at. absurd (some-ne-none v (sym at));
    later = λ k h. refl;
    reports = λ id k v r at. absurd (some-ne-none v (sym at));
    slot = inl (x, refl, ok, same, λ id v at. absurd (some-ne-none v (sym at)));
  }

  -- the rule holds at the start
  pub starts : (x : S) → kept.fixed x ≡ fixed → kept.stands 0 [] x → (0 < seats) × (seats ≤ 128)
      → Rule kept fixed seats (opening (0 ∷ 0 ∷ []) (Some x ∷ []) (newest_view fixed seats 0))
  starts x same ok few = appended kept fixed seats _ (empty x same ok few.1) few.0 (λ id v at. absurd (some-ne-none v (sym at)))

  -- making one more seat keeps the rule
  pub splits : (id : ℕ) (v : SeatView E F) → (v.live ≡ true) × (v.has_ticket ≡ false) × (v.served ≡ false) → v.is_newest ≡ true → v.next_number < v.seats
      → Splits (Rule kept fixed seats) id v (older_view v) (next_view v)
  splits id v idle is_newest room s r at =
      let f = r.each id v at in
      let known = f.known idle.0 in
      let one = f.newest is_newest in
      let m : SeatView E F = older_view v in
      let older = quiet kept fixed seats s r id v m s.words s.homes at idle.0 refl (λ _. refl)
      (record { known = f.known; range = f.range; turn = f.turn; seen = f.seen; mine = f.mine; newest = never })
      (λ k p. r.reports id k v p at) r.words (slot_set kept fixed seats r.history s.homes s.views id v m at idle.2 idle.2 r.slot) in
      let none = set_all (λ n j u. u.is_newest ≡ false) s.views id m refl
      (λ j u ne at_j. false_from_ne_true u.is_newest (λ on. let last = (r.each j u at_j).newest on in ne (omega (arith, one.0, last.0)))) in
      let next : newest_view fixed seats (length s.views) ≡ next_view v = cc in
      rw (length-set s.views id m, next) at (appended kept fixed seats _ older (rw length-set (omega (arith, one.1, known.2))) none)

  -- joining a seat into another, which keeps what the first knew, keeps the rule
  pub joins : (id other : ℕ) (v w : SeatView E F) → (v.live ≡ true) × (v.has_ticket ≡ false) × (v.served ≡ false)
      → (w.live ≡ true) × (w.has_ticket ≡ false) × (w.served ≡ false) → Joins (Rule kept fixed seats) id v other w (both_views v w) spent_view
  unfolding steps quiet
  joins id other v w vi wi s r at ne at_both =
      let b : SeatView E F = both_views v w in
      let at_w : get_elem? s.views other ≡ some w = sym (set_else s.views id other b ne) ∙ at_both in
      let vs : List (SeatView E F) = set s.views other spent_view in
      let fw = r.each other w at_w in
      let known = fw.known wi.0 in
      let spent : Rule kept fixed seats (record { words = s.words; homes = s.homes; views = vs }) =
      quiet kept fixed seats s r other w spent_view s.words s.homes at_w wi.0 (sym wi.1) (λ on. both_ways w.has_ticket on wi.1)
      (record { known = never; range = never; turn = never; seen = never; mine = never; newest = never })
      (λ k p at_k. absurd (some-ne-none p (sym at_k))) r.words (slot_set kept fixed seats r.history s.homes s.views other w spent_view at_w wi.2 refl r.slot) in
      let at_v : get_elem? vs id ≡ some v = set_else s.views other id spent_view (λ e. ne (sym e)) ∙ at in
      let f = spent.each id v at_v in
      let fresh : IsReported kept.by r.history vs (report_of w)
      = rw known.0 (set_at s.views other w spent_view at_w, (fw.seen wi.0, fw.mine wi.0)) in
      rw (set_comm s.views id other b spent_view (λ e. ne (sym e)))
      (quiet kept fixed seats _ spent id v b s.words s.homes at_v vi.0 refl (λ _. refl)
      (record { known = f.known; range = f.range; turn = f.turn; seen = f.seen; mine = f.mine; newest = f.newest })
      (more_known fresh (λ k p. spent.reports id k v p at_v)) r.words (slot_set kept fixed seats r.history s.homes vs id v b at_v vi.2 vi.2 spent.slot))
    where
      more_known : {P : Report E → Type 0} → P (report_of w) → ((k : ℕ) (p : Report E) → get_elem? v.joined k ≡ some p → P p)
          → (k : ℕ) (p : Report E) → get_elem? (report_of w ∷ v.joined) k ≡ some p → P p
      more_known {P} here there zero p e = subst P (some-injective (report_of w) p e) here
      more_known here there (suc k) p e = there k p e

-- once one seat has taken in all others, the state is in its slot
pub ends : {S E F : Type 0} (kept : Ghosts S E F) (t : Turnstile S E F) (id : ℕ) (v : SeatView E F) (ws : List ℕ) (xs : List (Option S))
    → (v.live ≡ true) × (v.has_ticket ≡ false) × (v.served ≡ false) → Covers (seats_of t) v
    → Final (Seen (Rule kept (fixed_part kept.fixed t) (seats_of t)) id v) ws xs → (x : S) × (get_elem? xs 0 ≡ some (Some x)) × Unseats kept t v x
ends {S} kept t id v ws xs is covers final =
    let s = final.0 in
    let r = final.1.0 in
    let at = final.1.1 in
    let f = r.each id v at in
    let few = r.few.0 in
    let h : IsAtHome kept (fixed_part kept.fixed t) (seats_of t) r.history s.homes s.views = elim r.slot [
      | inl q ↦ q
      | inr a ↦ let inside = below s.views a.0 a.1 a.2 in let number = (f.known is.0).0 in elim (covers a.0 (omega arith)) [
        | inl q ↦ absurd (cc)
        | inr q ↦ let spent = (r.reports id q.0 v q.1 at q.2).0 in absurd (cc)
      ]
    ] in (
      h.0,
      final.4 0 (Some h.0) (ap (λ (hs : List (maybe.Option (Option S))). get_elem? hs 0) h.1),
      record {
        log = r.history;
        stands = h.2;
        fixed = h.3;
        own = rw (f.known is.0).0 (f.seen is.0, f.mine is.0);
        known = all_of (HasAllOf kept.by r.history) v.joined (λ k p at_k. (r.reports id k v p at at_k).1);
        others = λ k le. r.later k (omega arith);
      },
    )
