-- A step that draws a ticket, looks at the served one, or passes the turn on keeps the rule.
use Rattle.std.proofs.Common.{◌≡◌, ℕ, ◌+◌, ◌%◌, ◌^◌, ◌≤◌, ◌≢◌, List, [], ◌∷◌, ◌++◌, length, set, slice_index, sym, refl, ap, ◌∙◌, subst, inl, inr, arith, length-append, Bool, true, false, Option, Some}
use Rattle.std.proofs.lemmas.Bool.{cases_eq, false_from_ne_true}
use Rattle.std.proofs.Math.Nat.{mod-add-mod}
use mathlib.Core.Option.{some}
use mathlib.Core.Option as maybe
use lib.ListN.{get_elem?}
use Rattle.atomic_table.specs.Table.{State, step, keeps, takes, gives, Allows}
use Rattle.atomic_table.proofs.Lists.{one_turn}
use Rattle.turnstile.specs.declared.board.SeatView.{SeatView}
use Rattle.turnstile.specs.declared.kept.Kept.{Ghosts}
use Rattle.turnstile.specs.History.{made_by}
use Rattle.turnstile.specs.Views.{drawn_view, served_view, left_view}
use Rattle.turnstile.specs.Rule.{one_if, tickets_out, IsAtHome}
use Rattle.turnstile.specs.Steps.{Standing, IsIdle, IsWaiting, Draws, Looks, PassesOn}
use Rattle.turnstile.proofs.Lists.{set_at, set_all, set_one, both_ways, never}
use Rattle.turnstile.proofs.Histories.{whole, longer, made_yes, made_no}
use Rattle.turnstile.proofs.Stepping.{Rule, steps, quiet, slot_set}

one_if_le : (b : Bool) → one_if b ≤ 1
one_if_le true = omega arith
one_if_le false = omega arith

tickets_le : {E F : Type 0} (views : List (SeatView E F)) → tickets_out views ≤ length views
tickets_le [] = omega arith
tickets_le (x ∷ xs) = omega (arith, one_if_le x.has_ticket, tickets_le xs)

module _ {S E F : Type 0} (kept : Ghosts S E F) (fixed : F) (seats : ℕ) where
  -- a seat that draws a ticket keeps the rule
  pub draws : (n id : ℕ) (m : Standing S E F) → IsIdle m → Allows (Rule kept fixed seats) n id m 0 (λ k. (k + 1) % 2 ^ 64) (Draws (step n 0 1 0 maybe.none) m)
  draws n id m idle s r wide at lt =
      let v : SeatView E F = m.0 in
      let w : SeatView E F = drawn_view v r.drawn in
      let f = r.each id v at in (
        w,
        keeps,
        tt,
        steps kept fixed seats s r id v w (r.drawn + 1) r.history _ s.homes
            (record {
              at = at;
              live = idle.0;
              grows = whole r.history;
              others = λ k ne. refl;
              count = let none = ap one_if idle.1 in omega (arith, none);
              keeps = λ on. both_ways v.has_ticket on idle.1;
              has = λ _. inr (omega arith);
              next = λ t lt. elim (cases_eq t r.drawn) [ inl e ↦ inr (refl, sym e) | inr ne ↦ inl (omega (arith, ne)) ];
              fits = record {
                known = f.known;
                range = λ _. let d = r.count in (omega arith, omega arith);
                turn = λ on. both_ways v.served on idle.2;
                seen = f.seen;
                mine = f.mine;
                newest = f.newest;
              };
              fit = λ j u ne at_j g.
                  record { known = g.known; range = λ on. let b = g.range on in (b.0, omega arith); turn = g.turn; seen = g.seen; mine = g.mine; newest = g.newest };
              known = λ k p. r.reports id k v p at;
            })
            (rw (r.words, mod-add-mod r.drawn (2 ^ 64) 1) refl)
            (slot_set kept fixed seats r.history s.homes s.views id v w at idle.2 idle.2 r.slot),
        (r.drawn, refl, sym (ap (λ (ws : List ℕ). slice_index ws 0) r.words)),
      )

  -- when a seat finds its ticket served, the state is in its slot
  at_home : (s : State (Option S) (SeatView E F)) (r : Rule kept fixed seats s) (id : ℕ) (v : SeatView E F) → get_elem? s.views id ≡ some v
      → v.has_ticket ≡ true → v.served ≡ false → v.ticket ≡ length r.history → IsAtHome kept fixed seats r.history s.homes s.views
  at_home s r id v at on off here = elim r.slot [
    | inl h ↦ h
    | inr a ↦
        let t = (r.each a.0 a.1 a.2).turn a.3 in
        let e = r.differ id a.0 v a.1 at a.2 on t.0 (here ∙ sym t.1) in
        absurd (cc)
  ]

  -- a seat that looks at the served ticket keeps the rule; if the ticket is its own, the seat takes the
  -- state out of the slot
  pub looks : (n id : ℕ) (m : Standing S E F) → IsWaiting m → Allows (Rule kept fixed seats) n id m 1 (λ k. k) (Looks kept (step n 1 0 0 maybe.none) m)
  looks n id m is s r wide at lt =
      let v : SeatView E F = m.0 in
      let f = r.each id v at in
      let known = f.known is.0 in
      let found = ap (λ (ws : List ℕ). slice_index ws 1) r.words in
      let words = ap (λ (ws : List ℕ). set ws 1 (slice_index ws 1)) r.words in
      elim (cases_eq (slice_index s.words 1) (v.ticket % 2 ^ 64)) [
        | inl hit ↦
            let w : SeatView E F = served_view v r.history in
            let here : length r.history ≡ v.ticket =
            let b = f.range is.1 in let c = r.count in let few = r.few in let most = tickets_le s.views in
            one_turn (length r.history) v.ticket (2 ^ 64) b.0 (omega arith) (sym found ∙ hit) in
            let h = at_home s r id v at is.1 is.2 (sym here) in (
              w,
              takes 0 (Some h.0),
              ap (λ (hs : List (maybe.Option (Option S))). get_elem? hs 0) h.1,
              quiet kept fixed seats s r id v w _ _ at is.0 refl (λ _. refl)
                  (record { known = f.known; range = f.range; turn = λ _. (is.1, sym here, refl); seen = λ _. whole r.history; mine = f.mine; newest = f.newest })
                  (λ k p. r.reports id k v p at) words (inr (id, w, set_at s.views id v w at, refl)),
              (
                (λ _. (h.0, (r.history, (λ k. (w, (0, Some h.0) ∷ is.3 k)), f.seen is.0, h.2, rw h.3 known.1, rw known.0 (f.mine is.0)))),
                λ miss. absurd (miss hit),
              ),
            )
        | inr miss ↦ (
          v,
          keeps,
          tt,
          quiet kept fixed seats s r id v v _ _ at is.0 refl (λ _. refl) f (λ k p. r.reports id k v p at) words
              (slot_set kept fixed seats r.history s.homes s.views id v v at is.2 is.2 r.slot),
          ((λ e. absurd (miss e)), λ _. refl),
        )
      ]

  -- passing the turn on keeps the rule: the slot has a state that stands for one more entry
  pub passes : (n id : ℕ) (m : Standing S E F) (v : SeatView E F) (e : E) (x : S) → n ≡ 1 → m ≡ (v, (0, Some x) ∷ [])
      → (v.live ≡ true) × (v.has_ticket ≡ true) × (v.served ≡ true) → kept.by e ≡ v.number → kept.stands 0 (v.seen ++ e ∷ []) x → v.fixed ≡ Some (kept.fixed x)
      → Allows (Rule kept fixed seats) n id m 1 (λ k. (k + 1) % 2 ^ 64) (PassesOn e (step n 1 1 0 maybe.none) m)
  passes n id m v e x one here is by_e ok same = rw here (λ s r wide at lt.
      let f = r.each id v at in
      let known = f.known is.0 in
      let t = f.turn is.2 in
      let w : SeatView E F = left_view v e in
      let more : List E = r.history ++ e ∷ [] in
      let len : length more ≡ length r.history + 1 = length-append r.history (e ∷ []) in
      let mine : kept.by e ≡ id = by_e ∙ known.0 in
      let others : (k : ℕ) → k ≢ id → made_by kept.by k more ≡ made_by kept.by k r.history = λ k ne. made_no kept.by k r.history e (λ q. ne (sym q ∙ mine)) in
      let apart : (j : ℕ) (u : SeatView E F) → j ≢ id → get_elem? s.views j ≡ some u → u.has_ticket ≡ true → u.ticket ≢ length r.history
      = λ j u ne at_j on there. ne (r.differ j id u v at_j at on is.1 (there ∙ sym t.1)) in
      let idle : (j : ℕ) (u : SeatView E F) → j ≢ id → get_elem? s.views j ≡ some u → u.served ≡ false
      = λ j u ne at_j. false_from_ne_true u.served (λ on. let b = (r.each j u at_j).turn on in apart j u ne at_j b.0 b.1) in (
        w,
        gives,
        tt,
        steps kept fixed seats s r id v w r.drawn more _ _
            (record {
              at = at;
              live = is.0;
              grows = (e ∷ [], refl);
              others = others;
              count = let held = ap one_if is.1 in omega (arith, held, len);
              keeps = λ _ le. absurd (let here = t.1 in omega (arith, len, here, le));
              has = never;
              next = λ k lt. inl lt;
              fits = record {
                known = f.known;
                range = never;
                turn = never;
                seen = λ _. rw (← t.2) (whole (v.seen ++ e ∷ []));
                mine = λ _. ap (λ (l : List E). l ++ e ∷ []) (f.mine is.0) ∙ sym (made_yes kept.by id r.history e mine);
                newest = f.newest;
              };
              fit = λ j u ne at_j g. record {
                known = g.known;
                range = λ on. let b = g.range on in let a = apart j u ne at_j on in (omega (arith, len, a), b.1);
                turn = λ on. both_ways u.served on (idle j u ne at_j);
                seen = λ on. longer more r.history u.seen (e ∷ [], refl) (g.seen on);
                mine = λ on. g.mine on ∙ sym (others j ne);
                newest = g.newest;
              };
              known = λ k p. r.reports id k v p at;
            })
            (rw (r.words, mod-add-mod (length r.history) (2 ^ 64) 1, len) refl)
            (inl (
              x,
              set_one s.homes (some (Some x)) (wide ∙ one),
              subst (λ (l : List E). kept.stands 0 (l ++ e ∷ []) x) t.2 ok,
              cc,
              set_all (λ n j u. u.served ≡ false) s.views id w refl idle,
            )),
        refl,
      ))
