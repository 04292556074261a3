-- A step of one seat keeps the rule, and so does making one more seat.
use Rattle.std.proofs.Common.{◌≡◌, ℕ, zero, suc, ◌+◌, ◌%◌, ◌^◌, ◌<◌, ◌≤◌, ◌≢◌, ◌⊎◌, List, [], ◌∷◌, ◌++◌, length, set, sym, refl, ap, ◌∙◌, inl, inr, arith, length-append, length-set, true, false, Option}
use Rattle.std.proofs.lemmas.Bool.{cases_eq}
use mathlib.Core.Option.{some, some-ne-none}
use mathlib.Core.Option as maybe
use lib.ListN.{get_elem?}
use Rattle.atomic_table.specs.Table.{State}
use Rattle.atomic_table.proofs.Lists.{at_set, set_else, at_longer}
use Rattle.turnstile.specs.declared.board.SeatView.{SeatView}
use Rattle.turnstile.specs.declared.board.Report.{Report}
use Rattle.turnstile.specs.declared.kept.Kept.{Ghosts}
use Rattle.turnstile.specs.History.{StartsWith, made_by}
use Rattle.turnstile.specs.Views.{newest_view}
use Rattle.turnstile.specs.Rule.{one_if, tickets_out, IsReported, IsAway, IsAtHome, Fits, Orderly}
use Rattle.turnstile.proofs.Lists.{set_at, below, set_all, each_end, both_ways, never}
use Rattle.turnstile.proofs.Histories.{whole, longer}

module _ {E F : Type 0} where
  pub count_at : (views : List (SeatView E F)) (id : ℕ) (v w : SeatView E F) → get_elem? views id ≡ some v
      → tickets_out (set views id w) + one_if v.has_ticket ≡ tickets_out views + one_if w.has_ticket
  count_at [] id v w e = absurd (some-ne-none v (sym e))
  count_at (x ∷ xs) zero v w e = let same : x ≡ v = cc in rw same (omega arith)
  count_at (x ∷ xs) (suc i) v w e = let rest = count_at xs i v w e in omega (arith, rest)

  tickets_last : (views : List (SeatView E F)) (v : SeatView E F) → v.has_ticket ≡ false → tickets_out (views ++ v ∷ []) ≡ tickets_out views
  tickets_last [] v e = rw e refl
  tickets_last (x ∷ xs) v e = rw (tickets_last xs v e) refl

module _ {S E F : Type 0} (kept : Ghosts S E F) (fixed : F) (seats : ℕ) where
  abbrev pub Table : Type 0
  Table = State (Option S) (SeatView E F)

  abbrev pub Rule : Table → Type 0
  Rule = Orderly kept fixed seats

  abbrev Slot : List E → List (maybe.Option (Option S)) → List (SeatView E F) → Type 0
  Slot history homes views = IsAtHome kept fixed seats history homes views ⊎ IsAway views

  -- what must be shown of a step in which seat id changes its view from v to w, after which this many tickets
  -- were drawn, and this is the history
  pub record Steps (s : Table) (r : Rule s) (id : ℕ) (v w : SeatView E F) (drawn : ℕ) (history : List E) : Type 0 where
    pub at : get_elem? s.views id ≡ some v
    pub live : v.live ≡ true
    -- the history grows by entries of this seat alone
    pub grows : StartsWith history r.history
    pub others : (k : ℕ) → k ≢ id → made_by kept.by k history ≡ made_by kept.by k r.history
    pub count : drawn + length r.history + one_if v.has_ticket ≡ r.drawn + length history + one_if w.has_ticket
    -- the seat keeps its ticket, unless its turn ended or it has a new one
    pub keeps : v.has_ticket ≡ true → length history ≤ v.ticket → (w.has_ticket ≡ true) × (w.ticket ≡ v.ticket)
    pub has : w.has_ticket ≡ true → ((v.has_ticket ≡ true) × (w.ticket ≡ v.ticket)) ⊎ (r.drawn ≤ w.ticket)
    pub next : (t : ℕ) → t < drawn → (t < r.drawn) ⊎ ((w.has_ticket ≡ true) × (w.ticket ≡ t))
    pub fits : Fits kept.by fixed seats drawn history (length s.views) id w
    pub fit : (j : ℕ) (u : SeatView E F) → j ≢ id → get_elem? s.views j ≡ some u → Fits kept.by fixed seats r.drawn r.history (length s.views) j u
        → Fits kept.by fixed seats drawn history (length s.views) j u
    pub known : (k : ℕ) (p : Report E) → get_elem? w.joined k ≡ some p → IsReported kept.by r.history s.views p

  unfoldable pub steps : (s : Table) (r : Rule s) (id : ℕ) (v w : SeatView E F) (drawn : ℕ) (history : List E) (ws : List ℕ) (homes : List (maybe.Option (Option S)))
      → Steps s r id v w drawn history → ws ≡ (drawn % 2 ^ 64) ∷ (length history % 2 ^ 64) ∷ [] → Slot history homes (set s.views id w)
      → Rule (record { words = ws; homes = homes; views = set s.views id w })
  steps s r id v w drawn history ws homes t words slot =
      let at = t.at in
      let same_seat : (j : ℕ) (u : SeatView E F) → j ≡ id → get_elem? s.views j ≡ some u → u ≡ v = λ j u e at_j. cc in
      -- a seat with the ticket of the seat that stepped is that seat
      let apart : (j : ℕ) (u : SeatView E F) → j ≢ id → get_elem? s.views j ≡ some u → u.has_ticket ≡ true → w.has_ticket ≡ true → u.ticket ≡ w.ticket → ⊥
      = λ j u ne at_j on onw same. elim (t.has onw) [
        | inl e ↦ ne (r.differ j id u v at_j at on e.0 (same ∙ e.1))
        | inr new ↦ let b = (r.each j u at_j).range on in absurd (omega arith)
      ] in
      let still_known : (p : Report E) → IsReported kept.by r.history s.views p → IsReported kept.by history (set s.views id w) p
      = λ p known.
      let other : p.number ≢ id = λ e. let spent = same_seat p.number _ e known.0 in both_ways v.live t.live (ap (λ (y : SeatView E F). y.live) (sym spent)) in
      (set_else s.views id p.number w other ∙ known.0, (longer history r.history p.seen t.grows known.1.0, known.1.1 ∙ sym (t.others p.number other))) in
      record {
        drawn = drawn;
        history = history;
        words = words;
        slot = slot;
        few = rw length-set r.few;
        count = let c = count_at s.views id v w at in let d = r.count in let e = t.count in omega (arith, c, d, e);
        each = set_all (λ n j u. Fits kept.by fixed seats drawn history n j u) s.views id w t.fits (λ j u ne at_j. t.fit j u ne at_j (r.each j u at_j));
        differ = λ i j u x at_i at_j on onx same. elim (at_set s.views id i w u at_i) [
          | inl a ↦ elim (at_set s.views id j w x at_j) [
            | inl b ↦ a.0 ∙ sym b.0
            | inr b ↦ absurd (apart j x b.0 b.1 onx (ap (λ (y : SeatView E F). y.has_ticket) a.1 ∙ on) (sym same ∙ ap (λ (y : SeatView E F). y.ticket) (sym a.1)))
          ]
          | inr a ↦ elim (at_set s.views id j w x at_j) [
            | inl b ↦ absurd (apart i u a.0 a.1 on (ap (λ (y : SeatView E F). y.has_ticket) b.1 ∙ onx) (same ∙ ap (λ (y : SeatView E F). y.ticket) (sym b.1)))
            | inr b ↦ r.differ i j u x a.1 b.1 on onx same
          ]
        ];
        in_hand = λ k lo hi. elim (t.next k hi) [
          | inl old ↦
              let grown = ap length t.grows.1 in
              let h = r.in_hand k (omega (arith, lo, grown, length-append r.history t.grows.0)) old in
              elim (cases_eq h.0 id) [
                | inl e ↦
                    let same = same_seat h.0 h.1 e h.2 in
                    let ticket : v.ticket ≡ k = cc in
                    let kept_on = t.keeps (cc) (omega arith) in
                    (id, w, set_at s.views id v w at, kept_on.0, kept_on.1 ∙ ticket)
                | inr ne ↦ (h.0, h.1, set_else s.views id h.0 w ne ∙ h.2, h.3, h.4)
              ]
          | inr new ↦ (id, w, set_at s.views id v w at, new.0, new.1)
        ];
        later = λ k le. let inside = below s.views id v at in let most : length s.views ≤ k = rw length-set at le in t.others k (λ e. omega arith) ∙ r.later k most;
        reports = λ i k u p at_i at_k. still_known p (elim (at_set s.views id i w u at_i) [
          | inl e ↦ t.known k p (ap (λ (y : SeatView E F). get_elem? y.joined k) e.1 ∙ at_k)
          | inr o ↦ r.reports i k u p o.1 at_k
        ]);
      }

  -- a step that draws no ticket and adds no entry
  unfoldable pub quiet : (s : Table) (r : Rule s) (id : ℕ) (v w : SeatView E F) (ws : List ℕ) (homes : List (maybe.Option (Option S)))
      → get_elem? s.views id ≡ some v → v.live ≡ true → w.has_ticket ≡ v.has_ticket → (v.has_ticket ≡ true → w.ticket ≡ v.ticket)
      → Fits kept.by fixed seats r.drawn r.history (length s.views) id w → ((k : ℕ) (p : Report E) → get_elem? w.joined k ≡ some p → IsReported kept.by r.history s.views p)
      → ws ≡ (r.drawn % 2 ^ 64) ∷ (length r.history % 2 ^ 64) ∷ [] → Slot r.history homes (set s.views id w)
      → Rule (record { words = ws; homes = homes; views = set s.views id w })
  quiet s r id v w ws homes at live same ticket fits known = steps s r id v w r.drawn r.history ws homes (record {
    at = at;
    live = live;
    grows = whole r.history;
    others = λ k ne. refl;
    count = rw same refl;
    keeps = λ on le. (same ∙ on, ticket on);
    has = λ on. inl (sym same ∙ on, ticket (sym same ∙ on));
    next = λ k lt. inl lt;
    fits = fits;
    fit = λ j u ne at_j f. f;
    known = known;
  })

  -- where the state is, after a step of a seat that is not served before or after
  pub slot_set : (history : List E) (homes : List (maybe.Option (Option S))) (views : List (SeatView E F)) (id : ℕ) (v w : SeatView E F)
      → get_elem? views id ≡ some v → v.served ≡ false → w.served ≡ false → Slot history homes views → Slot history homes (set views id w)
  slot_set history homes views id v w at off off_after (inl h) = inl (h.0, h.1, h.2, h.3, set_all (λ n j u. u.served ≡ false) views id w off_after (λ j u ne. h.4 j u))
  slot_set history homes views id v w at off off_after (inr a) =
      let other : a.0 ≢ id = λ e. let same : a.1 ≡ v = cc in both_ways v.served (ap (λ (y : SeatView E F). y.served) (sym same) ∙ a.3) off in
      inr (a.0, a.1, set_else views id a.0 w other ∙ a.2, a.3)

  -- making one more seat, the newest, keeps the rule if no other seat is the newest
  pub appended : (s : Table) → Rule s → length s.views < seats → ((j : ℕ) (u : SeatView E F) → get_elem? s.views j ≡ some u → u.is_newest ≡ false)
      → Rule (record { words = s.words; homes = s.homes; views = s.views ++ newest_view fixed seats (length s.views) ∷ [] })
  appended s r room none =
      let new : SeatView E F = newest_view fixed seats (length s.views) in
      let len : length (s.views ++ new ∷ []) ≡ length s.views + 1 = length-append s.views (new ∷ []) in
      record {
        drawn = r.drawn;
        history = r.history;
        words = r.words;
        few = (omega (arith, len), r.few.1);
        count = let d = r.count in let c = tickets_last s.views new refl in omega (arith, d, c);
        each = rw len (each_end (Fits kept.by fixed seats r.drawn r.history (length s.views + 1)) s.views new
            (λ j u at.
            let f = r.each j u at in
            record { known = f.known; range = f.range; turn = f.turn; seen = f.seen; mine = f.mine; newest = λ on. both_ways u.is_newest on (none j u at) })
            (record {
              known = λ _. (refl, refl, refl);
              range = never;
              turn = never;
              seen = λ _. (r.history, refl);
              mine = λ _. sym (r.later (length s.views) (omega arith));
              newest = λ _. (refl, refl);
            }));
        in_hand = λ k lo hi. let h = r.in_hand k lo hi in (h.0, h.1, at_longer s.views (new ∷ []) h.0 h.1 h.2, h.3, h.4);
        differ = λ i j u x at_i at_j. each_end (λ i u. u.has_ticket ≡ true → x.has_ticket ≡ true → u.ticket ≡ x.ticket → i ≡ j) s.views new
            (λ i u at_i. each_end (λ j x. u.has_ticket ≡ true → x.has_ticket ≡ true → u.ticket ≡ x.ticket → i ≡ j) s.views new
            (λ j x at_j. r.differ i j u x at_i at_j) (λ _. never) j x at_j)
            never i u at_i;
        later = λ k le. r.later k (omega (arith, len, le));
        reports = λ i k u p at_i at_k. each_end (λ j u. get_elem? u.joined k ≡ some p → IsReported kept.by r.history (s.views ++ new ∷ []) p) s.views new
            (λ j u at at_k. let t = r.reports j k u p at at_k in (at_longer s.views (new ∷ []) p.number _ t.0, t.1))
            (λ at_k. absurd (some-ne-none p (sym at_k))) i u at_i at_k;
        slot = elim r.slot [
          | inl h ↦ inl (h.0, h.1, h.2, h.3, each_end (λ j u. u.served ≡ false) s.views new h.4 refl)
          | inr a ↦ inr (a.0, a.1, at_longer s.views (new ∷ []) a.0 a.1 a.2, a.3)
        ];
      }
