-- Each step keeps the rule, and its result is what its `Play` says.
use Rattle.std.proofs.Common.{◌≡◌, ℕ, zero, suc, ◌+◌, ◌≢◌, List, [], ◌∷◌, ◌++◌, set, slice_index, sym, refl, ap, ◌∙◌, subst, ⊎_elim, true, false}
use mathlib.Core.Option.{some, some-injective, some-ne-none}
use mathlib.Core.Option as maybe
use mathlib.Core.Logic.{dite}
use native.Mathlib.Decide.{ℕ_discrete}
use lib.ListN.{get_elem?}
use Rattle.atomic_table.specs.Table.{State, step, keeps, Allows, Splits, Joins, opening}
use Rattle.atomic_table.proofs.Lists.{set_else, at_snoc, at_longer}
use Rattle.status_board.specs.declared.shown.TokenView.{TokenView}
use Rattle.status_board.specs.declared.shown.Shown.{Shown}
use Rattle.status_board.specs.Logs.{StartsWith, start, IsLog, last_of, word_of}
use Rattle.status_board.specs.Views.{writer_view, watcher_view, shown_view, seen_view, both_views, spent_view}
use Rattle.status_board.specs.Rule.{IsTokenOf, Orderly}
use Rattle.status_board.specs.Steps.{Standing, Shows, Looks}
use Rattle.status_board.proofs.Lists.{both_ways, whole, further, all_further, longer_begins, last_more, log_more, set_all, set_at}

first : (id : ℕ) (v : TokenView) → get_elem? (writer_view ∷ []) id ≡ some v → IsTokenOf (start ∷ []) id v
first zero v e = subst (IsTokenOf (start ∷ []) 0) (some-injective writer_view v e) (record { first = λ _. refl; seen = λ _. whole (start ∷ []); learned = tt })
first (suc k) v e = absurd (some-ne-none v (sym e))

-- a board that was just made keeps the rule
pub starts : Orderly (opening (0 ∷ []) [] writer_view)
starts = record { writer = writer_view; there = refl; writes = refl; log = (refl, (refl, tt)); word = refl; each = λ id v at. first id v at }

-- the writer is the first token, and its list is the log
is_first : (s : State (Unit {0}) TokenView) (r : Orderly s) (id : ℕ) (v : TokenView) → get_elem? s.views id ≡ some v → v.writes ≡ true → (id ≡ 0) × (r.writer ≡ v)
is_first s r id v at writes =
    let z = (r.each id v at).first writes in
    (z, some-injective r.writer v (sym r.there ∙ (ap (λ (i : ℕ). get_elem? s.views i) (sym z) ∙ at)))

-- showing a pair keeps the rule
pub shows : (n id : ℕ) (m : Standing) (now : Shown) → m.0.writes ≡ true → m.0.live ≡ true → now.ticks ≡ (last_of start m.0.list).ticks + 1
    → Allows Orderly n id m 0 (λ _. word_of now) (λ _. Shows (step n 0 (word_of now) 0 maybe.none) m (word_of now))
shows n id m now writes live next s r wide at lt =
    let v : TokenView = m.0 in
    let f = r.each id v at in
    let is = is_first s r id v at writes in
    let w : TokenView = shown_view now v in
    let log : List Shown = r.writer.list in
    let more : List Shown = v.list ++ now ∷ [] in
    let grows : StartsWith more log = (now ∷ [], ap (λ (u : TokenView). u.list ++ now ∷ []) (sym is.1)) in
    let new : IsLog more = log_more v.list now (subst (λ (u : TokenView). IsLog u.list) is.1 r.log) next in (
      w,
      keeps,
      tt,
      record {
        writer = w;
        there = ap (λ (i : ℕ). get_elem? (set s.views id w) i) (sym is.0) ∙ set_at s.views id v w at;
        writes = writes;
        log = new;
        word = ap (λ (ws : List ℕ). set ws 0 (word_of now)) r.word ∙ ap (λ (x : Shown). word_of x ∷ []) (sym (last_more start v.list now));
        each = set_all (IsTokenOf more) s.views id w
            (record { first = f.first; seen = λ _. whole more; learned = all_further more log v.learned grows f.learned })
            (λ j u ne at_j. let g = r.each j u at_j in record { first = g.first; seen = λ on. further more log u.list grows (g.seen on); learned = all_further more log u.learned grows g.learned });
      },
      (now, refl, new, refl),
    )

-- a look at the board keeps the rule
pub looks : (n id : ℕ) (m : Standing) → m.0.writes ≡ false → m.0.live ≡ true → Allows Orderly n id m 0 (λ k. k) (Looks (step n 0 0 0 maybe.none) m)
looks n id m reads live s r wide at lt =
    let v : TokenView = m.0 in
    let f = r.each id v at in
    let log : List Shown = r.writer.list in
    let w : TokenView = seen_view log v in
    let other : 0 ≢ id = λ z. both_ways v.writes (ap (λ (u : TokenView). u.writes) (some-injective v r.writer (sym at ∙ (ap (λ (i : ℕ). get_elem? s.views i) (sym z) ∙ r.there))) ∙ r.writes) reads in (
      w,
      keeps,
      tt,
      record {
        writer = r.writer;
        there = set_else s.views id 0 w other ∙ r.there;
        writes = r.writes;
        log = r.log;
        word = ap (λ (ws : List ℕ). set ws 0 (slice_index ws 0)) r.word;
        each = set_all (IsTokenOf log) s.views id w (record { first = f.first; seen = λ _. whole log; learned = tt }) (λ j u ne at_j. r.each j u at_j);
      },
      (log, r.log, f.seen live, f.learned, ap (λ (ws : List ℕ). slice_index ws 0) r.word, refl),
    )

-- a copy of what the writer showed keeps the rule
pub copies : (id : ℕ) (v : TokenView) → v.live ≡ true → Splits Orderly id v v (watcher_view v)
copies id v live s r at =
    let f = r.each id v at in
    let P : ℕ → TokenView → Type 0 = IsTokenOf r.writer.list in
    let there : get_elem? (set s.views id v) 0 ≡ some r.writer = dite (ℕ_discrete 0 id)
    (λ z. ap (λ (i : ℕ). get_elem? (set s.views id v) i) z ∙ (set_at s.views id v v at ∙ (sym at ∙ (ap (λ (i : ℕ). get_elem? s.views i) (sym z) ∙ r.there))))
    (λ ne. set_else s.views id 0 v ne ∙ r.there) in
    record {
      writer = r.writer;
      there = at_longer (set s.views id v) (watcher_view v ∷ []) 0 r.writer there;
      writes = r.writes;
      log = r.log;
      word = r.word;
      each = λ j u at_j. ⊎_elim
          (λ (h : get_elem? (set s.views id v) j ≡ some u). set_all P s.views id v f (λ i y _ at_i. r.each i y at_i) j u h)
          (λ (h : watcher_view v ≡ u). subst (P j) h (record { first = λ on. both_ways false on refl; seen = λ _. f.seen live; learned = tt }))
          (at_snoc (set s.views id v) (watcher_view v) u j at_j);
    }

-- taking a note into a watcher keeps the rule
pub joins : (id other : ℕ) (v w : TokenView) → v.writes ≡ false → v.live ≡ true → w.writes ≡ false → w.live ≡ true → Joins Orderly id v other w (both_views v w) spent_view
joins id other v w reads live note_reads note_live s r at ne at2 =
    let b : TokenView = both_views v w in
    let at_w : get_elem? s.views other ≡ some w = sym (set_else s.views id other b ne) ∙ at2 in
    let f = r.each id v at in
    let fw = r.each other w at_w in
    let log : List Shown = r.writer.list in
    let P : ℕ → TokenView → Type 0 = IsTokenOf log in
    let not_at : (i : ℕ) (u : TokenView) → get_elem? s.views i ≡ some u → u.writes ≡ false → 0 ≢ i = λ i u at_i off z.
    both_ways u.writes (ap (λ (x : TokenView). x.writes) (some-injective u r.writer (sym at_i ∙ (ap (λ (k : ℕ). get_elem? s.views k) (sym z) ∙ r.there))) ∙ r.writes) off in
    record {
      writer = r.writer;
      there = set_else (set s.views id b) other 0 spent_view (not_at other w at_w note_reads) ∙ (set_else s.views id 0 b (not_at id v at reads) ∙ r.there);
      writes = r.writes;
      log = r.log;
      word = r.word;
      each = set_all P (set s.views id b) other spent_view
          (record { first = λ on. both_ways false on refl; seen = λ on. both_ways false on refl; learned = tt })
          (λ j u _ at_j. set_all P s.views id b
          (record { first = f.first; seen = λ _. longer_begins log v.list w.list (f.seen live) (fw.seen note_live); learned = (f.seen live, (fw.seen note_live, f.learned)) })
          (λ i y _ at_i. r.each i y at_i) j u at_j);
    }
