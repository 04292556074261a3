use Rattle.std.proofs.Common.{◌≡◌, ◌⊎◌, inl, inr, ℕ, ◌+◌, ◌-◌, ◌<◌, ◌≤◌, true, List, [], ◌∷◌, ◌++◌, reverse, take, drop, length, get_or, ap, sym, ◌∙◌, subst, arith}
use Rattle.std.proofs.lemmas.List.{reverse-append, reverse-reverse, take-append-drop, take_all}
use Rattle.mc_task.specs.declared.task.JobId.{JobId}
use Rattle.mc_model.specs.declared.row.How.{How}
use Rattle.mc_model.specs.declared.row.Row.{Row}
use Rattle.mc_model.specs.declared.row.Row.TheVariants.{Release, Tick, Idle}
use Rattle.mc_model.specs.Core.{State}
use Rattle.mc_model.specs.Rows.{ticks}
use Rattle.mc_model.specs.Follows.{ends_in_tick}
use Rattle.mc_model.specs.LiveTrace.{LiveTrace}
use Rattle.mc_model.proofs.Lists.{reverse-take_more}
use Rattle.mc_model.proofs.Ticks.{ticks-append}
use Rattle.task_threads.specs.LiveLeft.{HasLiveTrace}
use Rattle.run_commands.proofs.live.live_rows.Goals as goal

-- a row that is a tick adds one tick to whatever rows stand before it
is_tick : (row : Row) (g h : List Row) → ends_in_tick (row ∷ g) ≡ true → (ends_in_tick (row ∷ h) ≡ true) × (ticks (row ∷ h) ≡ ticks h + 1)
is_tick (Release j kept) g h last = absurd (cc)
is_tick row g h last = (last, omega arith)

-- rows that end with a tick have more ticks than those before that tick
more_ticks : (row : Row) (later h : List Row) → ends_in_tick (row ∷ later ++ h) ≡ true → ticks h < ticks (row ∷ later ++ h)
more_ticks row later h last =
    let one = (is_tick row (later ++ h) (later ++ h) last).1 in
    omega (arith, one, ticks-append later h)

-- two parts of the same rows that have the same number of ticks and end with a tick are the same part
same_part : (later other g h : List Row) → later ++ g ≡ other ++ h → ticks g ≡ ticks h → ends_in_tick g ≡ true → ends_in_tick h ≡ true → g ≡ h
same_part [] [] g h same n a b = same
same_part [] (row ∷ other) g h same n a b =
    let more = more_ticks row other h (subst (λ x. ends_in_tick x ≡ true) same a) in
    let t = ap ticks same in
    absurd (omega (arith, more, t, n))
same_part (row ∷ later) [] g h same n a b =
    let more = more_ticks row later g (subst (λ x. ends_in_tick x ≡ true) (sym same) b) in
    let t = ap ticks same in
    absurd (omega (arith, more, t, n))
same_part (row ∷ later) (next ∷ other) g h same n a b = same_part later other g h (cc) n a b

-- all rows, the newest first: those from this index on, and those before it
parts : (rows : List Row) (i : ℕ) → reverse (drop i rows) ++ reverse (take i rows) ≡ reverse rows
parts rows i = sym (reverse-append (take i rows) (drop i rows)) ∙ ap reverse (take-append-drop i rows)

-- the rows up to an index are the live trace, if the row there is the last tick that is left
live_front : (s : State) (n i left : ℕ) (rows part : List Row) (d : Row) → HasLiveTrace s n → rows ≡ reverse s.rows → part ≡ take (i + 1) rows → i < length rows
    → ((j : JobId) × (how : How) × (get_or rows i d ≡ Tick j how)) ⊎ (get_or rows i d ≡ Idle) → 1 ≤ left → left - 1 ≡ 0 → ticks (reverse (take i rows)) + left ≡ n
    → LiveTrace s.set s.rule n (reverse part)
live_front s n i left rows part d live is front inside tick some none sum =
    let tick_here : ends_in_tick (get_or rows i d ∷ []) ≡ true = elim tick [ inl t ↦ ap (λ row. ends_in_tick (row ∷ [])) t.2 | inr t ↦ ap (λ row. ends_in_tick (row ∷ [])) t ] in
    let here = reverse-take_more rows i d inside in
    let one = is_tick (get_or rows i d) [] (reverse (take i rows)) tick_here in
    let last : ends_in_tick (reverse (take (i + 1) rows)) ≡ true = ap ends_in_tick here ∙ one.0 in
    let count : ticks (reverse (take (i + 1) rows)) ≡ ticks (reverse (take i rows)) + 1 = ap ticks here ∙ one.1 in
    let whole = parts rows (i + 1) ∙ (ap reverse is ∙ (reverse-reverse s.rows ∙ live.rows)) in
    let same : reverse (take (i + 1) rows) ≡ live.h =
    same_part (reverse (drop (i + 1) rows)) live.later (reverse (take (i + 1) rows)) live.h whole (omega (arith, count, some, none, sum, live.live.ticks)) last live.live.last in
    subst (λ h. LiveTrace s.set s.rule n h) (sym (ap reverse front ∙ same)) live.live

-- the index of the n-th tick is found before the rows end
some_place : (s : State) (n i left : ℕ) (rows : List Row) → HasLiveTrace s n → rows ≡ reverse s.rows → length rows ≤ i → 1 ≤ left → ticks (reverse (take i rows)) + left ≡ n → ⊥
some_place s n i left rows live is end some sum =
    let all = ap ticks live.rows ∙ ticks-append live.later live.h in
    let count = live.live.ticks in
    let whole : ticks (reverse (take i rows)) ≡ ticks s.rows = ap (λ xs. ticks (reverse xs)) (take_all i rows end ∙ is) ∙ ap ticks (reverse-reverse s.rows) in
    absurd (omega (arith, all, count, whole, some, sum))

pub returns-then-left-eq0 : goal.returns-then-left-eq0
returns-then-left-eq0 c =
    let l = c.loop-place in
    let core = c.args.core.now in
    let rows = c.rows-rows.result.now in
    let part = c.split_at.result.0.now in
    live_front core c.args.ticks l.place l.left rows part _ c.requires.live c.rows-rows.ensures.value c.split_at.ensures.front c.loop-place-test.true c.in-Tick.is l.invariant.some c.if-left-eq0.true l.invariant.sum

pub unreachable-requires : goal.unreachable-requires
unreachable-requires c =
    let l = c.loop-place in
    some_place c.args.core.now c.args.ticks l.place l.left c.rows-rows.result.now c.requires.live c.rows-rows.ensures.value c.loop-place-test.false l.invariant.some l.invariant.sum
