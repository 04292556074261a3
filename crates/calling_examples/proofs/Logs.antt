-- A log that goes on has no fewer ticks than before.
use Rattle.std.proofs.Common.{◌≡◌, ℕ, ◌+◌, ◌≤◌, List, [], ◌∷◌, ◌++◌, sym, subst, arith}
use Rattle.status_board.specs.declared.shown.Shown.{Shown}
use Rattle.status_board.specs.Logs.{start, Rises, IsLog, last_of}
use Rattle.turnstile.specs.History.{StartsWith}

-- pairs that rise from n on end with no fewer ticks than n
rises : (n : ℕ) (d : Shown) (xs : List Shown) → d.ticks ≡ n → Rises n xs → n ≤ (last_of d xs).ticks
rises n d [] is h = omega (arith, is)
rises n d (x ∷ xs) is h = let more = rises (n + 1) x xs h.0 h.1 in omega (arith, more)

-- pairs that rise end with no fewer ticks than a beginning of them
further : (n : ℕ) (d : Shown) (xs later : List Shown) → d.ticks ≡ n → Rises n (xs ++ later) → (last_of d xs).ticks ≤ (last_of d (xs ++ later)).ticks
further n d [] later is h = let more = rises n d later is h in omega (arith, is, more)
further n d (x ∷ xs) later is h = further (n + 1) x xs later h.0 h.1

whole : (old later : List Shown) → IsLog (old ++ later) → (last_of start old).ticks ≤ (last_of start (old ++ later)).ticks
whole [] later h = omega arith
whole (x ∷ xs) later h = further 0 x xs later h.0 h.1.1

-- what a watcher saw before has no more ticks than what it has seen now
pub never_back : (new old : List Shown) → StartsWith new old → IsLog new → (last_of start old).ticks ≤ (last_of start new).ticks
never_back new old begins log =
    subst (λ (l : List Shown). (last_of start old).ticks ≤ (last_of start l).ticks) (sym begins.1) (whole old begins.0 (subst IsLog begins.1 log))
