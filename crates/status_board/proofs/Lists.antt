-- Logs that grow, lists of which one begins another, and lists of views in which one changes.
use Rattle.std.proofs.Common.{◌≡◌, ℕ, zero, suc, ◌+◌, ◌≢◌, List, [], ◌∷◌, ◌++◌, length, set, sym, refl, ap, ◌∙◌, subst, ⊎_elim, append_assoc, append-nil, Bool, true, false, nat_lt, if◌then◌else◌}
use mathlib.Core.Option.{some, some-ne-none}
use lib.ListN.{get_elem?}
use Rattle.atomic_table.proofs.Lists.{at_set}
use Rattle.status_board.specs.declared.shown.Shown.{Shown}
use Rattle.status_board.specs.Logs.{StartsWith, start, Rises, IsLog, last_of}
use Rattle.status_board.specs.Views.{longer}
use Rattle.status_board.specs.Rule.{AllBegin}

pub both_ways : {X : Type 0} (b : Bool) → b ≡ true → b ≡ false → X
both_ways b t f = absurd (cc)

pub whole : (l : List Shown) → StartsWith l l
whole l = ([], sym (append-nil l))

-- a log that goes on begins with all that it began with before
pub further : (more log seen : List Shown) → StartsWith more log → StartsWith log seen → StartsWith more seen
further more log seen a b = (b.0 ++ a.0, a.1 ∙ (ap (λ l. l ++ a.0) b.1 ∙ append_assoc seen b.0 a.0))

pub all_further : (more log : List Shown) (learned : List (List Shown)) → StartsWith more log → AllBegin log learned → AllBegin more learned
all_further more log [] a h = tt
all_further more log (x ∷ xs) a h = (further more log x a h.0, all_further more log xs a h.1)

-- of two lists that begin a log, the longer one begins it
pub longer_begins : (log xs ys : List Shown) → StartsWith log xs → StartsWith log ys → StartsWith log (longer xs ys)
longer_begins log xs ys a b = go (nat_lt (length xs) (length ys))
  where
    go : (t : Bool) → StartsWith log (if t then ys else xs)
    go true = b
    go false = a

pub last_more : (d : Shown) (xs : List Shown) (x : Shown) → last_of d (xs ++ x ∷ []) ≡ x
last_more d [] x = refl
last_more d (y ∷ ys) x = last_more y ys x

-- one more pair, with one tick more than the last, leaves the ticks rising one at a time
rises_more : (n : ℕ) (d : Shown) (xs : List Shown) (x : Shown) → d.ticks ≡ n → Rises n xs → x.ticks ≡ (last_of d xs).ticks + 1 → Rises n (xs ++ x ∷ [])
rises_more n d [] x is h next = (next ∙ ap (λ (k : ℕ). k + 1) is, tt)
rises_more n d (y ∷ ys) x is h next = (h.0, rises_more (n + 1) y ys x h.0 h.1 next)

pub log_more : (log : List Shown) (x : Shown) → IsLog log → x.ticks ≡ (last_of start log).ticks + 1 → IsLog (log ++ x ∷ [])
log_more [] x h next = absurd h
log_more (y ∷ ys) x h next = (h.0, (h.1.0, rises_more 0 y ys x h.0 h.1.1 next))

module _ {A : Type 0} where
  -- what holds of the new element, and of each other element, holds of each
  pub set_all : (P : ℕ → A → Type 0) (l : List A) (id : ℕ) (w : A) → P id w → ((j : ℕ) (u : A) → j ≢ id → get_elem? l j ≡ some u → P j u)
      → (j : ℕ) (u : A) → get_elem? (set l id w) j ≡ some u → P j u
  set_all P l id w here rest j u e = ⊎_elim
      (λ (t : (j ≡ id) × (w ≡ u)). subst (λ (i : ℕ). P i u) (sym t.0) (subst (λ (x : A). P id x) t.1 here))
      (λ (t : (j ≢ id) × (get_elem? l j ≡ some u)). rest j u t.0 t.1) (at_set l id j w u e)

  pub set_at : (l : List A) (i : ℕ) (a b : A) → get_elem? l i ≡ some a → get_elem? (set l i b) i ≡ some b
  set_at [] i a b e = absurd (some-ne-none a (sym e))
  set_at (x ∷ xs) zero a b e = refl
  set_at (x ∷ xs) (suc i) a b e = set_at xs i a b e
