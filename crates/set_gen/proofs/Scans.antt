-- One pass over the tasks at a boundary.
use Rattle.std.proofs.Common.{◌≡◌, ◌≢◌, ℕ, zero, suc, ◌+◌, ◌-◌, ◌%◌, ◌<◌, ◌≤◌, inl, inr, Bool, true, false, ◌==◌, cond, map, filter, List, [], ◌∷◌, ◌++◌, length, slice_index, slice_set, refl, ap, ◌∙◌, arith, append-nil, append_assoc, length-append}
use Rattle.std.specs.List.{range_with_len}
use Rattle.std.proofs.lemmas.Bool.Decides.{nat_tests, eqb_tells}
use Rattle.std.proofs.lemmas.List.{map-append, get_or-set_same, get_or-set_other}
use Rattle.std.proofs.lemmas.List.Elements.{filter-append}
use Rattle.std.proofs.Math.Nat.{add-mod_right}
use Rattle.rand_pcg.specs.Lcg.{Lcg}
use Rattle.mc_task.specs.declared.task.Task.{Task}
use Rattle.mc_model.specs.Follows.{Arrival}
use Rattle.mc_model.specs.declared.work.WorkRow.{WorkRow}
use Rattle.mc_model.proofs.Lists.{filter_none}
use Rattle.set_gen.specs.Words.{after}
use Rattle.set_gen.specs.GeneratedWork.{is_released, releases_at, releases_below, job_rows}
use Rattle.set_gen.specs.NextReleases.{IsNext, release_of}
use Rattle.set_gen.proofs.WordLemmas.{after-add}
use Rattle.mc_model.proofs.Ranges.{range-more, each-range}
use Rattle.set_gen.proofs.Plans.{release, later_multiple}
use Rattle.set_gen.proofs.JobRows.{job_rows-append}

-- the releases at boundary r of the first i tasks
abbrev pub released_of : List ℕ → ℕ → ℕ → List Arrival
released_of gaps r i = map (λ k. record { task = k; at = r }) (filter (is_released gaps r) (range_with_len 1 i))

kept : (r k : ℕ) (b : Bool) → map (release r) (cond b (k ∷ []) []) ≡ cond b (release r k ∷ []) []
kept r k true = refl
kept r k false = refl

-- the releases at boundary r of the first i + 1 tasks are those of the first i, and then that of task number i + 1
pub released_of-more : (gaps : List ℕ) (r i : ℕ) → released_of gaps r (i + 1) ≡ released_of gaps r i ++ release_of (slice_index gaps i) r (i + 1)
unfolding is_released
released_of-more gaps r i =
    let one : ℕ → Arrival = release r in
    let place : (i + 1) - 1 ≡ i = omega arith in
    ap (λ ks. map one (filter (is_released gaps r) ks)) (range-more 1 i (i + 1) (omega arith))
    ∙ ap (map one) (filter-append (is_released gaps r) (range_with_len 1 i) ((i + 1) ∷ []))
    ∙ map-append one (filter (is_released gaps r) (range_with_len 1 i)) (filter (is_released gaps r) ((i + 1) ∷ []))
    ∙ ap (λ l. released_of gaps r i ++ l) (kept r (i + 1) (r % slice_index gaps ((i + 1) - 1) == 0) ∙ ap (λ k. release_of (slice_index gaps k) r (i + 1)) place)

-- the jobs of some releases, and of more releases with the words that are then left, are the jobs of all
pub rows-more : (set : List Task) (words : Lcg) (start rows more : List WorkRow) (left : Lcg) (xs ys : List Arrival)
    → rows ≡ start ++ job_rows words set xs → left ≡ after (length xs) words → more ≡ rows ++ job_rows left set ys → more ≡ start ++ job_rows words set (xs ++ ys)
rows-more set words start rows more left xs ys first taken then =
    rw (then, first, taken, job_rows-append words set xs ys) (append_assoc start (job_rows words set xs) (job_rows (after (length xs) words) set ys))

pub words-more : (words left last : Lcg) (xs ys : List Arrival) → left ≡ after (length xs) words → last ≡ after (length ys) left → last ≡ after (length (xs ++ ys)) words
words-more words left last xs ys first then = rw (then, first, length-append xs ys, after-add (length xs) (length ys) words) refl

-- a task whose next release is not due is not released
pub not_due : (gap at next : ℕ) → 1 ≤ gap → IsNext gap at next → next ≢ at → at % gap ≢ 0
not_due gap at next some is other on =
    let past : at + gap ≤ next = later_multiple gap at next some on is.multiple (omega arith) in
    omega arith

-- the next release of a task after a boundary at which it is released
pub next-due : (gap at : ℕ) → 1 ≤ gap → at % gap ≡ 0 → IsNext gap (at + 1) (at + gap)
next-due gap at some on = record { multiple = add-mod_right at gap ∙ on; reached = omega arith; near = omega arith }

pub next-not_due : (gap at next : ℕ) → IsNext gap at next → next ≢ at → IsNext gap (at + 1) next
next-not_due gap at next is other = record { multiple = is.multiple; reached = omega arith; near = omega arith }

-- between a boundary and the next release of any task nothing is released
pub none_between : (gaps next : List ℕ) (at until r : ℕ) → ((k : ℕ) → k < length gaps → 1 ≤ slice_index gaps k) → ((k : ℕ) → k < length gaps → IsNext (slice_index gaps k) (at + 1) (slice_index next k))
    → ((k : ℕ) → k < length gaps → until ≤ slice_index next k) → at < r → r < until → releases_at gaps r ≡ []
unfolding is_released
none_between gaps next at until r some are far after_at before =
    ap (map (release r)) (filter_none (is_released gaps r) (range_with_len 1 (length gaps))
    (each-range (λ i. is_released gaps r i ≡ false) 1 (length gaps) (λ i first last. not_there i first (omega arith))))
  where
    not_there : (i : ℕ) → 1 ≤ i → i ≤ length gaps → (r % slice_index gaps (i - 1) == 0) ≡ false
    not_there i first last =
        let k : ℕ = i - 1 in
        let is = are k (omega arith) in
        let reached : until ≤ slice_index next k = far k (omega arith) in
        elim (eqb_tells (r % slice_index gaps k) 0) [
          | inl t ↦ absurd (let past : r + slice_index gaps k ≤ slice_index next k = later_multiple (slice_index gaps k) r (slice_index next k) (some k (omega arith)) (t.1) is.multiple (omega arith) in omega arith)
          | inr t ↦ t.0
        ]

-- at the next boundary with a release, each task's next release is as it was
pub next-until : (gap at until next : ℕ) → IsNext gap (at + 1) next → at < until → until ≤ next → IsNext gap until next
next-until gap at until next is later far = record { multiple = is.multiple; reached = far; near = omega arith }

-- boundaries without a release add no release
jump-by : (gaps : List ℕ) (a d : ℕ) → ((r : ℕ) → a ≤ r → r < a + d → releases_at gaps r ≡ []) → releases_below gaps (a + d) ≡ releases_below gaps a
jump-by gaps a zero none = let same : a + 0 ≡ a = omega arith in ap (releases_below gaps) same
jump-by gaps a (suc d) none =
    let same : a + suc d ≡ suc (a + d) = omega arith in
    ap (releases_below gaps) same ∙ ap (λ l. releases_below gaps (a + d) ++ l) (none (a + d) (omega arith) (omega arith)) ∙ append-nil (releases_below gaps (a + d))
    ∙ jump-by gaps a d (λ r first last. none r first (omega arith))

pub releases_below-until : (gaps : List ℕ) (at until : ℕ) → at < until → ((r : ℕ) → at < r → r < until → releases_at gaps r ≡ []) → releases_below gaps until ≡ releases_below gaps at ++ releases_at gaps at
releases_below-until gaps at until later none =
    let d : ℕ = until - (at + 1) in
    let whole : until ≡ (at + 1) + d = omega arith in
    let one : at + 1 ≡ suc at = omega arith in
    ap (releases_below gaps) whole ∙ jump-by gaps (at + 1) d (λ r first last. none r (omega arith) (omega arith)) ∙ ap (releases_below gaps) one

-- at a boundary that is not a multiple of its gap a task is not released
pub release_of-none : (gap at i : ℕ) → at % gap ≢ 0 → release_of gap at i ≡ []
release_of-none gap at i off = let no : (at % gap == 0) ≡ false = grind (arith, nat_tests) in rw no refl

-- what holds of the values before index i, and of a new value there, holds of those before the next index
pub before_more : (P : ℕ → ℕ → Type 0) (old new : List ℕ) (i v : ℕ) → i < length old → new ≡ slice_set old i v → ((k : ℕ) → k < i → P k (slice_index old k)) → P i v → (k : ℕ) → k < i + 1 → P k (slice_index new k)
before_more P old new i v within same before here k less =
    elim (eqb_tells k i) [
      | inl t ↦ rw (t.1, same, get_or-set_same old i v 0 within) here
      | inr t ↦ rw (same, get_or-set_other old i k v 0 (t.1)) (before k (let other : k ≢ i = t.1 in omega arith))
    ]

-- what holds of the values after index i stays true when the value at i changes
pub after_more : (P : ℕ → ℕ → Type 0) (old new : List ℕ) (i v n : ℕ) → new ≡ slice_set old i v → ((k : ℕ) → i ≤ k → k < n → P k (slice_index old k)) → (k : ℕ) → i + 1 ≤ k → k < n → P k (slice_index new k)
after_more P old new i v n same later_part k first last =
    let other : k ≢ i = λ e. (omega arith) in
    rw (same, get_or-set_other old i k v 0 other) (later_part k (omega arith) last)
