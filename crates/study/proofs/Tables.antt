-- The tables of a range of numbers and of its parts.
use Rattle.std.proofs.Common.{◌≡◌, ℕ, zero, suc, ◌+◌, ◌*◌, ◌<◌, ◌≤◌, min, refl, sym, ap, ◌∙◌, subst, arith, List, [], ◌∷◌, ◌++◌, map, get_or, Option}
use Rattle.std.specs.List.{AllZip, range_with_len}
use Rattle.std.proofs.lemmas.List.FromFn.{length-range_with_len}
use Rattle.std.proofs.lemmas.List.Elements.{AllZip-push}
use Rattle.std.proofs.lemmas.List.Sums.{count_by-le-length}
use Rattle.rayon.specs.Shown.{run-append}
use Rattle.study.specs.Acceptance.{reaches, generated_stretch, accepted, percentages, accept_table}
use Rattle.study.specs.Shares.{pieces_of, sets_at, piece_counts, added}
use Rattle.study.specs.Levels.{IsReached}
use Rattle.study.proofs.Counts.{map-range-same, parts-add}

-- a list of how many percentages each set reaches stays one with the number for the next set
pub reached-more : (f : ℕ → Option ℕ) (i k : ℕ) (ks more : List ℕ) → AllZip (λ j m. IsReached (f j) m) (range_with_len 0 i) ks → IsReached (f i) k → more ≡ ks ++ k ∷ []
    → AllZip (λ j m. IsReached (f j) m) (range_with_len 0 (i + 1)) more
reached-more f i k ks more so_far here is =
    let at : IsReached (f (0 + i)) k = subst (λ j. IsReached (f j) k) (omega arith) here in
    subst (λ (ms : List ℕ). AllZip (λ j m. IsReached (f j) m) (range_with_len 0 (i + 1)) ms) (sym is)
    (subst (λ (is : List ℕ). AllZip (λ j m. IsReached (f j) m) is (ks ++ k ∷ [])) (run-append 0 i 1)
    (AllZip-push (λ j m. IsReached (f j) m) (range_with_len 0 i) ks (0 + i) k so_far at))

-- the table of no sets has a count of 0 for each percentage
pub table-none : (number n : ℕ) → 0 ∷ 0 ∷ 0 ∷ 0 ∷ 0 ∷ 0 ∷ 0 ∷ 0 ∷ 0 ∷ 0 ∷ 0 ∷ [] ≡ accept_table number 0 n
unfolding accept_table percentages accepted
table-none number n = refl

-- at most as many sets are counted as there are
accepted-most : (number sets n s : ℕ) → accepted number sets n s ≤ sets
unfolding accepted
accepted-most number sets n s =
    let most = count_by-le-length (λ i. reaches s (generated_stretch (number + i) n)) (range_with_len 0 sets) in
    omega (arith, most, length-range_with_len 0 sets)

-- a bound on each value of f bounds each element of its list, and what stands past the end
value-most : (f : ℕ → ℕ) (most : ℕ) → ((s : ℕ) → f s ≤ most) → (xs : List ℕ) (k : ℕ) → get_or (map f xs) k 0 ≤ most
value-most f most h [] k = omega arith
value-most f most h (x ∷ xs) zero = h x
value-most f most h (x ∷ xs) (suc k) = value-most f most h xs k

-- no count is above the number of sets
pub counts-most : (counts : List ℕ) (number sets n k : ℕ) → counts ≡ accept_table number sets n → get_or counts k 0 ≤ sets
unfolding accept_table
counts-most counts number sets n k is =
    subst (λ (l : List ℕ). get_or l k 0 ≤ sets) (sym is) (value-most (accepted number sets n) sets (accepted-most number sets n) percentages k)

-- the tables of two parts, added, are the table of the whole
pub tables-add : (number first second n : ℕ) → added (accept_table number first n) (accept_table (number + first) second n) ≡ accept_table number (first + second) n
unfolding accept_table percentages
tables-add number first second n =
    map-range-same (λ k. accepted number first n (100 + 10 * k) + accepted (number + first) second n (100 + 10 * k)) (λ k. accepted number (first + second) n (100 + 10 * k)) 0 11
    (λ k lt. sym (parts-add number first second n (100 + 10 * k)))

-- the counts of the pieces before one piece, added to its own, are the counts of the pieces up to it
pub pieces-more : (number sets n index : ℕ) (before piece after : List ℕ) → index < pieces_of sets → before ≡ accept_table number (min sets (128 * index)) n
    → piece ≡ piece_counts number sets n index → after ≡ added before piece → after ≡ accept_table number (min sets (128 * (index + 1))) n
pieces-more number sets n index before piece after lt b p is =
    let whole : min sets (128 * index) ≡ 128 * index = omega (arith, lt) in
    is ∙ (λ t. added (b t) (p t)) ∙ ap (λ k. added (accept_table number k n) (piece_counts number sets n index)) whole ∙ tables-add number (128 * index) (sets_at sets index) n
    ∙ ap (λ k. accept_table number k n) (omega (arith, lt))
