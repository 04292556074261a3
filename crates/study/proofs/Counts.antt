-- How many sets reach a percentage, from how many percentages each of them reaches.
use Rattle.std.proofs.Common.{◌≡◌, ℕ, zero, suc, ◌+◌, ◌*◌, ◌<◌, refl, ap, sym, ◌∙◌, arith, Bool, cond, nat_lt, List, [], ◌∷◌, map, Option}
use Rattle.std.specs.Prelude.{count_by}
use Rattle.std.specs.List.{AllZip, range_with_len}
use Rattle.std.proofs.lemmas.List.Sums.{sum_by-cons, sum_by-append}
use Rattle.rayon.specs.Shown.{run-append}
use Rattle.study.specs.Acceptance.{reaches, generated_stretch, accepted, percentages, accept_table, PartsAdd, AcceptedAreAdmitted}
use Rattle.study.specs.Levels.{IsReached, more_than}
use Rattle.study.specs.Stretch.{is_admitted_at, stretch}
use Rattle.set_gen.specs.Words.{words_of}
use Rattle.set_gen.specs.GeneratedSet.{generated_set}
use Rattle.set_gen.proofs.GeneratedTasks.{generated_set-AreTasks}
use Rattle.study.proofs.Reached.{reaches-admitted}

-- counting a list with one more element
counted-cons : {X : Type 0} (p : X → Bool) (x : X) (xs : List X) → count_by p (x ∷ xs) ≡ cond (p x) 1 0 + count_by p xs
counted-cons p x xs = sum_by-cons (λ y. cond (p y) 1 0) x xs

-- a percentage is reached by as many stretches as there are sets that reach more percentages than lie below
-- it
reach : (f : ℕ → Option ℕ) (i : ℕ) → i < 11 → (zs ks : List ℕ) → AllZip (λ z k. IsReached (f z) k) zs ks → more_than i ks ≡ count_by (λ z. reaches (100 + 10 * i) (f z)) zs
unfolding more_than
reach f i lt [] [] h = refl
reach f i lt [] (k ∷ ks) h = absurd h
reach f i lt (z ∷ zs) [] h = absurd h
reach f i lt (z ∷ zs) (k ∷ ks) h =
    counted-cons (nat_lt i) k ks ∙ ap (λ b. cond b 1 0 + more_than i ks) (sym (h.0 i lt)) ∙ ap (λ r. cond (reaches (100 + 10 * i) (f z)) 1 0 + r) (reach f i lt zs ks h.1)
    ∙ sym (counted-cons (λ y. reaches (100 + 10 * i) (f y)) z zs)

pub map-range-same : (f g : ℕ → ℕ) (a n : ℕ) → ((i : ℕ) → i < a + n → f i ≡ g i) → map f (range_with_len a n) ≡ map g (range_with_len a n)
map-range-same f g a zero h = refl
map-range-same f g a (suc n) h =
    ap (λ x. x ∷ map f (range_with_len (a + 1) n)) (h a (omega arith)) ∙ ap (λ l. g a ∷ l) (map-range-same f g (a + 1) n (λ i lt. h i (omega arith)))

-- tests that agree count the same
counted-same : (p q : ℕ → Bool) (xs : List ℕ) → ((i : ℕ) → p i ≡ q i) → count_by p xs ≡ count_by q xs
counted-same p q [] h = refl
counted-same p q (x ∷ xs) h =
    counted-cons p x xs ∙ ap (λ c. cond c 1 0 + count_by p xs) (h x) ∙ ap (λ r. cond (q x) 1 0 + r) (counted-same p q xs h) ∙ sym (counted-cons q x xs)

-- law: a stretch reaches what the test admits
pub accepted-admitted : AcceptedAreAdmitted
unfolding accepted generated_stretch
accepted-admitted number sets n s some few most =
    counted-same (λ i. reaches s (stretch (generated_set (words_of (number + i)) n))) (λ i. is_admitted_at (generated_set (words_of (number + i)) n) s) (range_with_len 0 sets)
    (λ i. reaches-admitted (generated_set (words_of (number + i)) n) s (generated_set-AreTasks (words_of (number + i)) n some few) most)

-- the counts are the table
pub counts-table : (number sets n : ℕ) (ks : List ℕ) → AllZip (λ i k. IsReached (generated_stretch (number + i) n) k) (range_with_len 0 sets) ks
    → map (λ i. more_than i ks) (range_with_len 0 11) ≡ accept_table number sets n
unfolding accept_table percentages accepted
counts-table number sets n ks h =
    map-range-same (λ i. more_than i ks) (λ i. count_by (λ z. reaches (100 + 10 * i) (generated_stretch (number + z) n)) (range_with_len 0 sets)) 0 11
    (λ i lt. reach (λ z. generated_stretch (number + z) n) i (omega arith) (range_with_len 0 sets) ks h)

-- counting two ranges that agree number by number
counted-from : (p q : ℕ → Bool) (a b n : ℕ) → ((i : ℕ) → p (a + i) ≡ q (b + i)) → count_by p (range_with_len a n) ≡ count_by q (range_with_len b n)
counted-from p q a b zero h = refl
counted-from p q a b (suc n) h =
    counted-cons p a (range_with_len (a + 1) n) ∙ ap (λ c. cond c 1 0 + count_by p (range_with_len (a + 1) n)) here ∙ ap (λ r. cond (q b) 1 0 + r) (counted-from p q (a + 1) (b + 1) n later)
    ∙ sym (counted-cons q b (range_with_len (b + 1) n))
  where
    here : p a ≡ q b
    here = ap p (omega arith) ∙ h 0 ∙ ap q (omega arith)

    later : (i : ℕ) → p ((a + 1) + i) ≡ q ((b + 1) + i)
    later i = ap p (omega arith) ∙ h (i + 1) ∙ ap q (omega arith)

-- law: what a range of numbers counts is what its two parts count
pub parts-add : PartsAdd
unfolding accepted
parts-add number first second n s =
    ap (count_by p) (sym (run-append 0 first second)) ∙ sum_by-append (λ i. cond (p i) 1 0) (range_with_len 0 first) (range_with_len (0 + first) second)
    ∙ ap (λ r. count_by p (range_with_len 0 first) + r) (counted-from p q (0 + first) 0 second (λ i. ap (λ k. reaches s (generated_stretch k n)) (omega arith)))
  where
    p : ℕ → Bool
    p i = reaches s (generated_stretch (number + i) n)

    q : ℕ → Bool
    q i = reaches s (generated_stretch ((number + first) + i) n)
