-- How the generated tasks, and the words that are left, change with one more task.
use Rattle.std.proofs.Common.{◌≡◌, ℕ, suc, ◌+◌, ◌-◌, ◌/◌, List, [], ◌∷◌, ◌++◌, map, ap, sym, ◌∙◌, arith}
use Rattle.std.specs.List.{range_with_len}
use Rattle.std.specs.Int.{div_ceil}
use Rattle.std.proofs.lemmas.List.FromFn.{map-range_with_len_more}
use Rattle.rand_pcg.specs.Lcg.{Lcg}
use Rattle.set_gen.specs.Words.{after}
use Rattle.set_gen.specs.GeneratedSet.{words_taken, words_before}
use Rattle.set_gen.proofs.WordLemmas.{after-add}

-- the words that are left for task number i
abbrev pub words_for : Lcg → ℕ → Lcg
words_for words i = after (words_before (i - 1)) words

-- how many of n tasks are high
abbrev pub high_tasks : ℕ → ℕ
high_tasks n = (n + 1) / 2

-- how many of n tasks are low
abbrev pub low_tasks : ℕ → ℕ
low_tasks n = n / 2

-- half of n tasks, rounded up, are high
pub halves : (n : ℕ) → div_ceil n 2 ≡ high_tasks n
halves n = grind arith

-- a generated list stays one with one more element, made from the words that the elements before it leave
pub generated_more : {X : Type 0} (make : Lcg → ℕ → X) (words left : Lcg) (i : ℕ) (xs more : List X) (x : X)
    → xs ≡ map (λ k. make (words_for words k) k) (range_with_len 1 i) → left ≡ after (words_before i) words → x ≡ make left (i + 1) → more ≡ xs ++ x ∷ []
    → more ≡ map (λ k. make (words_for words k) k) (range_with_len 1 (i + 1))
generated_more {X} make words left i xs more x made words_left is longer =
    let f : ℕ → X = λ k. make (words_for words k) k in
    let place : i ≡ (i + 1) - 1 = omega arith in
    let one : x ≡ f (i + 1) = is ∙ ap (λ w. make w (i + 1)) words_left ∙ ap (λ j. make (after (words_before j) words) (i + 1)) place in
    longer ∙ ap (λ l. l ++ x ∷ []) made ∙ ap (λ y. map f (range_with_len 1 i) ++ y ∷ []) one ∙ sym (map-range_with_len_more f 1 i (i + 1) (omega arith))

-- the words that are left after one more task
pub words_more : (words left last : Lcg) (i : ℕ) → left ≡ after (words_before i) words → last ≡ after (words_taken (i + 1)) left → last ≡ after (words_before (i + 1)) words
words_more words left last i before then =
    let one : suc i ≡ i + 1 = omega arith in
    then ∙ ap (after (words_taken (i + 1))) before ∙ sym (after-add (words_before i) (words_taken (i + 1)) words) ∙ ap (λ k. after (words_before k) words) one
