-- The answers to the calls of each task, added up over the tasks, are the answers to all calls.
use Rattle.std.proofs.Common.{◌≡◌, ℕ, ◌≤◌, ◌≢◌, ◌+◌, ◌==◌, ◌||◌, zero, suc, List, [], ◌∷◌, length, Bool, true, false, refl, ap, sym, ◌∙◌, arith, All, cond, ne_eqb, nat_lt}
use Rattle.std.specs.List.{list_any}
use Rattle.std.proofs.lemmas.Bool.{eqb-true}
use Rattle.std.proofs.lemmas.Bool.Decides.{nat_tests}
use Rattle.std.proofs.lemmas.List.Elements.{All-head, All-tail}
use Rattle.mc_model.specs.Sums.{total}
use Rattle.mc_model.proofs.Sums.{total-add, total-same}
use Rattle.timetable.specs.Floor.{FloorState}
use Rattle.executive.specs.declared.entry.Entry.{Entry}
use Rattle.executive.specs.declared.entry.Answer.{Answer}
use Rattle.executive.specs.Histories.{after_call, IsLegal, calls_of}
use Rattle.executive.proofs.Histories.{opening_call}

module _ {A : Type 0} (t : A → ℕ) where
  -- some element has the number
  abbrev pub has : List A → ℕ → Bool
  has xs k = list_any (λ x. t x == k) xs

  -- the list without one element of this number
  record Without (xs : List A) (m : ℕ) : Type 0 where
    rest : List A
    shorter : length xs ≡ 1 + length rest
    sums : (f : ℕ → ℕ) → total (λ x. f (t x)) xs ≡ f m + total (λ x. f (t x)) rest
    keeps : (k : ℕ) → k ≢ m → has xs k ≡ true → has rest k ≡ true

  without_at : (b : Bool) (x : A) (xs : List A) (m : ℕ) → (t x == m) ≡ b → (b || has xs m) ≡ true → (has xs m ≡ true → Without xs m) → Without (x ∷ xs) m
  without_at true x xs m is h more = let same : t x ≡ m = eqb-true (t x) m is in record {
    rest = xs;
    shorter = omega arith;
    sums = λ f. ap (λ n. f n + total (λ x. f (t x)) xs) same;
    keeps = λ k ne h. rw (ne_eqb (t x) k (λ q. ne (sym q ∙ same))) at h;
  }
  without_at false x xs m is h more = let w = more h in record {
    rest = x ∷ w.rest;
    shorter = let s = w.shorter in omega arith;
    sums = λ f. let s = w.sums f in omega (arith, s);
    keeps = λ k ne. elim (t x == k) as (λ b. (b || has xs k) ≡ true → (b || has w.rest k) ≡ true) [ true ↦ λ h. refl | false ↦ w.keeps k ne ];
  }

  without : (xs : List A) (m : ℕ) → has xs m ≡ true → Without xs m
  without [] m h = absurd (cc)
  without (x ∷ xs) m h = without_at (t x == m) x xs m refl h (without xs m)

  -- if at most n elements have each number from 1 to n, each of these numbers has exactly one element
  once : (i v n : ℕ) (xs : List A) → 1 ≤ i → length xs ≤ n → ((k : ℕ) → 1 ≤ k → k ≤ n → has xs k ≡ true) → total (λ x. cond (i == t x) v 0) xs ≡ cond (nat_lt n i) 0 v
  once i v zero [] some few each = none i v some
    where
      none : (i v : ℕ) → 1 ≤ i → 0 ≡ cond (nat_lt 0 i) 0 v
      none i v some = grind (arith, nat_tests)
  once i v zero (x ∷ xs) some few each = absurd (omega arith)
  once i v (suc n) xs some few each =
      let w = without xs (suc n) (each (suc n) (omega arith) (omega arith)) in
      let less : length w.rest ≤ n = let s = w.shorter in omega (arith, s, few) in
      let rest = once i v n w.rest some less (λ k low high. let ne : k ≢ suc n = omega (arith, high) in w.keeps k ne (each k low (omega (arith, high)))) in
      let all = w.sums (λ k. cond (i == k) v 0) in
      let one = one_more i v n in
      omega (arith, all, rest, one)
    where
      one_more : (i v n : ℕ) → cond (i == suc n) v 0 + cond (nat_lt n i) 0 v ≡ cond (nat_lt (suc n) i) 0 v
      one_more i v n = grind (arith, nat_tests)

  no_answers : (xs : List A) → total (λ x. 0) xs ≡ 0
  no_answers [] = refl
  no_answers (x ∷ xs) = omega (arith, no_answers xs)

  -- if a list has each task once, the answers to the calls of its tasks are all answers
  pub all_answers : (g : Answer → ℕ) (n : ℕ) (xs : List A) → length xs ≤ n → ((k : ℕ) → 1 ≤ k → k ≤ n → has xs k ≡ true)
      → (f : FloorState) (log : List Entry) → length f.core.set ≤ n → IsLegal f log
      → total (λ x. total (λ (e : Entry). g e.answer) (calls_of (t x) log)) xs ≡ total (λ (e : Entry). g e.answer) log
  all_answers g n xs few each f [] size legal = no_answers xs
  all_answers g n xs few each f (e ∷ es) size legal =
      let low = legal.0.in_set.0 in
      let high = legal.0.in_set.1 in
      let set : length (after_call f e.task.0 e.call).core.set ≡ length f.core.set = ap (λ (g : FloorState). length g.core.set) (opening_call f e.task.0 e.call) in
      let rest = all_answers g n xs few each (after_call f e.task.0 e.call) es (omega (arith, set, size)) legal.1 in
      let here = once e.task.0 (g e.answer) n xs low few each in
      let parts = total-same _ _ (λ x. part (e.task.0 == t x) (calls_of (t x) es)) xs in
      let sum = total-add (λ x. cond (e.task.0 == t x) (g e.answer) 0) (λ x. total (λ (y : Entry). g y.answer) (calls_of (t x) es)) xs in
      let inside = in_all n e.task.0 (g e.answer) (omega (arith, high, size)) in
      omega (arith, rest, here, parts, sum, inside)
    where
      part : (b : Bool) (own : List Entry) → total (λ (y : Entry). g y.answer) (cond b (e ∷ own) own) ≡ cond b (g e.answer) 0 + total (λ (y : Entry). g y.answer) own
      part true own = refl
      part false own = omega arith

      in_all : (n i v : ℕ) → i ≤ n → cond (nat_lt n i) 0 v ≡ v
      in_all n i v le = grind (arith, nat_tests)

pub total_same : {A : Type 0} (f h : A → ℕ) (xs : List A) → All (λ x. f x ≡ h x) xs → total f xs ≡ total h xs
total_same f h [] a = refl
total_same f h (x ∷ xs) a = let q = All-head (λ x. f x ≡ h x) x xs a in let m = total_same f h xs (All-tail (λ x. f x ≡ h x) x xs a) in omega (arith, q, m)
