-- What is made of processors 1 to m, one after the other.
use Rattle.std.proofs.Common.{◌≡◌, ℕ, suc, ◌+◌, ◌-◌, ◌<◌, Bool, true, false, cond, filter, List, [], ◌∷◌, ◌++◌, refl, sym, ap, ◌∙◌, arith, append_assoc}
use Rattle.std.specs.List.{range_with_len}

-- the numbers from n to m are n and the numbers from n + 1 to m
from_next : (n m : ℕ) → n < m + 1 → range_with_len n (m + 1 - n) ≡ n ∷ range_with_len (n + 1) (m + 1 - (n + 1))
from_next n m within =
    let here : m + 1 - n ≡ suc (m + 1 - (n + 1)) = omega arith in
    ap (range_with_len n) here

-- what is made for one more processor comes after what is made for those before it
pub made-more : (make : List ℕ → List ℕ) (one : ℕ → List ℕ) (n m : ℕ) (some more whole : List ℕ) → ((k : ℕ) (ks : List ℕ) → make (k ∷ ks) ≡ one k ++ make ks) → n < m + 1
    → some ++ make (range_with_len n (m + 1 - n)) ≡ whole → more ≡ some ++ one n → more ++ make (range_with_len (n + 1) (m + 1 - (n + 1))) ≡ whole
made-more make one n m some more whole steps within inv grows =
    let rest : List ℕ = range_with_len (n + 1) (m + 1 - (n + 1)) in
    let here : make (range_with_len n (m + 1 - n)) ≡ one n ++ make rest = ap make (from_next n m within) ∙ steps n rest in
    ap (λ x. x ++ make rest) grows ∙ append_assoc some (one n) (make rest) ∙ sym (ap (λ l. some ++ l) here) ∙ inv

-- the numbers that pass a test are the first one, if it passes, and those after it that pass
pub filter-one : (p : ℕ → Bool) (k : ℕ) (ks : List ℕ) → filter p (k ∷ ks) ≡ filter p (k ∷ []) ++ filter p ks
filter-one p k ks = elim (p k) as (λ b. cond b (k ∷ filter p ks) (filter p ks) ≡ cond b (k ∷ []) [] ++ filter p ks) [ true ↦ refl | false ↦ refl ]
