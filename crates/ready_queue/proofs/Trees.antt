-- In a winner tree the root is the item of a leaf, and no node beats it.
use Rattle.std.proofs.Common.{◌≡◌, ℕ, suc, zero, ◌+◌, ◌*◌, ◌/◌, ◌<◌, ◌≤◌, false, ◌⊎◌, List, Option, None, length, refl, sym, subst, inl, inr, ⊎_elim, ◌∙◌, arith}
use Rattle.std.proofs.lemmas.Bool.{cases_lt}
use Rattle.std.proofs.lemmas.List.{get_or_past}
use Rattle.ready_queue.specs.declared.item.Item.{Item}
use Rattle.ready_queue.specs.Tree.{winner, node, IsPlayed, IsTree}
use Rattle.ready_queue.proofs.Matches.{beats, beats-self, beats-trans, winner_left, winner_right, winner_is}

-- no node beats its parent
pub above : (nodes : List (Option Item)) → IsTree nodes → (j : ℕ) → 2 ≤ j → 2 * (j / 2) + 1 < length nodes → beats (node nodes j) (node nodes (j / 2)) ≡ false
above nodes tree j two within =
    let positive : 1 ≤ j / 2 = omega arith in
    let played : IsPlayed nodes (j / 2) = tree (j / 2) positive within in
    let parity : (j ≡ 2 * (j / 2)) ⊎ (j ≡ 2 * (j / 2) + 1) = grind arith in
    subst (λ (w : Option Item). beats (node nodes j) w ≡ false) (sym played)
    (⊎_elim
    (λ (e : j ≡ 2 * (j / 2)). subst (λ (k : ℕ). beats (node nodes k) (winner (node nodes (2 * (j / 2))) (node nodes (2 * (j / 2) + 1))) ≡ false) (sym e) (winner_left (node nodes (2 * (j / 2))) (node nodes (2 * (j / 2) + 1))))
    (λ (e : j ≡ 2 * (j / 2) + 1). subst (λ (k : ℕ). beats (node nodes k) (winner (node nodes (2 * (j / 2))) (node nodes (2 * (j / 2) + 1))) ≡ false) (sym e) (winner_right (node nodes (2 * (j / 2))) (node nodes (2 * (j / 2) + 1))))
    parity)

-- no node beats the root, by induction on a bound of its index
under_root : (nodes : List (Option Item)) (p : ℕ) → length nodes ≡ 2 * p → IsTree nodes → (n j : ℕ) → j ≤ n → 1 ≤ j → j < 2 * p → beats (node nodes j) (node nodes 1) ≡ false
under_root nodes p len tree zero j b positive within = absurd (omega arith)
under_root nodes p len tree (suc n) j b positive within =
    ⊎_elim
    (λ (one : j < 2). subst (λ (k : ℕ). beats (node nodes k) (node nodes 1) ≡ false) (let e : 1 ≡ j = omega arith in e) (beats-self (node nodes 1)))
    (λ (two : 2 ≤ j).
    beats-trans (node nodes 1) (node nodes (j / 2)) (node nodes j)
    (under_root nodes p len tree n (j / 2) (omega arith) (omega arith) (omega arith))
    (above nodes tree j two (omega arith)))
    (cases_lt j 2)

-- no node beats the root
pub root_first : (nodes : List (Option Item)) (p : ℕ) → length nodes ≡ 2 * p → IsTree nodes → (j : ℕ) → 1 ≤ j → beats (node nodes j) (node nodes 1) ≡ false
root_first nodes p len tree j positive =
    ⊎_elim
    (λ (within : j < 2 * p). under_root nodes p len tree j j (omega arith) positive within)
    (λ (past : 2 * p ≤ j). subst (λ (o : Option Item). beats o (node nodes 1) ≡ false) (sym (get_or_past nodes j None (omega arith))) refl)
    (cases_lt j (2 * p))

-- a leaf with the item of node i
pub record Leaf (nodes : List (Option Item)) (p i : ℕ) : Type 0 where
  pub at : ℕ
  pub low : p ≤ at
  pub same : node nodes at ≡ node nodes i

-- each node has the item of a leaf, by induction on the number of nodes after it
pub a_leaf : (nodes : List (Option Item)) (p : ℕ) → length nodes ≡ 2 * p → IsTree nodes → (n i : ℕ) → 2 * p ≤ i + n → 1 ≤ i → Leaf nodes p i
a_leaf nodes p len tree zero i b positive = record { at = i; low = omega arith; same = refl }
a_leaf nodes p len tree (suc n) i b positive =
    ⊎_elim
    (λ (inner : i < p). at_inner (winner_is (node nodes (2 * i)) (node nodes (2 * i + 1))) (tree i positive (omega arith)) (a_leaf nodes p len tree n (2 * i) (omega arith) (omega arith)) (a_leaf nodes p len tree n (2 * i + 1) (omega arith) (omega arith)))
    (λ (leaf : p ≤ i). record { at = i; low = leaf; same = refl })
    (cases_lt i p)
  where
    at_inner :
        (winner (node nodes (2 * i)) (node nodes (2 * i + 1)) ≡ node nodes (2 * i)) ⊎ (winner (node nodes (2 * i)) (node nodes (2 * i + 1)) ≡ node nodes (2 * i + 1)) →
        IsPlayed nodes i → Leaf nodes p (2 * i) → Leaf nodes p (2 * i + 1) → Leaf nodes p i
    at_inner (inl e) played l r = record { at = l.at; low = l.low; same = l.same ∙ sym e ∙ sym played }
    at_inner (inr e) played l r = record { at = r.at; low = r.low; same = r.same ∙ sym e ∙ sym played }
