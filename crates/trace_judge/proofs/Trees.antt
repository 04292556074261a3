-- In a tree of keys the root has one of the leaves' keys, and none is less.
use Rattle.std.proofs.Common.{◌≡◌, ℕ, suc, zero, ◌+◌, ◌-◌, ◌*◌, ◌/◌, ◌<◌, ◌≤◌, ◌⊎◌, List, length, refl, inl, inr, ap, ◌∙◌, arith, replicate}
use Rattle.std.specs.Prelude.{slice_index, All, Contains}
use Rattle.std.proofs.lemmas.Bool.{cases_lt}
use Rattle.std.proofs.lemmas.List.{get_or-drop, length-drop, length-replicate, get_or-replicate, drop-replicate, get_or_default}
use Rattle.trace_judge.specs.Heads.{no_key, IsLesser, IsTree, leaves, AreNodes}

-- no node has a lesser key than its parent
above : (nodes : List ℕ) → IsTree nodes → (j : ℕ) → 2 ≤ j → 2 * (j / 2) + 1 < length nodes → slice_index nodes (j / 2) ≤ slice_index nodes j
above nodes tree j two within =
    let lesser : IsLesser nodes (j / 2) = tree (j / 2) (omega arith) within in
    let parity : (j ≡ 2 * (j / 2)) ⊎ (j ≡ 2 * (j / 2) + 1) = grind arith in
    elim parity [ inl e ↦ omega (arith, lesser, ap (λ k. slice_index nodes k) e) | inr e ↦ omega (arith, lesser, ap (λ k. slice_index nodes k) e) ]

-- no node has a lesser key than the root, by induction on a bound of the node's number
under_root : (nodes : List ℕ) (p : ℕ) → length nodes ≡ 2 * p → IsTree nodes → (n j : ℕ) → j ≤ n → 1 ≤ j → j < 2 * p → slice_index nodes 1 ≤ slice_index nodes j
under_root nodes p len tree zero j b positive within = absurd (omega arith)
under_root nodes p len tree (suc n) j b positive within =
    elim (cases_lt j 2) [
      | inl one ↦ let root : j ≡ 1 = omega arith in omega (arith, ap (λ k. slice_index nodes k) root)
      | inr two ↦ omega (arith, under_root nodes p len tree n (j / 2) (omega arith) (omega arith) (omega arith), above nodes tree j two (omega arith))
    ]

-- a leaf that has the key of node i
record Leaf (nodes : List ℕ) (p i : ℕ) : Type 0 where
  pub at : ℕ
  pub low : p ≤ at
  pub high : at < 2 * p
  pub same : slice_index nodes at ≡ slice_index nodes i

-- some leaf has the key of node i, by induction on the number of nodes after i
a_leaf : (nodes : List ℕ) (p : ℕ) → length nodes ≡ 2 * p → IsTree nodes → (n i : ℕ) → 2 * p ≤ i + n → 1 ≤ i → i < 2 * p → Leaf nodes p i
a_leaf nodes p len tree zero i b positive within = absurd (omega arith)
a_leaf nodes p len tree (suc n) i b positive within =
    elim (cases_lt i p) [
      | inl inner ↦ at_inner (tree i positive (omega arith)) (a_leaf nodes p len tree n (2 * i) (omega arith) (omega arith) (omega arith))
          (a_leaf nodes p len tree n (2 * i + 1) (omega arith) (omega arith) (omega arith))
      | inr leaf ↦ record { at = i; low = leaf; high = within; same = refl }
    ]
  where
    at_inner : IsLesser nodes i → Leaf nodes p (2 * i) → Leaf nodes p (2 * i + 1) → Leaf nodes p i
    at_inner lesser l r =
        elim (cases_lt (slice_index nodes (2 * i)) (slice_index nodes (2 * i + 1))) [
          | inl left ↦ record { at = l.at; low = l.low; high = l.high; same = omega (arith, l.same, lesser, left) }
          | inr right ↦ record { at = r.at; low = r.low; high = r.high; same = omega (arith, r.same, lesser, right) }
        ]

-- no leaf has less than the root
pub root_below : (nodes : List ℕ) → AreNodes nodes → All (λ key. slice_index nodes 1 ≤ key) (leaves nodes)
root_below nodes a k d h =
    let within : length nodes / 2 + k < 2 * (length nodes / 2) = omega (arith, h, length-drop (length nodes / 2) nodes, a.even) in
    let low = under_root nodes (length nodes / 2) a.even a.tree (length nodes / 2 + k) (length nodes / 2 + k) (omega arith) (omega (arith, a.some)) within in
    omega (arith, low, get_or-drop (length nodes / 2) nodes k d, get_or_default nodes (length nodes / 2 + k) d 0 (omega (arith, a.even, within)))

-- some leaf has the root's key
pub root_there : (nodes : List ℕ) → AreNodes nodes → Contains (leaves nodes) (slice_index nodes 1)
root_there nodes a =
    let half : ℕ = length nodes / 2 in
    let leaf = a_leaf nodes half a.even a.tree (length nodes) 1 (omega (arith, a.even)) (omega arith) (omega (arith, a.some, a.even)) in
    let back : half + (leaf.at - half) ≡ leaf.at = omega (arith, leaf.low) in (
      leaf.at - half,
      omega (arith, leaf.low, leaf.high, a.even, length-drop half nodes),
      get_or-drop half nodes (leaf.at - half) (slice_index nodes 1)
          ∙ rw back (get_or_default nodes leaf.at (slice_index nodes 1) 0 (omega (arith, leaf.high, a.even)) ∙ leaf.same),
    )

-- a tree of equal keys
pub same_keys : (n : ℕ) → 1 ≤ n → AreNodes (replicate (2 * n) no_key)
same_keys n some = record {
  some = omega (arith, length-replicate (2 * n) no_key);
  even = omega (arith, length-replicate (2 * n) no_key);
  tree = λ k one within.
      let len : length (replicate (2 * n) no_key) ≡ 2 * n = length-replicate (2 * n) no_key in
      let same : (i : ℕ) → i < 2 * n → slice_index (replicate (2 * n) no_key) i ≡ no_key = λ i h. get_or-replicate (2 * n) i no_key 0 h in
      omega (arith, same k (omega (arith, within, len)), same (2 * k) (omega (arith, within, len)), same (2 * k + 1) (omega (arith, within, len)));
}

-- the leaves of a tree of equal keys
pub same_leaves : (n : ℕ) → leaves (replicate (2 * n) no_key) ≡ replicate n no_key
same_leaves n =
    let len : length (replicate (2 * n) no_key) ≡ 2 * n = length-replicate (2 * n) no_key in
    let half : length (replicate (2 * n) no_key) / 2 ≡ n = omega (arith, len) in
    let rest : 2 * n - n ≡ n = omega arith in
    rw half (drop-replicate n (2 * n) no_key ∙ rw rest refl)
