-- Lists in which one element changes, and lists that grow at the end.
use Rattle.std.proofs.Common.{◌≡◌, ℕ, zero, suc, ◌<◌, ◌≢◌, List, [], ◌∷◌, ◌++◌, length, set, slice_index_or, slice_get, sym, refl, subst, inl, inr, arith, length-set, Bool, true, false, Some, All, map}
use Rattle.std.specs.List.{list_any}
use Rattle.std.proofs.lemmas.Bool.{cases_Bool}
use Rattle.std.proofs.lemmas.Option.{slice_get_within, get_or_from_slice_get}
use Rattle.std.proofs.lemmas.List.Elements.{All-nil, All-cons, All-head, All-tail}
use mathlib.Core.Option.{some, some-injective, some-ne-none}
use lib.ListN.{get_elem?}
use Rattle.atomic_table.proofs.Lists.{at_set}

module _ {A : Type 0} where
  pub set_at : (l : List A) (i : ℕ) (a b : A) → get_elem? l i ≡ some a → get_elem? (set l i b) i ≡ some b
  set_at [] i a b e = absurd (some-ne-none a (sym e))
  set_at (x ∷ xs) zero a b e = refl
  set_at (x ∷ xs) (suc i) a b e = set_at xs i a b e

  pub below : (l : List A) (i : ℕ) (a : A) → get_elem? l i ≡ some a → i < length l
  below [] i a e = absurd (some-ne-none a (sym e))
  below (x ∷ xs) zero a e = omega arith
  below (x ∷ xs) (suc i) a e = omega (arith, below xs i a e)

  -- what holds of the new element, and of each other element, holds of each
  pub set_all : (P : ℕ → ℕ → A → Type 0) (l : List A) (id : ℕ) (w : A) → P (length l) id w
      → ((j : ℕ) (u : A) → j ≢ id → get_elem? l j ≡ some u → P (length l) j u)
      → (j : ℕ) (u : A) → get_elem? (set l id w) j ≡ some u → P (length (set l id w)) j u
  set_all P l id w here else j u e = rw length-set (elim (at_set l id j w u e) [ inl t ↦ subst (P (length l) j) t.1 (rw t.0 here) | inr t ↦ else j u t.0 t.1 ])

  pub set_one : (l : List A) (a : A) → length l ≡ 1 → set l 0 a ≡ a ∷ []
  set_one [] a e = absurd (omega arith)
  set_one (x ∷ []) a e = refl
  set_one (x ∷ y ∷ ys) a e = absurd (omega arith)

  -- what holds of each element, and of one more at the end, holds of each
  pub each_end : (P : ℕ → A → Type 0) (l : List A) (a : A) → ((j : ℕ) (b : A) → get_elem? l j ≡ some b → P j b) → P (length l) a
      → (j : ℕ) (b : A) → get_elem? (l ++ a ∷ []) j ≡ some b → P j b
  each_end P [] a old new zero b e = subst (P zero) (some-injective a b e) new
  each_end P [] a old new (suc j) b e = absurd (some-ne-none b (sym e))
  each_end P (x ∷ xs) a old new zero b e = old zero b e
  each_end P (x ∷ xs) a old new (suc j) b e = each_end (λ i. P (suc i)) xs a (λ i. old (suc i)) new j b e

  at_or : (l : List A) (k : ℕ) (d : A) → k < length l → get_elem? l k ≡ some (slice_index_or l k d)
  at_or [] k d h = absurd (omega arith)
  at_or (x ∷ xs) zero d h = refl
  at_or (x ∷ xs) (suc k) d h = at_or xs k d (omega arith)

  pub all_of : (P : A → Type 0) (l : List A) → ((k : ℕ) (a : A) → get_elem? l k ≡ some a → P a) → All P l
  all_of P l h k d lt = h k (slice_index_or l k d) (at_or l k d lt)

  pub held_first : {B : Type 0} (P : B → Type 0) (f : A → B) (xs : List A) (t : List B) → All P (map f xs ++ t) → All (λ x. P (f x)) xs
  held_first P f [] t h = All-nil (λ x. P (f x))
  held_first P f (x ∷ xs) t h = All-cons (λ y. P (f y)) x xs (All-head P (f x) (map f xs ++ t) h) (held_first P f xs t (All-tail P (f x) (map f xs ++ t) h))

  -- what holds of each element by its index, and of one more, holds of each
  pub each_last : (P : ℕ → A → Type 0) (xs : List A) (a : A) → ((k : ℕ) (d : A) → k < length xs → P k (slice_index_or xs k d)) → P (length xs) a
      → (k : ℕ) (d : A) → k < length (xs ++ a ∷ []) → P k (slice_index_or (xs ++ a ∷ []) k d)
  each_last P [] a old new zero d lt = new
  each_last P [] a old new (suc k) d lt = absurd (omega arith)
  each_last P (x ∷ xs) a old new zero d lt = old zero d (omega arith)
  each_last P (x ∷ xs) a old new (suc k) d lt = each_last (λ i y. P (suc i) y) xs a (λ i e h. old (suc i) e (omega arith)) new k d (omega arith)

  -- if some element passes the test, one that passes stands at some index
  pub found : (p : A → Bool) (xs : List A) → list_any p xs ≡ true → (i : ℕ) × (x : A) × (slice_get xs i ≡ Some x) × (p x ≡ true)
  found p [] e = absurd (cc)
  found p (x ∷ xs) e = elim (cases_Bool (p x)) [
    | inl is ↦ (0, x, refl, is)
    | inr off ↦ let t = found p xs (rw off at e) in (suc t.0, t.1, t.2, t.3)
  ]

  -- what holds of all elements holds of one of them
  pub all_get : (P : A → Type 0) (xs : List A) (i : ℕ) (x : A) → All P xs → slice_get xs i ≡ Some x → P x
  all_get P xs i x h e = subst P (get_or_from_slice_get xs i x x e) (h i x (slice_get_within xs i x e))

pub both_ways : {X : Type 0} (b : Bool) → b ≡ true → b ≡ false → X
both_ways b t f = absurd (cc)

pub never : {X : Type 0} → false ≡ true → X
never e = both_ways false e refl
