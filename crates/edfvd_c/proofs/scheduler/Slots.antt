-- Elements in slots by their numbers.
use Rattle.std.proofs.Common.{◌≡◌, ℕ, zero, suc, ◌+◌, ◌-◌, ◌%◌, ◌<◌, inl, inr, List, [], ◌∷◌, ◌++◌, Some, length, get_or, set, refl, sym, ap, ◌∙◌, arith}
use Rattle.std.specs.Prelude.{reverse, slice_get}
use Rattle.std.proofs.lemmas.Bool.{cases_eq}
use Rattle.std.proofs.lemmas.List.{length-reverse, length-append, reverse-append, get_or-reverse}
use Rattle.std.proofs.lemmas.Option.{same_Some, slice_get-get_or, slice_get_read}
use Rattle.edfvd_c.specs.Scheduler.Slots.{IsInSlots}
use Rattle.mc_model.proofs.Lists.{set_here, set_other}

-- an element keeps its index when one more is added at the end of its list
pub slice_get_left : {T : Type 0} (xs : List T) (y : T) (n : ℕ) → n < length xs → slice_get (xs ++ y ∷ []) n ≡ slice_get xs n
slice_get_left [] y n h = absurd (omega arith)
slice_get_left (x ∷ xs) y zero h = refl
slice_get_left (x ∷ xs) y (suc n) h = slice_get_left xs y n (omega arith)

-- the last element of a list
pub slice_get_last : {T : Type 0} (xs : List T) (y : T) → slice_get (xs ++ y ∷ []) (length xs) ≡ Some y
slice_get_last [] y = refl
slice_get_last (x ∷ xs) y = slice_get_last xs y

-- the next element takes the slot of the one 256 before it
pub one_more : {T : Type 0} (all slots : List T) (y : T) → length slots ≡ 256 → IsInSlots all slots → IsInSlots (all ++ y ∷ []) (set slots (length all % 256) y)
one_more all slots y many is n there late =
    let longer : length (all ++ y ∷ []) ≡ length all + 1 = length-append all (y ∷ []) in
    elim (cases_eq n (length all)) [
      | inl last ↦ rw last (set_here slots (length all % 256) y (omega arith) ∙ sym (slice_get_last all y))
      | inr other ↦
          let before : n < length all = omega (arith, other) in
          let beside : n % 256 ≡ length all % 256 → ⊥ = omega arith in
          set_other slots (length all % 256) (n % 256) y beside ∙ is n before (omega arith) ∙ sym (slice_get_left all y n before)
    ]

-- the slots after an element was added, by the elements with the newest first
pub slots_more : {T : Type 0} (h g slots : List T) (y : T) (count : ℕ) → length slots ≡ 256 → IsInSlots (reverse h) slots → g ≡ y ∷ h → count ≡ length h
    → IsInSlots (reverse g) (set slots (count % 256) y)
slots_more {T} h g slots y count many is e c =
    let more : reverse (y ∷ h) ≡ reverse h ++ y ∷ [] = reverse-append (y ∷ []) h in
    rw (e, c, more, ← length-reverse h) (one_more (reverse h) slots y many is)

-- the element so far back from the newest, which stands first, is in the slot of its number
pub slots_read : {T : Type 0} (h slots : List T) (count back : ℕ) (d : T) → IsInSlots (reverse h) slots → count ≡ length h → back < count → back < 256
    → slice_get slots ((count - 1 - back) % 256) ≡ Some (get_or h back d)
slots_read {T} h slots count back d is many there late =
    let n : ℕ = count - 1 - back in
    let all : length (reverse h) ≡ length h = length-reverse h in
    let inside : n < length h = omega (arith, many, there) in
    let same : length h - 1 - n ≡ back = omega (arith, many, there) in
    is n (omega (arith, all, inside)) (omega (arith, all, many, there, late))
    ∙ (slice_get-get_or (reverse h) n d (omega (arith, all, inside)) ∙ ap (λ (y : T). Some y) (get_or-reverse h n d inside ∙ ap (λ (i : ℕ). get_or h i d) same))

-- what is read in a slot is the element so far back from the newest
pub slot_is : {T : Type 0} (h slots : List T) (count back i : ℕ) (x : T) → length slots ≡ 256 → IsInSlots (reverse h) slots → count ≡ length h → back < count → back < 256
    → i ≡ (count - 1 - back) % 256 → x ≡ get_or slots i x → slice_get h back ≡ Some x
slot_is {T} h slots count back i x full is many there late at read =
    let small : (count - 1 - back) % 256 < 256 = omega arith in
    let here : slice_get slots i ≡ Some x = slice_get_read slots 256 i x (sym full) (omega (arith, at, small)) read in
    let same : slice_get slots i ≡ Some (get_or h back x) = ap (slice_get slots) at ∙ slots_read h slots count back x is many there late in
    slice_get_read h (length h) back x refl (omega (arith, many, there)) (same_Some x (get_or h back x) (sym here ∙ same))
