-- The scale of a file: it is valid, and what is printed of it reads back.
use Rattle.std.proofs.Common.{◌≡◌, ℕ, ℤ, ◌*◌, ◌^◌, ◌<◌, ◌≤◌, ◌&&◌, pos, negsuc, nat_le, nat_lt, Bool, true, false, cond, List, [], ◌∷◌, length, Option, Some, None, Ok, IfSome, refl, sym, ap, subst, arith}
use Rattle.std.proofs.lemmas.Bool.Decides.{nat_tests}
use Rattle.std.proofs.Math.Nat.{le_of_mul-le-mul_left, lt_of_mul-lt-mul_left, mul-le-mul_right}
use Rattle.toml.specs.Data.{Data, Items, no_items, item, string, integer, float, boolean, datetime, array, table, as_array}
use Rattle.toml.specs.View.{view, items_view}
use Rattle.toml.specs.declared.value.Value.{Value}
use Rattle.tick_frac.specs.Numbers.{gcd}
use Rattle.tick_frac.specs.Fraction.{lowest}
use Rattle.tick_frac.proofs.Numbers.{gcd_pos_first}
use Rattle.tick_frac.proofs.Fractions.{whole_num, whole_den, IsLowest-lowest}
use Rattle.mc_task.specs.declared.task.Scale.{Scale}
use Rattle.mc_task.specs.TaskSet.{IsScale}
use Rattle.task_file.specs.declared.key.KeyName.TheVariants as key
use Rattle.task_file.specs.declared.fault.TaskFault.TheVariants.{WrongKind, OutOfRange}
use Rattle.task_file.specs.Refusals.{◌>>=◌, or_refuse}
use Rattle.task_file.specs.ScaleArray.{numbers_of, lowest_scale, scale_of, scale_in}
use Rattle.task_file.specs.Printed.{scale_array}

-- a scale p/q with 1 ≤ p ≤ q < 2^32, put in lowest terms, is valid
pub lowest-IsScale : (p q : ℕ) → 1 ≤ p → p ≤ q → q < 2 ^ 32 → IsScale (lowest_scale p q)
lowest-IsScale p q some order small =
    let g : ℕ = gcd p q in
    let n : ℕ = (lowest p q).num in
    let d : ℕ = (lowest p q).den in
    let above : 0 < g = gcd_pos_first p q (omega arith) in
    let num : g * n ≡ p = whole_num p q in
    let den : g * d ≡ q = whole_den p q in
    let start : g * 0 < g * n = omega arith in
    let parts : g * n ≤ g * d = omega arith in
    let most : 1 * d ≤ g * d = mul-le-mul_right d above in
    let coprime : gcd n d ≡ 1 = (IsLowest-lowest p q (omega arith)).coprime in
    record { some = lt_of_mul-lt-mul_left g start; order = le_of_mul-le-mul_left parts above; small = omega arith; lowest = coprime }

-- a scale is the lowest terms of its own numbers
lowest-same : (x : Scale) → IsScale x → lowest_scale x.p x.q ≡ x
lowest-same x is =
    let num : 1 * (lowest x.p x.q).num ≡ x.p = subst (λ g. g * (lowest x.p x.q).num ≡ x.p) is.lowest (whole_num x.p x.q) in
    let den : 1 * (lowest x.p x.q).den ≡ x.q = subst (λ g. g * (lowest x.p x.q).den ≡ x.q) is.lowest (whole_den x.p x.q) in
    let n : (lowest x.p x.q).num ≡ x.p = omega arith in
    let d : (lowest x.p x.q).den ≡ x.q = omega arith in
    rw (n, d)

-- no array reads as no scale
pub scale_none : scale_in None ≡ Ok None
unfolding scale_in
scale_none = refl

-- the array of a scale reads as the scale
pub scale_back : (x : Scale) → IsScale x → scale_in (Some (scale_array x)) ≡ Ok (Some x)
unfolding scale_in
scale_back x is =
    let within : (nat_le 1 x.p && (nat_le x.p x.q && nat_lt x.q (2 ^ 32))) ≡ true = grind (arith, nat_tests, is.some, is.order, is.small) in
    rw (within, lowest-same x is)

-- two numbers that are taken give a valid scale
pub scale_of-IsScale : (z w : ℤ) → IfSome (scale_of z w) IsScale
scale_of-IsScale (negsuc p) w = tt
scale_of-IsScale (pos p) (negsuc q) = tt
scale_of-IsScale (pos p) (pos q) = by (nat_le 1 p && (nat_le p q && nat_lt q (2 ^ 32))) refl
  where
    by : (b : Bool) → (nat_le 1 p && (nat_le p q && nat_lt q (2 ^ 32))) ≡ b → IfSome (cond b (Some (lowest_scale p q)) None) IsScale
    by true within = lowest-IsScale p q (grind (arith, nat_tests, within)) (grind (arith, nat_tests, within)) (grind (arith, nat_tests, within))
    by false within = tt

made : (o : Option Scale) (scale : Option Scale) → IfSome o IsScale → (or_refuse (OutOfRange 0 key.Scale) o >>= λ x. Ok (Some x)) ≡ Ok scale → IfSome scale IsScale
made None scale is h = absurd (cc)
made (Some x) scale is h = let same : Some x ≡ scale = cc in subst (λ s. IfSome s IsScale) same is

taken : (o : Option (ℤ × ℤ)) (scale : Option Scale)
    → (or_refuse (WrongKind 0 key.Scale) o >>= λ numbers. (or_refuse (OutOfRange 0 key.Scale) (scale_of numbers.0 numbers.1) >>= λ x. Ok (Some x))) ≡ Ok scale
    → IfSome scale IsScale
taken None scale h = absurd (cc)
taken (Some (z, w)) scale h = made (scale_of z w) scale (scale_of-IsScale z w) h

-- the scale that a file says is valid
pub scale_in-IsScale : (d : Option Data) (scale : Option Scale) → scale_in d ≡ Ok scale → IfSome scale IsScale
unfolding scale_in
scale_in-IsScale None scale h = let none : None ≡ scale = cc in subst (λ s. IfSome s IsScale) none tt
scale_in-IsScale (Some d) scale h = taken (numbers_of d) scale h

-- only an array of exactly two whole numbers has two numbers
pub array_of_numbers : (d : Data) (ds : Items) → as_array d ≡ Some ds → numbers_of d ≡ numbers_of (array ds)
array_of_numbers (array es) ds h = let same : es ≡ ds = cc in ap (λ xs. numbers_of (array xs)) same
array_of_numbers (string s) ds h = absurd (cc)
array_of_numbers (integer z) ds h = absurd (cc)
array_of_numbers (float x) ds h = absurd (cc)
array_of_numbers (boolean b) ds h = absurd (cc)
array_of_numbers (datetime t) ds h = absurd (cc)
array_of_numbers (table ms) ds h = absurd (cc)

-- an array of fewer or more than two values does not have two numbers
one : (d : Data) → numbers_of (array (item d no_items)) ≡ None
one (integer z) = refl
one (string s) = refl
one (float x) = refl
one (boolean b) = refl
one (datetime t) = refl
one (array ds) = refl
one (table ms) = refl

more : (z : ℤ) (e f : Data) (ds : Items) → numbers_of (array (item (integer z) (item e (item f ds)))) ≡ None
more z (integer w) f ds = refl
more z (string s) f ds = refl
more z (float x) f ds = refl
more z (boolean b) f ds = refl
more z (datetime t) f ds = refl
more z (array es) f ds = refl
more z (table ms) f ds = refl

three : (d e f : Data) (ds : Items) → numbers_of (array (item d (item e (item f ds)))) ≡ None
three (integer z) e f ds = more z e f ds
three (string s) e f ds = refl
three (float x) e f ds = refl
three (boolean b) e f ds = refl
three (datetime t) e f ds = refl
three (array es) e f ds = refl
three (table ms) e f ds = refl

pub few_numbers : (vs : List Value) → length vs < 2 → None ≡ numbers_of (array (items_view vs))
few_numbers [] few = refl
few_numbers (v ∷ []) few = sym (one (view v))
few_numbers (v ∷ w ∷ vs) few = absurd (omega arith)

pub many_numbers : (vs : List Value) → 3 ≤ length vs → None ≡ numbers_of (array (items_view vs))
many_numbers [] many = absurd (omega arith)
many_numbers (v ∷ []) many = absurd (omega arith)
many_numbers (v ∷ w ∷ []) many = absurd (omega arith)
many_numbers (v ∷ w ∷ u ∷ vs) many = sym (three (view v) (view w) (view u) (items_view vs))
