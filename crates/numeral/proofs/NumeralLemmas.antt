-- The values of digits, and decimal texts.
use Rattle.std.proofs.Common.{◌≡◌, ℕ, ◌+◌, ◌-◌, ◌*◌, ◌^◌, ◌<◌, ◌≤◌, Bool, true, ◌&&◌, nat_le, nat_lt, cond, List, ◌∷◌, length, Some, None, sym, ap, ◌∙◌, arith, rules, decimal}
use Rattle.std.specs.List.{list_all}
use Rattle.std.proofs.lemmas.Bool.Decides.{nat_tests}
use Rattle.std.proofs.lemmas.Grind.{pow_more}
use Rattle.std.proofs.lemmas.Fmt.{digits_decimal, digits_value-decimal, decimal_nonempty, length-decimal-le}
use Rattle.std.proofs.lemmas.Str.Parse.{IsNumeralModel, numerals_by_weight}
use Rattle.numeral.specs.Numeral.{is_digit, is_numeral, value, numeral, number}

spread : (v e p r n : ℕ) → v * (p * 10) + (e * p + r) ≡ n → (v * 10 + e) * p + r ≡ n
spread v e p r n h = omega arith

-- after k digits with the value v and one more digit d: with the rest ds the value is n, and `all` says
-- whether ds are all digits
pub record Taken (v d : ℕ) (ds : List ℕ) (k n : ℕ) (all : Bool) : Type 0 where
  pub below : v * 10 + (d - 48) < 10 ^ (k + 1)
  pub digits : list_all is_digit ds ≡ all
  pub value : (v * 10 + (d - 48)) * 10 ^ length ds + value ds ≡ n

pub taken : (v d : ℕ) (ds : List ℕ) (k n : ℕ) (all : Bool) → v < 10 ^ k → is_digit d ≡ true → list_all is_digit (d ∷ ds) ≡ all → v * 10 ^ length (d ∷ ds) + value (d ∷ ds) ≡ n → Taken v d ds k n all
taken v d ds k n all below digit digits same =
    let one : length (d ∷ ds) ≡ length ds + 1 = omega arith in
    let more : 10 ^ length (d ∷ ds) ≡ 10 ^ length ds * 10 = ap (λ (k : ℕ). 10 ^ k) one ∙ pow_more 10 (length ds) in
    let small : d ≤ 57 = grind (arith, nat_tests, digit) in
    record {
      below = omega (arith, pow_more 10 k);
      digits = ap (λ (b : Bool). b && list_all is_digit ds) (sym digit) ∙ digits;
      value = spread v (d - 48) (10 ^ length ds) (value ds) n (ap (λ (x : ℕ). v * x + ((d - 48) * 10 ^ length ds + value ds)) (sym more) ∙ same);
    }

own : IsNumeralModel (λ ds. list_all is_digit ds ≡ true) value
own = numerals_by_weight _ (search rules) value (search rules)

-- the decimal text of a number consists of digits
pub digits-decimal : (n : ℕ) → n < 2 ^ 64 → list_all is_digit (decimal n) ≡ true
digits-decimal n h = digits_decimal own n h

-- the decimal text of a number is read as the number
pub number-decimal : (n : ℕ) → n < 2 ^ 32 → number (decimal n) ≡ Some n
unfolding number numeral
number-decimal n h =
    let wide : n < 2 ^ 64 = omega arith in
    let digits : list_all is_digit (decimal n) ≡ true = digits_decimal own n wide in
    let same : value (decimal n) ≡ n = digits_value-decimal own n wide in
    let some : 0 < length (decimal n) = decimal_nonempty n wide in
    let few : length (decimal n) ≤ 10 = length-decimal-le 10 n (omega arith) (omega arith) wide in
    let form : is_numeral 10 (decimal n) ≡ true = has_form (length (decimal n)) (list_all is_digit (decimal n)) some few digits in
    rw (form, same) (fits n h)
  where
    has_form : (k : ℕ) (b : Bool) → 0 < k → k ≤ 10 → b ≡ true → ((nat_le 1 k && nat_le k 10) && b) ≡ true
    has_form k b x y z = grind (arith, nat_tests)

    fits : (n : ℕ) → n < 2 ^ 32 → cond (nat_lt n (2 ^ 32)) (Some n) None ≡ Some n
    fits n h = grind (arith, nat_tests)
