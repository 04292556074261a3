-- Numbers written as decimal digits.
use Rattle.std.specs.Prelude.{ℕ, ◌+◌, ◌-◌, ◌*◌, ◌^◌, Bool, ◌&&◌, nat_le, nat_lt, List, [], ◌∷◌, length, Option, Some, None, option_and_then, if◌then◌else◌}
use Rattle.std.specs.List.{list_all}

-- whether the byte is an ASCII digit
abbrev pub is_digit : ℕ → Bool
is_digit b = nat_le 48 b && nat_le b 57

-- whether the bytes are 1 to n digits
abbrev pub is_numeral : ℕ → List ℕ → Bool
is_numeral most bytes = (nat_le 1 (length bytes) && nat_le (length bytes) most) && list_all is_digit bytes

-- the value of digits, each by the weight of its position
abbrev pub value : List ℕ → ℕ
value [] = 0
value (d ∷ ds) = (d - 48) * 10 ^ length ds + value ds

-- the value of 1 to n digits; none for any other bytes
unfoldable pub numeral : ℕ → List ℕ → Option ℕ
numeral most bytes = if is_numeral most bytes then Some (value bytes) else None

-- the value of 1 to 10 digits, if it is below 2^32
unfoldable pub number : List ℕ → Option ℕ
number bytes = option_and_then (λ n. if nat_lt n (2 ^ 32) then Some n else None) (numeral 10 bytes)
