-- Fractions in lowest terms, and the text of a fraction.
use Rattle.std.specs.Prelude.{◌≡◌, ℕ, ◌/◌, ◌<◌, List, ◌++◌, codes, decimal}
use Rattle.tick_frac.specs.Numbers.{gcd}

-- a numerator and a denominator
pub record Fraction : Type 0 where
  pub num : ℕ
  pub den : ℕ

-- num/den in lowest terms
unfoldable pub lowest : ℕ → ℕ → Fraction
lowest num den = record { num = num / gcd num den; den = den / gcd num den }

-- a fraction in lowest terms: its denominator is above 0, and only 1 divides both numbers
pub record IsLowest (f : Fraction) : Type 0 where
  pub den : 0 < f.den
  pub coprime : gcd f.num f.den ≡ 1

-- the text of a fraction: `num/den`
abbrev pub fraction_text : Fraction → List ℕ
fraction_text f = decimal f.num ++ (codes "/" ++ decimal f.den)
