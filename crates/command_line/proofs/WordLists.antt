-- The words of a slice, and words that are too few or too many.
use Rattle.std.proofs.Common.{◌≡◌, ℕ, zero, suc, ◌+◌, ◌<◌, List, [], ◌∷◌, length, map, Bor, true, false, slice_index_or, nat_lt, None, refl, sym, ap, true≢false, arith}
use Rattle.std.proofs.lemmas.Bool.Decides.{nat_tests}
use Rattle.command_line.specs.Form.{form_in}

abbrev Words : Type 0
Words = List (Bor (List ℕ))

abbrev tail : Words → Words
tail [] = []
tail (w ∷ ws) = ws

-- the first n words, each as a pattern reads it
abbrev firsts : ℕ → Words → List (List ℕ)
firsts zero words = []
firsts (suc n) words = (slice_index_or words 0 (record { ref_ptr = (0, 0); now = [] })).now ∷ firsts n (tail words)

counted : (words : Words) (n : ℕ) → length words ≡ n → map (λ w. w.now) words ≡ firsts n words
counted [] zero is = refl
counted [] (suc n) is = absurd (omega (arith, is))
counted (w ∷ ws) zero is = absurd (omega (arith, is))
counted (w ∷ ws) (suc n) is = ap (λ rest. w.now ∷ rest) (counted ws n (omega (arith, is)))

-- n words are the first n
pub all_of : (words : Words) (n : ℕ) → nat_lt (length words) n ≡ false → nat_lt (length words) (n + 1) ≡ true → map (λ w. w.now) words ≡ firsts n words
all_of words n least most = counted words n (grind (arith, nat_tests, least, most))

-- fewer than two words, or more than five, are no form
pub none_of_few : (words : Words) → nat_lt (length words) 2 ≡ true → None ≡ form_in words
none_of_few [] few = refl
none_of_few (a ∷ []) few = refl
none_of_few (a ∷ b ∷ rest) few = absurd (grind (arith, nat_tests, few))

pub none_of_many : (words : Words) → nat_lt (length words) 6 ≡ false → None ≡ form_in words
none_of_many (a ∷ b ∷ c ∷ d ∷ e ∷ f ∷ rest) many = refl
none_of_many words many = absurd (true≢false many)

pub none_of_long : (words : Words) → 5 < length words → form_in words ≡ None
none_of_long words long = sym (none_of_many words (grind (arith, nat_tests, long)))
