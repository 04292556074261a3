-- The fields of a record that are given words, column by column.
use Rattle.std.proofs.Common.{◌≡◌, ℕ, suc, Bool, true, false, ◌&&◌, ◌==◌, List, [], ◌∷◌, length, unwrap_or, refl, sym, ap, ◌∙◌, arith}
use lib.Pointwise.{pointwise}
use Rattle.std.specs.Str.{bytes_eq}
use Rattle.std.proofs.lemmas.Bool.Decides.{nat_tests}
use Rattle.csv.specs.Records.{field_at}

-- from column i on, the fields are these words
abbrev pub are_at : ℕ → List (List ℕ) → List (List ℕ) → Bool
are_at i fields [] = true
are_at i fields (w ∷ ws) = bytes_eq (unwrap_or (field_at fields i) []) w && are_at (suc i) fields ws

later : (i : ℕ) (f : List ℕ) (fields words : List (List ℕ)) → are_at (suc i) (f ∷ fields) words ≡ are_at i fields words
unfolding field_at
later i f fields [] = refl
later i f fields (w ∷ ws) = ap (λ b. bytes_eq (unwrap_or (field_at fields i) []) w && b) (later (suc i) f fields ws)

swap : (a b c : Bool) → (a && (b && c)) ≡ (b && (a && c))
swap true b c = refl
swap false true c = refl
swap false false c = refl

both : (m n : ℕ) → (suc m == suc n) ≡ (m == n)
both m n = grind (arith, nat_tests)

no_words : (n : ℕ) (b : Bool) → false ≡ ((suc n == 0) && b)
no_words n b = grind (arith, nat_tests)

no_fields : (n : ℕ) (b : Bool) → false ≡ ((0 == suc n) && b)
no_fields n b = grind (arith, nat_tests)

-- the fields are these words if there are as many of them, and each is the word of its column
pub words_by_column : (fields words : List (List ℕ)) → pointwise bytes_eq fields words ≡ (length fields == length words && are_at 0 fields words)
unfolding field_at
words_by_column [] [] = refl
words_by_column [] (w ∷ ws) = no_fields (length ws) _
words_by_column (f ∷ fs) [] = no_words (length fs) _
words_by_column (f ∷ fs) (w ∷ ws) =
    ap (λ b. bytes_eq f w && b) (words_by_column fs ws)
    ∙ (swap (bytes_eq f w) (length fs == length ws) (are_at 0 fs ws)
    ∙ (ap (λ b. (length fs == length ws) && (bytes_eq f w && b)) (sym (later 0 f fs ws))
    ∙ ap (λ b. b && (bytes_eq f w && are_at 1 (f ∷ fs) ws)) (sym (both (length fs) (length ws)))))

more : (b c : Bool) (m n : ℕ) → (b && c) ≡ true → (c ≡ true → m ≡ n) → suc m ≡ suc n
more true c m n h same = ap suc (same h)
more false c m n h same = absurd (cc)

-- fields that are these words have the number of the words
pub words_length : (fields words : List (List ℕ)) → pointwise bytes_eq fields words ≡ true → length fields ≡ length words
words_length [] [] h = refl
words_length [] (w ∷ ws) h = absurd (cc)
words_length (f ∷ fs) [] h = absurd (cc)
words_length (f ∷ fs) (w ∷ ws) h = more (bytes_eq f w) (pointwise bytes_eq fs ws) (length fs) (length ws) h (words_length fs ws)
