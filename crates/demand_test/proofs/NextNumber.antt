-- The decimal digits of the next number.
use Rattle.std.proofs.Common.{◌≡◌, ℕ, suc, ◌+◌, ◌/◌, ◌%◌, ◌<◌, ◌≤◌, ◌⊎◌, inl, inr, List, [], ◌∷◌, ◌++◌, decimal, length, take, drop, get_or, set, refl, sym, ap, subst, ◌∙◌, append_assoc, arith}
use Rattle.std.proofs.lemmas.Bool.{cases_lt}
use Rattle.std.proofs.lemmas.Fmt.{decimal_digit, decimal_step}
use Rattle.std.proofs.lemmas.List.{append-nil, same_from_push, take_all, drop_all, take_more, length-take-le, length-set, take-set, drop-set, set_split}
use Rattle.demand_test.specs.TickLine.{IsNext}

-- a last digit other than 9 is counted up alone
pub next_digit : (ds : List ℕ) (d : ℕ) → d < 57 → IsNext (ds ++ d ∷ []) (ds ++ (d + 1) ∷ [])
next_digit ds d below n small is = go (cases_lt n 10)
  where
    go : (n < 10) ⊎ (10 ≤ n) → ds ++ (d + 1) ∷ [] ≡ decimal (n + 1)
    go (inl one) =
        let same = same_from_push ds [] d (48 + n) (is ∙ decimal_digit n one) in
        let digit : d ≡ 48 + n = same.1 in
        let short : n + 1 < 10 = omega (arith, below, digit) in
        let next : d + 1 ≡ 48 + (n + 1) = omega (arith, digit) in
        rw (same.0, decimal_digit (n + 1) short, next) refl
    go (inr ten) =
        let same = same_from_push ds (decimal (n / 10)) d (48 + n % 10) (is ∙ decimal_step n ten (omega arith)) in
        let digit : d ≡ 48 + n % 10 = same.1 in
        let front : (n + 1) / 10 ≡ n / 10 = omega (arith, below, digit) in
        let last : d + 1 ≡ 48 + (n + 1) % 10 = omega (arith, below, digit) in
        rw (decimal_step (n + 1) (omega arith) small, front, ← last, same.0) refl

-- if the last digit is a 9, it becomes a 0, and the digits before it are counted up
pub next_nine : (ds more : List ℕ) → 0 < length ds → IsNext ds more → IsNext (ds ++ 57 ∷ []) (more ++ 48 ∷ [])
next_nine ds more some next n small is = go (cases_lt n 10)
  where
    go : (n < 10) ⊎ (10 ≤ n) → more ++ 48 ∷ [] ≡ decimal (n + 1)
    go (inl one) =
        let same = same_from_push ds [] 57 (48 + n) (is ∙ decimal_digit n one) in
        absurd (omega (arith, some, ap length same.0))
    go (inr ten) =
        let same = same_from_push ds (decimal (n / 10)) 57 (48 + n % 10) (is ∙ decimal_step n ten (omega arith)) in
        let digit : 57 ≡ 48 + n % 10 = same.1 in
        let front : (n + 1) / 10 ≡ n / 10 + 1 = omega (arith, digit) in
        let last : (n + 1) % 10 ≡ 0 = omega (arith, digit) in
        rw (decimal_step (n + 1) (omega arith) small, front, last, next (n / 10) (omega arith) same.0) refl

-- from this place on, each digit was a 9 and is a 0; whatever the digits before the place become if they are counted up, is
-- what the whole begins with
pub record Counted (initial digits : List ℕ) (at : ℕ) : Type 0 where
  pub inside : at ≤ length initial
  pub length : length digits ≡ length initial
  pub front : take at digits ≡ take at initial
  pub next : (more : List ℕ) → 0 < at → IsNext (take at initial) more → IsNext initial (more ++ drop at digits)

pub counted_start : (ds : List ℕ) → Counted ds ds (length ds)
counted_start ds = record {
  inside = omega arith;
  length = refl;
  front = refl;
  next = λ more some next. rw (drop_all (length ds) ds (omega arith), append-nil) (subst (λ front. IsNext front more) (take_all (length ds) ds (omega arith)) next);
}

-- the digits before a place, and the one at it, are as they were
same_front : (initial digits : List ℕ) (at : ℕ) → Counted initial digits (at + 1) → (take at digits ≡ take at initial) × (get_or digits at 0 ≡ get_or initial at 0)
same_front initial digits at c =
    let inside = c.inside in
    let long = c.length in
    same_from_push (take at digits) (take at initial) (get_or digits at 0) (get_or initial at 0)
    (sym (take_more digits at 0 (omega (arith, inside, long))) ∙ c.front ∙ take_more initial at 0 (omega (arith, inside)))

-- the digits up to the place, of which d is the last
split_front : (initial digits : List ℕ) (at d : ℕ) → Counted initial digits (at + 1) → d ≡ get_or digits at 0 → take (at + 1) initial ≡ take at initial ++ d ∷ []
split_front initial digits at d c is =
    let inside = c.inside in
    take_more initial at 0 (omega (arith, inside)) ∙ ap (λ (x : ℕ). take at initial ++ x ∷ []) (sym (is ∙ (same_front initial digits at c).1))

-- a 9 becomes a 0
pub counted_nine : (initial digits : List ℕ) (at d : ℕ) → Counted initial digits (at + 1) → d ≡ get_or digits at 0 → d ≡ 57 → Counted initial (set digits at 48) at
counted_nine initial digits at d c is nine =
    let within : at + 1 ≤ length initial = c.inside in
    let long : length digits ≡ length initial = c.length in
    let split : take (at + 1) initial ≡ take at initial ++ 57 ∷ [] = split_front initial digits at d c is ∙ ap (λ (x : ℕ). take at initial ++ x ∷ []) nine in
    let short : length (take at initial) ≡ at = length-take-le at initial (omega (arith, within)) in
    record {
      inside = omega (arith, within);
      length = length-set digits at 48 ∙ long;
      front = take-set digits at 48 ∙ (same_front initial digits at c).0;
      next = λ more some next.
          subst (IsNext initial) (append_assoc more (48 ∷ []) (drop (at + 1) digits) ∙ ap (λ (l : List ℕ). more ++ l) (sym (drop-set digits at 48 (omega (arith, within, long)))))
          (c.next (more ++ 48 ∷ []) (omega arith) (subst (λ (l : List ℕ). IsNext l (more ++ 48 ∷ [])) (sym split) (next_nine (take at initial) more (omega (arith, short, some)) next)));
    }

-- a digit other than 9 is counted up, and the digits before it stay
pub counted_digit : (initial digits : List ℕ) (at d : ℕ) → Counted initial digits (at + 1) → d ≡ get_or digits at 0 → d < 57 → IsNext initial (set digits at (d + 1))
counted_digit initial digits at d c is below =
    let within : at + 1 ≤ length initial = c.inside in
    let long : length digits ≡ length initial = c.length in
    let more : List ℕ = take at initial ++ (d + 1) ∷ [] in
    let whole : more ++ drop (at + 1) digits ≡ set digits at (d + 1) =
    append_assoc (take at initial) ((d + 1) ∷ []) (drop (at + 1) digits) ∙ ap (λ (l : List ℕ). l ++ (d + 1) ∷ drop (at + 1) digits) (sym (same_front initial digits at c).0)
    ∙ sym (split_at digits at (d + 1) (omega (arith, within, long))) in
    subst (IsNext initial) whole (c.next more (omega arith) (subst (λ (l : List ℕ). IsNext l more) (sym (split_front initial digits at d c is)) (next_digit (take at initial) d below)))
  where
    split_at : (l : List ℕ) (i x : ℕ) → i < length l → set l i x ≡ take i l ++ x ∷ drop (i + 1) l
    split_at l i x h = let on : i + 1 ≡ suc i = omega arith in set_split l i x h ∙ ap (λ (n : ℕ). take i l ++ x ∷ drop n l) (sym on)
