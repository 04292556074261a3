-- Upper bounds on the utilisations of generated tasks.
use Rattle.std.proofs.Common.{◌≡◌, ℕ, zero, suc, ◌+◌, ◌*◌, ◌/◌, ◌%◌, ◌≤◌, ◌⊎◌, inl, inr, true, false, cond, List, [], ◌∷◌, map, refl, ap, subst, ◌∙◌, arith}
use Prim.Native.Nat.{◌∣◌}
use Rattle.std.specs.List.{range_with_len, AllByRecursion}
use Rattle.std.proofs.lemmas.Bool.Decides.{eqb_tells}
use Rattle.std.proofs.lemmas.Nat.{le-div}
use Rattle.std.proofs.lemmas.Nat.Gcd.{dvd_trans}
use Rattle.std.proofs.lemmas.List.FromFn.{map-range_with_len_more}
use Rattle.std.proofs.Math.Nat.{mul-div_cancel', mul-le-mul_right, mul-le-mul_left, mul-div-le, mul_assoc, le_of_mul-le-mul_left}
use Rattle.rand_pcg.specs.Lcg.{Lcg}
use Rattle.mc_task.specs.declared.task.Task.{Task}
use Rattle.mc_model.specs.Loads.{product, load, load_ll, load_hl, load_hh, low_low, high_low, high_high, by_level, lcm_from}
use Rattle.mc_model.specs.Sums.{total}
use Rattle.mc_model.proofs.Lists.{Each-map}
use Rattle.mc_model.proofs.Hyperperiod.{periods-dvd, lcm_from-dvd}
use Rattle.set_gen.specs.Words.{word, rest}
use Rattle.set_gen.specs.GeneratedSet.{period, is_odd, high_task, low_task, generated_task, generated_set}
use Rattle.set_gen.proofs.Periods.{period-IsPeriod}
use Rattle.mc_model.proofs.Sums.{total-append}
use Rattle.set_gen.proofs.GeneratedTasks.{by_parity, generated_set-each}
use Rattle.set_gen.proofs.Draws.{words_for, high_tasks, low_tasks}

-- the budget is at most share parts of the period, each part a c-th
abbrev IsShare : (Task → ℕ) → (Task → ℕ) → ℕ → Task → Type 0
IsShare budget share c t = c * budget t ≤ share t * t.period

-- the load is at most as many c-ths of all time as the tasks have shares together
load-share : (budget share : Task → ℕ) (c n : ℕ) (ts : List Task) → AllByRecursion (λ t. t.period ∣ n) ts → AllByRecursion (IsShare budget share c) ts
    → c * load budget n ts ≤ total share ts * n
load-share budget share c n [] divides shares = omega arith
load-share budget share c n (t ∷ ts) divides shares =
    let here : (c * budget t) * (n / t.period) ≤ (share t * t.period) * (n / t.period) = mul-le-mul_right (n / t.period) shares.0 in
    let whole : t.period * (n / t.period) ≡ n = mul-div_cancel' t.period divides.0 in
    let all : (share t * t.period) * (n / t.period) ≡ share t * n = mul_assoc (share t) t.period (n / t.period) ∙ ap (λ z. share t * z) whole in
    omega (arith, load-share budget share c n ts divides.1 shares.1, mul_assoc c (budget t) (n / t.period))

-- the periods divide their product
divide_product : (ts : List Task) → AllByRecursion (λ t. t.period ∣ product ts) ts
divide_product ts =
    let all : lcm_from 1 ts ∣ product ts = subst (λ z. lcm_from 1 ts ∣ z) (omega arith) (lcm_from-dvd 1 ts) in
    Each-map (λ t h. dvd_trans t.period h all) ts (periods-dvd 1 ts)

-- the share of a task: one number for low tasks, another for high ones
abbrev parts : ℕ → ℕ → Task → ℕ
parts low high t = by_level t.level low high

made-parts : (low high : ℕ) (words : Lcg) (n i : ℕ) → parts low high (generated_task words n i) ≡ cond (is_odd i) high low
made-parts low high words n i =
    by_parity (λ t. parts low high t ≡ cond (is_odd i) high low) words n i
    (λ e. unfold high_task in rw e refl)
    (λ e. unfold low_task in rw e refl)

-- with the next number there is one more task of its level
parity : (j : ℕ) → ((is_odd (1 + j) ≡ true) × (high_tasks (suc j) ≡ high_tasks j + 1) × (low_tasks (suc j) ≡ low_tasks j))
    ⊎ ((is_odd (1 + j) ≡ false) × (high_tasks (suc j) ≡ high_tasks j) × (low_tasks (suc j) ≡ low_tasks j + 1))
unfolding is_odd
parity j = elim (eqb_tells ((1 + j) % 2) 1) [ inl t ↦ inl (t.0, omega (arith, t.1), omega (arith, t.1)) | inr t ↦ inr (t.0, omega (arith, t.1), omega (arith, t.1)) ]

-- the shares of the first j tasks
made-total : (low high : ℕ) (words : Lcg) (n j : ℕ) → total (parts low high) (map (λ i. generated_task (words_for words i) n i) (range_with_len 1 j)) ≡ low * low_tasks j + high * high_tasks j
made-total low high words n zero = omega arith
made-total low high words n (suc j) =
    let f : ℕ → Task = λ i. generated_task (words_for words i) n i in
    let e : suc j ≡ j + 1 = omega arith in
    let more : total (parts low high) (map f (range_with_len 1 (suc j))) ≡ total (parts low high) (map f (range_with_len 1 j)) + (parts low high (f (1 + j)) + 0) =
    ap (λ k. total (parts low high) (map f (range_with_len 1 k))) e ∙ ap (total (parts low high)) (map-range_with_len_more f 1 j (1 + j) refl)
    ∙ total-append (parts low high) (map f (range_with_len 1 j)) (f (1 + j) ∷ []) in
    let one : parts low high (f (1 + j)) ≡ cond (is_odd (1 + j)) high low = made-parts low high (words_for words (1 + j)) n (1 + j) in
    let before = made-total low high words n j in
    elim (parity j) [
      | inl p ↦ more ∙ omega (arith, before, rw (p.0) at one, ap (λ z. high * z) (p.1), ap (λ z. low * z) (p.2))
      | inr p ↦ more ∙ omega (arith, before, rw (p.0) at one, ap (λ z. high * z) (p.1), ap (λ z. low * z) (p.2))
    ]

set-total : (low high : ℕ) (words : Lcg) (n : ℕ) → total (parts low high) (generated_set words n) ≡ low * low_tasks n + high * high_tasks n
unfolding generated_set
set-total low high words n = made-total low high words n n

-- the share of one task in each utilisation
low_low-share : (words : Lcg) (n i : ℕ) → IsShare low_low (parts 1 0) (2 * low_tasks n) (generated_task words n i)
low_low-share words n i =
    by_parity (IsShare low_low (parts 1 0) (2 * low_tasks n)) words n i
    (λ e. unfold high_task in omega arith)
    (λ e. unfold low_task in omega (arith, mul-div-le (period (word words)) (2 * low_tasks n)))

quarter : (p k w : ℕ) → 200 ≤ p → 1 ≤ k → k ≤ 16 → (4 * k) * (1 + w % (p / (4 * k))) ≤ 1 * p
quarter p k w least some few =
    let share : 3 ≤ p / (4 * k) = le-div 3 p (4 * k) (omega arith) (omega arith) in
    let budget : 1 + w % (p / (4 * k)) ≤ p / (4 * k) = omega arith in
    let most : (4 * k) * (1 + w % (p / (4 * k))) ≤ (4 * k) * (p / (4 * k)) = mul-le-mul_left (4 * k) budget in
    omega (arith, most, mul-div-le p (4 * k))

high_low-share : (words : Lcg) (n i : ℕ) → 2 ≤ n → n ≤ 32 → IsShare high_low (parts 0 1) (4 * high_tasks n) (generated_task words n i)
high_low-share words n i some few =
    by_parity (IsShare high_low (parts 0 1) (4 * high_tasks n)) words n i
    (λ e. unfold high_task in quarter (period (word words)) (high_tasks n) (word (rest words)) (period-IsPeriod (word words)).least (omega arith) (omega arith))
    (λ e. unfold low_task in omega arith)

high_high-share : (words : Lcg) (n i : ℕ) → IsShare high_high (parts 0 3) (4 * high_tasks n) (generated_task words n i)
high_high-share words n i =
    by_parity (IsShare high_high (parts 0 3) (4 * high_tasks n)) words n i
    (λ e. unfold high_task in mul-div-le (3 * period (word words)) (4 * high_tasks n))
    (λ e. unfold low_task in omega arith)

-- the utilisation of tasks that each ask for at most their shares, each share an (a * k)-th of the period, if
-- there are b * k shares
utilisation : (budget share : Task → ℕ) (words : Lcg) (n a b k : ℕ) → 1 ≤ k → total share (generated_set words n) ≡ b * k
    → ((i : ℕ) → IsShare budget share (a * k) (generated_task (words_for words i) n i))
    → a * load budget (product (generated_set words n)) (generated_set words n) ≤ b * product (generated_set words n)
utilisation budget share words n a b k some parts_of each =
    let set : List Task = generated_set words n in
    let shares = load-share budget share (a * k) (product set) set (divide_product set) (generated_set-each (IsShare budget share (a * k)) words n (λ i first last. each i)) in
    let apart : k * (a * load budget (product set) set) ≤ k * (b * product set) = omega (arith, rw parts_of at shares) in
    le_of_mul-le-mul_left apart some

-- the three utilisations of a generated set
pub made-low_low : (words : Lcg) (n : ℕ) → 2 ≤ n → n ≤ 32 → 2 * load_ll (generated_set words n) ≤ product (generated_set words n)
made-low_low words n some few =
    let each = λ (i : ℕ). low_low-share (words_for words i) n i in
    omega (arith, utilisation low_low (parts 1 0) words n 2 1 (low_tasks n) (omega arith) (set-total 1 0 words n ∙ omega arith) each)

pub made-high_low : (words : Lcg) (n : ℕ) → 2 ≤ n → n ≤ 32 → 4 * load_hl (generated_set words n) ≤ product (generated_set words n)
made-high_low words n some few =
    let each = λ (i : ℕ). high_low-share (words_for words i) n i some few in
    omega (arith, utilisation high_low (parts 0 1) words n 4 1 (high_tasks n) (omega arith) (set-total 0 1 words n ∙ omega arith) each)

pub made-high_high : (words : Lcg) (n : ℕ) → 2 ≤ n → n ≤ 32 → 4 * load_hh (generated_set words n) ≤ 3 * product (generated_set words n)
made-high_high words n some few =
    let each = λ (i : ℕ). high_high-share (words_for words i) n i in
    utilisation high_high (parts 0 3) words n 4 3 (high_tasks n) (omega arith) (set-total 0 3 words n ∙ omega arith) each
