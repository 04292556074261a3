-- The tasks of a generated set, one by one.
use Rattle.std.proofs.Common.{◌≡◌, ℕ, ◌+◌, ◌-◌, ◌*◌, ◌/◌, ◌<◌, ◌≤◌, sym, ap, ◌∙◌, arith, List, [], ◌∷◌, ◌++◌, drop, length, slice_get, Some}
use Rattle.std.specs.List.{AllByRecursion}
use Rattle.std.proofs.Math.Nat.{mul-le-mul_left, mul-le-mul_right, div-mul-le_self}
use Rattle.std.proofs.lemmas.List.{drop_all}
use Rattle.rand_pcg.specs.Lcg.{Lcg}
use Rattle.mc_task.specs.declared.task.Task.{Task}
use Rattle.mc_task.specs.declared.task.Level.TheVariants.{Low, High as HighLevel}
use Rattle.mc_task.specs.TaskSet.{IsTask}
use Rattle.mc_model.specs.Loads.{load, low_low, high_low, by_level}
use Rattle.mc_model.specs.Sums.{total}
use Rattle.mc_model.proofs.Sums.{total-append}
use Rattle.mc_model.proofs.Lists.{Each-append}
use Rattle.mc_model.proofs.Walk.{load_more}
use Rattle.set_gen.specs.Words.{after}
use Rattle.set_gen.specs.GeneratedSet.{generated_task, generated_set, words_before}
use Rattle.set_gen.proofs.Draws.{words_for}
use Rattle.set_gen.specs.GeneratedNumbers.{AreOf}
use Rattle.set_gen.specs.declared.tasks.Numbers.{Numbers}
use Rattle.mc_model.proofs.Ranges.{slice_get-map-range}
use Rattle.study.specs.declared.levels.High.{High}
use Rattle.study.specs.Stretch.{percent}
use Rattle.study.specs.Loads.{budget_at}
use Rattle.study.specs.Levels.{asks_at, IsSmall}

-- the task generated from the words that are left
pub made-here : (words left : Lcg) (n i : ℕ) → i < n → left ≡ after (words_before i) words → slice_get (generated_set words n) i ≡ Some (generated_task left n (i + 1))
unfolding generated_set
made-here words left n i lt is =
    let place : 1 + i ≡ i + 1 = omega arith in
    let before : (i + 1) - 1 ≡ i = omega arith in
    slice_get-map-range (λ j. generated_task (words_for words j) n j) 1 n i lt ∙ ap (λ j. Some (generated_task (words_for words j) n j)) place
    ∙ ap (λ j. Some (generated_task (after (words_before j) words) n (i + 1))) before ∙ ap (λ w. Some (generated_task w n (i + 1))) (sym is)

-- the sum so far with the task at an index, and the load of the tasks after it, are the load of all
pub load-step : (budget : Task → ℕ) (n : ℕ) (ts : List Task) (i : ℕ) (t : Task) (done all new b p : ℕ) → slice_get ts i ≡ Some t → done + load budget n (drop i ts) ≡ all
    → budget t ≡ b → p ≡ t.period → new ≡ done + b * (n / p) → new + load budget n (drop (i + 1) ts) ≡ all
load-step budget n ts i t done all new b p at inv asks period is =
    ap (λ z. z + load budget n (drop (i + 1) ts)) (is ∙ ap (λ x. done + x * (n / p)) (sym asks) ∙ ap (λ q. done + budget t * (n / q)) period) ∙ load_more budget n ts i t done all at inv

pub load-end : (budget : Task → ℕ) (n : ℕ) (ts : List Task) (i done all : ℕ) → length ts ≤ i → done + load budget n (drop i ts) ≡ all → done ≡ all
load-end budget n ts i done all past inv =
    omega (arith, ap (λ xs. load budget n xs) (drop_all i ts past), inv)

-- the numbers of a low task
pub low-low : (t : Task) (d : Numbers) → AreOf t d → d.level ≡ Low → low_low t ≡ d.low
low-low t d of is = ap (λ x. by_level x t.low 0) (sym of.level ∙ is) ∙ sym of.low

pub low-high : (t : Task) (d : Numbers) → AreOf t d → d.level ≡ Low → high_low t ≡ 0
low-high t d of is = ap (λ x. by_level x 0 t.low) (sym of.level ∙ is)

pub low-budget : (s : ℕ) (t : Task) (d : Numbers) → AreOf t d → d.level ≡ Low → budget_at s t ≡ 0
low-budget s t d of is = ap (λ x. by_level x 0 (by_level x t.high (percent t.low t.high s))) (sym of.level ∙ is)

-- the numbers of a high task
pub high-low : (t : Task) (d : Numbers) → AreOf t d → d.level ≡ HighLevel → low_low t ≡ 0
high-low t d of is = ap (λ x. by_level x t.low 0) (sym of.level ∙ is)

pub high-high : (t : Task) (d : Numbers) → AreOf t d → d.level ≡ HighLevel → high_low t ≡ d.low
high-high t d of is = ap (λ x. by_level x 0 t.low) (sym of.level ∙ is) ∙ sym of.low

-- at 100 percent or more, a small high budget is neither below the low one nor past the limit
percent-plain : (low high s : ℕ) → low ≤ high → high ≤ 30000 → 100 ≤ s → s ≤ 200 → percent low high s ≡ high * s / 100
percent-plain low high s order small least most =
    omega (arith, mul-le-mul_left high least, mul-le-mul_left high most, order, small)

pub high-budget : (s : ℕ) (t : Task) (d : Numbers) → IsTask t → AreOf t d → d.level ≡ HighLevel → d.high ≤ 30000 → 100 ≤ s → s ≤ 200 → budget_at s t ≡ d.high * s / 100
high-budget s t d task of is small least most =
    let level : t.level ≡ HighLevel = sym of.level ∙ is in
    let order : t.low ≤ t.high = rw level at task.budgets in
    ap (λ x. by_level x 0 (by_level x t.high (percent t.low t.high s))) level ∙ percent-plain t.low t.high s order (omega (arith, of.high, small)) least most
    ∙ ap (λ h. h * s / 100) (sym of.high)

-- one more high task adds what it asks for to what the high tasks ask for
pub asks-more : (s : ℕ) (old new : List High) (h : High) → new ≡ old ++ h ∷ [] → total (asks_at s) new ≡ total (asks_at s) old + asks_at s h
asks-more s old new h is =
    omega (arith, ap (total (asks_at s)) is, total-append (asks_at s) old (h ∷ []))

pub small-more : (old new : List High) (h : High) → new ≡ old ++ h ∷ [] → AllByRecursion IsSmall old → IsSmall h → AllByRecursion IsSmall new
small-more old new h is each one = rw is (Each-append IsSmall old (h ∷ []) each (one, tt))

-- the span has at most 100 jobs of a generated task
pub jobs-few : (p : ℕ) → 200 ≤ p → 20000 / p ≤ 100
jobs-few p least = omega (arith, div-mul-le_self 20000 p, mul-le-mul_left (20000 / p) least)

pub ask-small : (low jobs : ℕ) → low ≤ 10000 → jobs ≤ 100 → low * jobs ≤ 1000000
ask-small low jobs a b = omega (arith, mul-le-mul_right jobs a, b)
