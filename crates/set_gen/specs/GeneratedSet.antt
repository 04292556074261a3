-- The set of n tasks that words generate. Odd task numbers are high tasks and even ones low tasks, so that
-- U_HL is at most 1/4, U_LL at most 1/2 and U_HH at most 3/4.
use Rattle.std.specs.Prelude.{ℕ, zero, suc, ◌+◌, ◌-◌, ◌*◌, ◌/◌, ◌%◌, ◌==◌, Bool, if◌then◌else◌, List, [], ◌∷◌, ◌++◌, map, slice_index, codes, decimal}
use Rattle.std.specs.List.{range_with_len}
use Rattle.rand_pcg.specs.Lcg.{Lcg}
use Rattle.mc_task.specs.declared.task.Task.{Task}
use Rattle.mc_task.specs.declared.task.Level.TheVariants.{Low, High}
use Rattle.set_gen.specs.Words.{word, rest, after}

-- the periods, in ticks, with indices from 0; their least common multiple is 20000
unfoldable pub periods : List ℕ
periods = 200 ∷ 250 ∷ 400 ∷ 500 ∷ 800 ∷ 1000 ∷ 1250 ∷ 2000 ∷ 2500 ∷ 4000 ∷ 5000 ∷ 10000 ∷ []

-- the period that a word picks
unfoldable pub period : ℕ → ℕ
period w = slice_index periods (w % 12)

-- whether the number is odd: the tasks with odd numbers are high
unfoldable pub is_odd : ℕ → Bool
is_odd i = i % 2 == 1

-- the name of task number i: `t` and the number
unfoldable pub task_name : ℕ → List ℕ
task_name i = codes "t" ++ decimal i

-- one of k high tasks with this name and period p: its low budget is 1 to p / 4k, by the word w; its high
-- budget is 3p / 4k; both quotients are rounded down
unfoldable pub high_task : List ℕ → ℕ → ℕ → ℕ → Task
high_task name p k w =
    record { name = name; level = High; period = p; low = 1 + w % (p / (4 * k)); high = (3 * p) / (4 * k) }

-- one of m low tasks with this name and period p: its budget is p / 2m, rounded down
unfoldable pub low_task : List ℕ → ℕ → ℕ → Task
low_task name p m = record { name = name; level = Low; period = p; low = p / (2 * m); high = p / (2 * m) }

-- task number i of n, generated from the words that are left: the first word is for its period, the next for
-- the low budget of a high task. Half of the tasks, rounded up, are high
unfoldable pub generated_task : Lcg → ℕ → ℕ → Task
generated_task words n i =
    if is_odd i then high_task (task_name i) (period (word words)) ((n + 1) / 2) (word (rest words))
    else low_task (task_name i) (period (word words)) (n / 2)

-- how many words task number i takes; the last of them is for the gap between its releases
unfoldable pub words_taken : ℕ → ℕ
words_taken i = if is_odd i then 3 else 2

-- the gap between the releases of task number i, from the words that are left: its period and 0 to 15 ticks
-- more
unfoldable pub generated_gap : Lcg → ℕ → ℕ
generated_gap words i = period (word words) + word (after (words_taken i - 1) words) % 16

-- how many words the first n tasks take
abbrev pub words_before : ℕ → ℕ
words_before zero = 0
words_before (suc i) = words_before i + words_taken (i + 1)

-- the set of n tasks that the words generate, each from the words that the tasks before it leave
unfoldable pub generated_set : Lcg → ℕ → List Task
generated_set words n =
    map (λ i. generated_task (after (words_before (i - 1)) words) n i) (range_with_len 1 n)

-- the gaps between the releases of the n tasks, in ticks
unfoldable pub generated_gaps : Lcg → ℕ → List ℕ
generated_gaps words n = map (λ i. generated_gap (after (words_before (i - 1)) words) i) (range_with_len 1 n)
