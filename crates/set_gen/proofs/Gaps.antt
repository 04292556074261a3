-- The gaps between the releases of generated tasks.
use Rattle.std.proofs.Common.{◌≡◌, ℕ, ◌+◌, ◌-◌, ◌<◌, ◌≤◌, length, slice_index, refl, sym, ◌∙◌, arith}
use Rattle.std.proofs.lemmas.List.FromFn.{length-map-range_with_len, get_or-map-range_with_len}
use Rattle.rand_pcg.specs.Lcg.{Lcg}
use Rattle.mc_task.specs.TaskSet.{task_at}
use Rattle.mc_model.specs.TaskNumbers.{period_in}
use Rattle.set_gen.specs.Words.{word}
use Rattle.set_gen.specs.GeneratedSet.{period, generated_gap, generated_set, generated_gaps}
use Rattle.set_gen.specs.NextReleases.{AreGaps}
use Rattle.set_gen.proofs.Draws.{words_for}
use Rattle.set_gen.proofs.Periods.{period-IsPeriod}
use Rattle.set_gen.proofs.GeneratedTasks.{generated_task-period, generated_set-length, generated_set-at}
use Rattle.set_gen.proofs.Plans.{AreFar}

-- a gap is the period and up to 15 ticks more
record IsGap (gap period : ℕ) : Type 0 where
  pub least : period ≤ gap
  pub most : gap ≤ period + 15

generated_gap-IsGap : (words : Lcg) (i : ℕ) → IsGap (generated_gap words i) (period (word words))
unfolding generated_gap
generated_gap-IsGap words i = record { least = omega arith; most = omega arith }

pub generated_gaps-length : (words : Lcg) (n : ℕ) → length (generated_gaps words n) ≡ n
unfolding generated_gaps
generated_gaps-length words n = length-map-range_with_len (λ i. generated_gap (words_for words i) i) 1 n

generated_gaps-at : (words : Lcg) (n k i : ℕ) → k < n → 1 + k ≡ i → slice_index (generated_gaps words n) k ≡ generated_gap (words_for words i) i
unfolding generated_gaps
generated_gaps-at words n k i few e = get_or-map-range_with_len (λ j. generated_gap (words_for words j) j) 1 n k i 0 few e

-- each gap is 200 to 10015 ticks
pub record IsBounded (gap : ℕ) : Type 0 where
  pub least : 200 ≤ gap
  pub most : gap ≤ 10015

pub generated_gaps-bounded : (words : Lcg) (n k : ℕ) → k < n → IsBounded (slice_index (generated_gaps words n) k)
generated_gaps-bounded words n k few =
    let is = generated_gap-IsGap (words_for words (1 + k)) (1 + k) in
    let p = period-IsPeriod (word (words_for words (1 + k))) in
    rw (generated_gaps-at words n k (1 + k) few refl) (record { least = omega (arith, is.least, p.least); most = omega (arith, is.most, p.most) })

pub generated_gaps-AreGaps : (words : Lcg) (n : ℕ) → AreGaps (generated_set words n) (generated_gaps words n)
generated_gaps-AreGaps words n = record {
  count = generated_gaps-length words n ∙ sym (generated_set-length words n);
  each = λ k few.
      let is = generated_gaps-bounded words n k (omega (arith, generated_gaps-length words n)) in
      (omega (arith, is.least), omega (arith, is.most));
}

far : (words : Lcg) (n i : ℕ) → 1 ≤ i → i ≤ n → period_in (task_at (generated_set words n) i) ≤ slice_index (generated_gaps words n) (i - 1)
far words n i first last =
    let least = (generated_gap-IsGap (words_for words i) i).least in
    rw (generated_set-at words n i first last) (omega (arith, least, generated_gaps-at words n (i - 1) i (omega arith) (omega arith), generated_task-period (words_for words i) n i))

pub generated_gaps-AreFar : (words : Lcg) (n : ℕ) → AreFar (generated_set words n) (generated_gaps words n)
generated_gaps-AreFar words n = record {
  count = generated_gaps-length words n ∙ sym (generated_set-length words n);
  some = λ i first last.
      let is = generated_gaps-bounded words n (i - 1) (omega (arith, generated_gaps-length words n)) in
      omega (arith, is.least);
  far = λ i first last. far words n i first (omega (arith, generated_gaps-length words n));
}
