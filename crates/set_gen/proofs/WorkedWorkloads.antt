-- The definitions, computed at values from outside: the first words of PCG's reference program for the state
-- 42 and the stream 54, and workloads from an independent program, written from the description alone.
use Rattle.std.proofs.Common.{◌≡◌, ℕ, [], ◌∷◌, codes, refl}
use Rattle.std.specs.Fmt.{digits}
use Rattle.mc_task.specs.declared.task.Level.TheVariants.{Low, High}
use Rattle.mc_model.specs.declared.work.WorkRow.{WorkRow}
use Rattle.set_gen.specs.Words.{words_of, word, rest, after}
use Rattle.set_gen.specs.GeneratedSet.{periods, period, is_odd, task_name, high_task, low_task, generated_task, words_taken, generated_gap, generated_set, generated_gaps}
use Rattle.set_gen.specs.GeneratedWork.{is_released, need_in, job_row, generated_work}

reference_words : (word (words_of 42) ≡ 0xa15c02b7) × (word (after 1 (words_of 42)) ≡ 0x7b47f409) × (word (after 2 (words_of 42)) ≡ 0xba1d3330)
unfolding word rest
reference_words = (refl, refl, refl)

two_tasks : generated_set (words_of 1) 2
    ≡ record { name = codes "t1"; level = High; period = 250; low = 23; high = 187 } ∷ record { name = codes "t2"; level = Low; period = 2500; low = 1250; high = 1250 } ∷ []
unfolding digits word rest periods period is_odd task_name high_task low_task generated_task words_taken generated_set
two_tasks = refl

their_gaps : generated_gaps (words_of 1) 2 ≡ 265 ∷ 2502 ∷ []
unfolding word rest periods period is_odd words_taken generated_gap generated_gaps
their_gaps = refl

abbrev job : ℕ → ℕ → ℕ → WorkRow
job k release need = record { task = record { 0 = k }; release = release; need = need }

their_jobs : generated_work (words_of 1) 2 300 ≡ job 1 0 5 ∷ job 2 0 257 ∷ job 1 265 18 ∷ []
unfolding word rest periods period is_odd task_name high_task low_task generated_task words_taken generated_gap generated_set generated_gaps is_released need_in job_row generated_work
their_jobs = refl

-- the last job of this workload needs its high budget
a_rare_need : generated_work (words_of 2) 3 430
    ≡ job 1 0 12 ∷ job 2 0 712 ∷ job 3 0 22 ∷ job 1 204 17 ∷ job 3 213 17 ∷ job 1 408 8 ∷ job 3 426 75 ∷ []
unfolding word rest periods period is_odd task_name high_task low_task generated_task words_taken generated_gap generated_set generated_gaps is_released need_in job_row generated_work
a_rare_need = refl
