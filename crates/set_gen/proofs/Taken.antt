-- The generated work is a list of work for its set.
use Rattle.std.proofs.Common.{◌≡◌, ℕ, ◌-◌, List, length, arith}
use Rattle.rand_pcg.specs.Lcg.{Lcg}
use Rattle.mc_task.specs.declared.task.Task.{Task}
use Rattle.mc_model.specs.declared.work.WorkRow.{WorkRow}
use Rattle.set_gen.specs.Words.{after}
use Rattle.set_gen.specs.GeneratedSet.{generated_set, generated_gaps, words_before}
use Rattle.set_gen.specs.GeneratedWork.{releases_below, generated_work, job_rows}
use Rattle.set_gen.specs.Laws.{GeneratedWorkIsTaken}
use Rattle.set_gen.proofs.GeneratedTasks.{generated_set-AreTasks}
use Rattle.set_gen.proofs.Plans.{plan_below}
use Rattle.set_gen.proofs.Gaps.{generated_gaps-length, generated_gaps-bounded, generated_gaps-AreFar}
use Rattle.set_gen.proofs.JobRows.{job_rows-length, job_rows-IsWork}
use Rattle.set_gen.proofs.ReleaseCount.{few_releases}

-- law: the work of a generated set is a list of work for it
pub generated_work-taken : GeneratedWorkIsTaken
unfolding generated_work
generated_work-taken words n ticks some few most =
    let count : length (generated_gaps words n) ≡ n = generated_gaps-length words n in
    let left : Lcg = after (words_before n) words in
    let plan = releases_below (generated_gaps words n) ticks in
    record {
      work = job_rows-IsWork left (generated_set words n) plan (generated_set-AreTasks words n some few).each (plan_below (generated_set words n) (generated_gaps words n) ticks (generated_gaps-AreFar words n));
      few =
          let all = few_releases (generated_gaps words n) ticks (λ i first last. (generated_gaps-bounded words n (i - 1) (omega arith)).least) (omega arith) most in
          omega (arith, all, job_rows-length left (generated_set words n) plan);
    }

-- the jobs of the generated set, made with the words that the set leaves, are the work
pub generated_work-rows : (words left : Lcg) (n ticks : ℕ) (set : List Task) (gaps : List ℕ) (rows : List WorkRow)
    → set ≡ generated_set words n → gaps ≡ generated_gaps words n → left ≡ after (words_before n) words → rows ≡ job_rows left set (releases_below gaps ticks) → rows ≡ generated_work words n ticks
unfolding generated_work
generated_work-rows words left n ticks set gaps rows same_set same_gaps same_words h = rw (← same_set, ← same_gaps, ← same_words) h
