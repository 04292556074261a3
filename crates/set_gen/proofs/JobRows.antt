-- Releases together with their needs.
use Rattle.std.proofs.Common.{◌≡◌, ℕ, suc, ◌+◌, ◌%◌, ◌≤◌, true, false, ◌&&◌, ◌==◌, cond, List, [], ◌∷◌, ◌++◌, length, Option, None, Some, refl, ap, arith}
use Rattle.rand_pcg.specs.Lcg.{Lcg}
use Rattle.mc_task.specs.declared.task.Task.{Task}
use Rattle.mc_task.specs.TaskSet.{IsTask, task_at}
use Rattle.mc_task.specs.Kinds.{is_high}
use Rattle.mc_model.specs.Follows.{Arrival}
use Rattle.mc_model.specs.Work.{AllFollow, IsWork}
use Rattle.mc_model.proofs.Lists.{Each}
use Rattle.mc_model.proofs.Tasks.{IsKnown, known}
use Rattle.set_gen.specs.Words.{word, rest, after}
use Rattle.set_gen.specs.GeneratedWork.{need_in, job_row, job_rows}
use Rattle.set_gen.proofs.Plans.{Apart, IsPlan}

-- the rows of two joined lists of releases
pub job_rows-append : (words : Lcg) (set : List Task) (xs ys : List Arrival) → job_rows words set (xs ++ ys) ≡ job_rows words set xs ++ job_rows (after (length xs) words) set ys
job_rows-append words set [] ys = refl
job_rows-append words set (x ∷ xs) ys = ap (λ z. job_row set x (word words) ∷ z) (job_rows-append (rest words) set xs ys)

pub job_rows-length : (words : Lcg) (set : List Task) (xs : List Arrival) → length (job_rows words set xs) ≡ length xs
job_rows-length words set [] = refl
job_rows-length words set (x ∷ xs) = ap suc (job_rows-length (rest words) set xs)

need-pos : (o : Option Task) (w : ℕ) → IsKnown o → 1 ≤ need_in o w
unfolding need_in
need-pos None w known = absurd (omega arith)
need-pos (Some t) w known =
    elim (is_high t.level && (w % 64 == 0)) as (λ b. 1 ≤ cond b t.high (1 + w % t.low)) [ true ↦ omega arith | false ↦ omega arith ]

all_follow : (words : Lcg) (set : List Task) (a : Arrival) (w : ℕ) (more : List Arrival) → Each (Apart set a) more → AllFollow set (job_row set a w) (job_rows words set more)
unfolding job_row
all_follow words set a w [] h = tt
all_follow words set a w (b ∷ more) h = (record { order = h.0.order; apart = h.0.apart }, all_follow (rest words) set a w more h.1)

-- the releases of a plan, with needs, are a list of work
pub job_rows-IsWork : (words : Lcg) (set : List Task) (plan : List Arrival) → Each IsTask set → IsPlan set plan → IsWork set (job_rows words set plan)
unfolding job_row
job_rows-IsWork words set [] each h = tt
job_rows-IsWork words set (a ∷ more) each h = (
  record { task = h.0; need = need-pos (task_at set a.task) (word words) (known set a.task each h.0) },
  all_follow (rest words) set a (word words) more h.1,
  job_rows-IsWork (rest words) set more each h.2,
)
