-- The keys of two jobs are equal exactly if the jobs are the same.
use Rattle.std.proofs.Common.{◌≡◌, ℕ, ◌&&◌, ◌==◌, refl, arith}
use Rattle.std.proofs.lemmas.Bool.Decides.{nat_tests}
use Rattle.std.specs.BTreeMap.{is_at}
use Rattle.std.specs.Ordering.{nat_cmp, ordering_then, is_eq}
use Rattle.std.specs.declared.cmp.Ordering.{Ordering}
use Rattle.std.specs.declared.cmp.Ordering.TheVariants.{Less, Equal, Greater}
use Rattle.mc_task.specs.declared.task.JobId.{JobId}
use Rattle.mc_model.specs.Rows.{same_job}
use Rattle.sched_report.specs.ReleaseTimes.{key_cmp}

then_eq : (o p : Ordering) → is_eq (ordering_then o p) ≡ (is_eq o && is_eq p)
then_eq Less p = refl
then_eq Equal p = refl
then_eq Greater p = refl

cmp_eq : (x y : ℕ) → is_eq (nat_cmp x y) ≡ (x == y)
cmp_eq x y = grind (arith, nat_tests)

-- two keys are equal exactly if the jobs are the same
pub key-same : (i j : JobId) → is_at (key_cmp (i.task.0, i.count)) (j.task.0, j.count) ≡ same_job i j
key-same i j = rw (then_eq (nat_cmp i.task.0 j.task.0) (nat_cmp i.count j.count), cmp_eq i.task.0 j.task.0, cmp_eq i.count j.count) refl
