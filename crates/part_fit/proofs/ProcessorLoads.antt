-- The loads of the processors while the tasks are placed.
use Rattle.std.proofs.Common.{◌≡◌, ℕ, suc, ◌<◌, inl, inr, List, [], ◌∷◌, ◌++◌, length, replicate, get_or, slice_set, slice_index_or, Some, refl, sym, ap, ◌∙◌, arith, length-set, get_or-set_same, get_or-set_other}
use Rattle.std.proofs.lemmas.Bool.Decides.{eqb_tells}
use Rattle.std.proofs.lemmas.Option.{slice_get_within, slice_get-get_or, slice_get_read, get_or_from_slice_get}
use Rattle.std.proofs.lemmas.List.{get_or-replicate, length-replicate}
use Rattle.mc_task.specs.declared.task.Task.{Task}
use Rattle.mc_task.specs.TaskSet.{AreTasks}
use Rattle.mc_model.specs.Loads.{lcm_from}
use Rattle.load_sum.specs.declared.loads.Loads.{Loads}
use Rattle.part_fit.specs.Parts.{part_of}
use Rattle.part_fit.specs.ProcessorLoads.{no_loads, AreLoadsOf, AreSmall, IsNext, AreProcessorLoads, IsToPlace}
use Rattle.part_fit.proofs.Sublists.{part_of-none, part_of-more, with_next-AreTasks}

-- a task is ready to be placed: it is the next one of the set, and these are the loads of the processors
abbrev pub IsReady : List Task → List Task → List ℕ → List Loads → ℕ → Type 0
IsReady set tasks of all i = (now : List Loads) (t : Task) → now ≡ all → i < length tasks → t ≡ get_or tasks i t → IsToPlace set of now t

pub kept-IsReady : (set tasks : List Task) (of : List ℕ) (all : List Loads) (i : ℕ) → AreTasks set → tasks ≡ set → length of ≡ i → AreProcessorLoads set of all
    → IsReady set tasks of all i
kept-IsReady set tasks of all i are same long kept now t lent inside is =
    rw lent (record { are = are; next = rw (← same, long) (slice_get_read tasks (length tasks) i t refl inside is); loads = kept })

-- the task is the next one for each processor
pub place-next : {set : List Task} {of : List ℕ} {all : List Loads} {t : Task} {i : ℕ} (d : Loads) → IsToPlace set of all t → i < length all
    → IsNext (part_of set of (suc i)) (slice_index_or all i d) t × AreSmall (slice_index_or all i d)
place-next {set} {of} {all} {t} {i} d here inside =
    let own = here.loads i (slice_index_or all i d) (slice_get-get_or all i d inside) in
    (record { have = own.0; together = with_next-AreTasks set of (suc i) t here.are here.next }, own.1)

-- the loads of processors without a task
pub none-AreProcessorLoads : (set : List Task) (m : ℕ) → AreProcessorLoads set [] (replicate m no_loads)
unfolding lcm_from
none-AreProcessorLoads set m i loads at =
    let inside : i < m = omega (arith, slice_get_within _ i loads at, length-replicate m no_loads) in
    let same : no_loads ≡ loads = sym (get_or-replicate m i no_loads loads inside) ∙ get_or_from_slice_get _ i loads loads at in
    rw (← same, part_of-none set (suc i)) (
      record { lcm = refl; low_low = refl; high_low = refl; high_high = refl },
      record { above = omega arith; lcm = omega arith; low_low = omega arith; high_low = omega arith; high_high = omega arith },
    )

-- the loads of the processors after one more task is placed
pub more-AreProcessorLoads : (set : List Task) (of : List ℕ) (all : List Loads) (t : Task) (k : ℕ) (more : Loads) → IsToPlace set of all t → k < length all
    → AreLoadsOf (part_of set of (suc k) ++ t ∷ []) more → AreSmall more → AreProcessorLoads set (of ++ suc k ∷ []) (slice_set all k more)
more-AreProcessorLoads set of all t k more here inside have small i loads at =
    let is : slice_index_or (slice_set all k more) i loads ≡ loads = get_or_from_slice_get _ i loads loads at in
    elim (eqb_tells (suc k) (suc i)) [
      | inl same ↦
          let one : k ≡ i = omega (arith, same.1) in
          let new : more ≡ loads = sym (get_or-set_same all k more loads inside) ∙ rw (← one) at is in
          rw (part_of-more set of (suc i) (suc k) t here.next, same.0, ← new, ← one) (have, small)
      | inr other ↦
          let old : slice_index_or all i loads ≡ loads = sym (get_or-set_other all k i more loads (λ e. other.1 (ap suc (sym e)))) ∙ is in
          let longer : i < length all = omega (arith, slice_get_within _ i loads at, length-set all k more) in
          rw (part_of-more set of (suc i) (suc k) t here.next, other.0) (here.loads i loads (slice_get-get_or all i loads longer ∙ ap Some old))
    ]
