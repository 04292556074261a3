-- The levels of given tasks.
use Rattle.std.proofs.Common.{◌≡◌, ℕ, suc, ◌+◌, ◌<◌, ◌≤◌, inl, inr, subst, arith, List, Some, length, slice_get, get_or, ◌-◌}
use Rattle.std.proofs.lemmas.Option.{slice_get-get_or}
use Rattle.std.proofs.lemmas.Bool.Decides.{leb_tells}
use Rattle.mc_task.specs.declared.task.Task.{Task}
use Rattle.mc_task.specs.declared.task.Level.{Level}
use Rattle.mc_task.specs.declared.task.Level.TheVariants.{Low, High}
use Rattle.edfvd_c.specs.declared.sets.given.CTask.{CTask}
use Rattle.edfvd_c.specs.Sets.Given.{level_number, numbers_of}
use Rattle.edfvd_c.specs.Sets.Refused.{IsFirstOfNoLevel}

pub level_number-most : (l : Level) → level_number l ≤ 1
level_number-most Low = omega arith
level_number-most High = omega arith

-- the numbers of a task have a level
pub numbers-level : (t : Task) (g : CTask) → numbers_of t ≡ g → g.level ≤ 1
numbers-level t g is = subst (λ (x : CTask). x.level ≤ 1) is (level_number-most t.level)

-- the tasks before n have levels, and so has the one at n: then all before n + 1 have
pub levels_more : (given : List CTask) (n : ℕ) (t : CTask) → slice_get given n ≡ Some t → t.level ≤ 1
    → ((i : ℕ) (u : CTask) → i < n → slice_get given i ≡ Some u → u.level ≤ 1)
    → (i : ℕ) (u : CTask) → i < n + 1 → slice_get given i ≡ Some u → u.level ≤ 1
levels_more given n t here level before i u below at =
    elim (leb_tells (suc i) n) [
      | inl less ↦ before i u less.1 at
      | inr past ↦
          let same : i ≡ n = omega (arith, past.1, below) in
          let there : slice_get given n ≡ Some u = subst (λ k. slice_get given k ≡ Some u) same at in
          let equal : t ≡ u = cc (here, there) in
          subst (λ (x : CTask). x.level ≤ 1) equal level
    ]

-- the task at n has no level, and each before it has one
pub first-of-no-level : (given : List CTask) (n : ℕ) (d : CTask) → n < length given → 1 < (get_or given n d).level
    → ((i : ℕ) (t : CTask) → i < n → slice_get given i ≡ Some t → t.level ≤ 1) → IsFirstOfNoLevel given (n + 1)
first-of-no-level given n d inside level before =
    let same : n ≡ n + 1 - 1 = omega arith in
    record {
      some = omega arith;
      here = subst (λ j. (t : CTask) × (slice_get given j ≡ Some t) × (1 < t.level)) same (get_or given n d, slice_get-get_or given n d inside, level);
      before = λ i t below at. before i t (omega (arith, below)) at;
    }
