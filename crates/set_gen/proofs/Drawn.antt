-- A generated task, by its name and its numbers.
use Rattle.std.proofs.Common.{◌≡◌, ℕ, ◌+◌, ◌/◌, ◌%◌, ◌≤◌, List, refl, arith}
use Rattle.std.proofs.Math.Nat.{div-le_self}
use Rattle.std.proofs.lemmas.Nat.{le-div}
use Rattle.rand_pcg.specs.Lcg.{Lcg}
use Rattle.set_gen.specs.declared.tasks.Numbers.{Numbers}
use Rattle.set_gen.specs.GeneratedSet.{task_name, generated_task}
use Rattle.set_gen.specs.GeneratedNumbers.{AreOf}
use Rattle.set_gen.proofs.GeneratedTasks.{generated_task-name}

pub named : (words : Lcg) (n i : ℕ) (name : List ℕ) (numbers : Numbers) → name ≡ task_name i → AreOf (generated_task words n i) numbers
    → record { name = name; level = numbers.level; period = numbers.period; low = numbers.low; high = numbers.high } ≡ generated_task words n i
named words n i name numbers is of = rw (is, ← generated_task-name words n i, of.level, of.period, of.low, of.high) refl

-- a low budget is within the period
pub low-within : (p d w : ℕ) → 200 ≤ p → p ≤ 10000 → 1 ≤ d → d ≤ 64 → 1 + w % (p / d) ≤ 10000
low-within p d w least most some few = omega (arith, le-div 3 p d some (omega arith), div-le_self p d)
