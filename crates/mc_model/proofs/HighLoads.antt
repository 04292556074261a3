-- High tasks that ask for time by their high budgets ask for time by their low ones too.
use Rattle.std.proofs.Common.{ℕ, zero, suc, ◌*◌, ◌/◌, ◌<◌, inl, inr, arith, List, [], ◌∷◌}
use Rattle.std.specs.List.{AllByRecursion}
use Rattle.std.proofs.lemmas.Bool.Decides.{leb_tells}
use Rattle.std.proofs.Math.Nat.{mul-pos}
use Rattle.mc_task.specs.declared.task.Task.{Task}
use Rattle.mc_task.specs.declared.task.Level.{Level}
use Rattle.mc_task.specs.declared.task.Level.TheVariants.{Low, High}
use Rattle.mc_task.specs.TaskSet.{AreTasks, IsTask}
use Rattle.mc_model.specs.Loads.{load, load_hl, load_hh, product, high_low, high_high, by_level}

-- a task that asks for time by its high budget asks for time by its low one
share-pos : (l : Level) (low high share : ℕ) → 0 < low → 0 < by_level l 0 high * share → 0 < by_level l 0 low * share
share-pos Low low high share some h = h
share-pos High low high zero some h = absurd (omega arith)
share-pos High low high (suc share) some h = mul-pos some (omega arith)

-- high tasks that ask for time by their high budgets ask for time by their low ones
pub high_low-pos : (n : ℕ) (ts : List Task) → AllByRecursion IsTask ts → 0 < load high_high n ts → 0 < load high_low n ts
high_low-pos n [] each h = absurd (omega arith)
high_low-pos n (t ∷ ts) each h =
    elim (leb_tells 1 (by_level t.level 0 t.high * (n / t.period))) [
      | inl here ↦ (let more : 0 < by_level t.level 0 t.low * (n / t.period) = share-pos t.level t.low t.high (n / t.period) (each.0.low.0) (here.1) in omega arith)
      | inr none ↦ (let more : 0 < load high_low n ts = high_low-pos n ts (each.1) (omega arith) in omega arith)
    ]

-- U_HL is above 0 if U_HH is
pub load_hl-pos : (set : List Task) → AreTasks set → 0 < load_hh set → 0 < load_hl set
load_hl-pos set is h = high_low-pos (product set) set is.each h
