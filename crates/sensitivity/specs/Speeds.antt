-- The least speed of a processor on which the published test admits a set. On a processor of speed s, a job takes
-- its ticks divided by s: so each utilisation is divided by s, and no budget is rounded.
use Rattle.std.specs.Prelude.{◌≡◌, ℕ, ◌+◌, ◌*◌, ◌<◌, ◌≤◌, Bool, true, false, List, is_some}
use Rattle.mc_task.specs.declared.task.Task.{Task}
use Rattle.mc_task.specs.TaskSet.{AreTasks}
use Rattle.mc_model.specs.Loads.{product, load_ll, load_hl, load_hh}
use Rattle.mc_model.specs.Test.{rule_of, published}

-- whether the published test admits the tasks on a processor of speed k/m
abbrev pub is_admitted_at : ℕ → ℕ → List Task → Bool
is_admitted_at k m tasks = is_some (rule_of (k * product tasks) (m * load_ll tasks) (m * load_hl tasks) (m * load_hh tasks))

-- k/m is the least speed, in steps of 1/m, at which the tasks are admitted
abbrev pub IsLeastSpeed : ℕ → ℕ → List Task → Type 0
IsLeastSpeed k m tasks =
    (is_admitted_at k m tasks ≡ true) × ((j : ℕ) → j < k → is_admitted_at j m tasks ≡ false)

-- law: tasks that are admitted at some speed are admitted at each greater one
abbrev pub FasterIsAdmitted : Type 0
FasterIsAdmitted =
    (j k m : ℕ) (tasks : List Task) → j ≤ k → is_admitted_at j m tasks ≡ true → is_admitted_at k m tasks ≡ true

-- law: a speed may be written as any fraction
abbrev pub EqualSpeeds : Type 0
EqualSpeeds =
    (i k m : ℕ) (tasks : List Task) → 0 < i → is_admitted_at (i * k) (i * m) tasks ≡ is_admitted_at k m tasks

-- law: at speed 1 the published test admits what it admits
abbrev pub AtSpeedOne : Type 0
AtSpeedOne = (m : ℕ) (tasks : List Task) → 0 < m → is_admitted_at m m tasks ≡ is_some (published tasks)

-- the tasks' loads are at most 1 in each mode: U_LL + U_HL ≤ 1 and U_HH ≤ 1
abbrev pub AreAtMostOne : List Task → Type 0
AreAtMostOne tasks = (load_ll tasks + load_hl tasks ≤ product tasks) × (load_hh tasks ≤ product tasks)

-- law: tasks whose loads are at most 1 in each mode are admitted at speed 4/3 (Baruah et al., ECRTS 2012)
abbrev pub FourThirdsLaw : Type 0
FourThirdsLaw = (tasks : List Task) → AreTasks tasks → AreAtMostOne tasks → is_admitted_at 4 3 tasks ≡ true
