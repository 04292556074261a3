-- The sets of the worked examples.
use Rattle.std.proofs.Common.{ℕ, List, [], ◌∷◌, codes}
use Rattle.mc_task.specs.declared.task.Task.{Task}
use Rattle.mc_task.specs.declared.task.Level.TheVariants.{Low, High}

-- a low task: its name, its period and its one budget
abbrev pub low_task : List ℕ → ℕ → ℕ → Task
low_task name period budget = record { name = name; level = Low; period = period; low = budget; high = budget }

-- a high task: its name, its period and its two budgets
abbrev pub high_task : List ℕ → ℕ → ℕ → ℕ → Task
high_task name period low high = record { name = name; level = High; period = period; low = low; high = high }

-- task 1 is high and task 2 low; EDF does not fit, and EDF-VD does with the scale 2/5
abbrev pub control : List Task
control = high_task (codes "ctl") 10 2 6 ∷ low_task (codes "log") 10 5 ∷ []

-- task 1 is low and task 2 high with this high budget; with 3 EDF-VD fits with the scale 1/2
abbrev pub tap_and_arm : ℕ → List Task
tap_and_arm budget = low_task (codes "tap") 2 1 ∷ high_task (codes "arm") 4 1 budget ∷ []

-- EDF-VD fits with the scale 1/4
abbrev pub quarter_scale : List Task
quarter_scale = low_task (codes "a") 5 3 ∷ high_task (codes "b") 10 1 6 ∷ []

-- EDF-VD fits with the scale 1/2, and one high task has one budget
abbrev pub two_high_tasks : List Task
two_high_tasks = high_task (codes "ctl") 10 2 6 ∷ high_task (codes "fix") 10 1 1 ∷ low_task (codes "log") 10 4 ∷ []

-- EDF fits, with a load of exactly 1
abbrev pub plain_pair : List Task
plain_pair = high_task (codes "hi") 4 1 2 ∷ low_task (codes "lo") 4 2 ∷ []

-- EDF fits, and the jobs of both tasks have the same key if they are released together
abbrev pub low_pair : List Task
low_pair = low_task (codes "tap") 4 2 ∷ low_task (codes "log") 4 1 ∷ []

-- eight tasks of an aircraft, in microseconds
abbrev pub avionics : List Task
avionics =
    high_task (codes "attitude") 5000 400 900
    ∷ high_task (codes "gyro") 10000 600 1500
    ∷ high_task (codes "engine") 20000 1500 4000
    ∷ high_task (codes "nav") 50000 3000 7000
    ∷ low_task (codes "display") 16667 2500
    ∷ low_task (codes "radio") 25000 2000
    ∷ low_task (codes "log") 100000 8000
    ∷ low_task (codes "maint") 200000 10000
    ∷ []
