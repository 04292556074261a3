-- The chart, computed at worked traces. Rows are written with the oldest first.
use Rattle.std.proofs.Common.{◌≡◌, ℕ, true, false, List, [], ◌∷◌, reverse, codes, refl}
use Rattle.mc_task.specs.declared.task.JobId.{JobId}
use Rattle.mc_model.specs.declared.row.How.TheVariants.{More, Done, Stop, Over}
use Rattle.mc_model.specs.declared.row.Row.{Row}
use Rattle.mc_model.specs.declared.row.Row.TheVariants.{Release, Tick, Idle}
use Rattle.mc_model.proofs.WorkedSets.{control, tap_and_arm}
use Rattle.sched_chart.specs.ChartText.{chart_text}

-- the c-th job of task number k
abbrev job : ℕ → ℕ → JobId
job k c = record { task = record { 0 = k }; count = c }

-- an overrun at tick 1, the high job done at tick 5, and the low task's second job from tick 10 on
abbrev overrun : List Row
overrun =
    Release (job 1 1) true ∷ Release (job 2 1) true ∷ Tick (job 1 1) More ∷ Tick (job 1 1) Over ∷ Tick (job 1 1) More
    ∷ Tick (job 1 1) More ∷ Tick (job 1 1) More ∷ Tick (job 1 1) Done ∷ Idle ∷ Idle ∷ Idle ∷ Idle
    ∷ Release (job 2 2) true ∷ Tick (job 2 2) More ∷ Tick (job 2 2) More ∷ []

-- a low job that was done before the overrun, and two that are dropped after it
abbrev done_before : List Row
done_before =
    Release (job 1 1) true ∷ Release (job 2 1) true ∷ Tick (job 1 1) Done ∷ Tick (job 2 1) Over ∷ Release (job 1 2) false ∷ Tick (job 2 1) More
    ∷ Tick (job 2 1) Done ∷ Release (job 1 3) false ∷ Idle ∷ []

-- a job that is stopped, and a shorter one
abbrev stopped_first : List Row
stopped_first =
    Release (job 2 1) true ∷ Tick (job 2 1) More ∷ Tick (job 2 1) More ∷ Tick (job 2 1) More ∷ Tick (job 2 1) More ∷ Tick (job 2 1) Stop
    ∷ Idle ∷ Idle ∷ Idle ∷ Idle ∷ Idle ∷ Release (job 2 2) true ∷ Tick (job 2 2) Done ∷ []

chart_of_an_overrun : chart_text control (reverse overrun) ≡ codes "ctl    #O###D......\nlog    ..........##\n(mode) LLHHHHHLLLLL\n"
unfolding chart_text
chart_of_an_overrun = refl

chart_of_no_rows : chart_text control [] ≡ codes "ctl    \nlog    \n(mode) \n"
unfolding chart_text
chart_of_no_rows = refl

chart_in_high_mode : chart_text (tap_and_arm 3) (reverse done_before) ≡ codes "tap    D....\narm    .O#D.\n(mode) LLHHH\n"
unfolding chart_text
chart_in_high_mode = refl

chart_of_a_stop : chart_text control (reverse stopped_first) ≡ codes "ctl    ...........\nlog    ####S.....D\n(mode) LLLLLLLLLLL\n"
unfolding chart_text
chart_of_a_stop = refl
