-- The report and the sums, computed at worked traces. Rows are written with the oldest first.
use Rattle.std.proofs.Common.{◌≡◌, ℕ, true, false, List, [], ◌∷◌, reverse, codes, refl}
use Rattle.std.specs.Fmt.{digits}
use Rattle.mc_task.specs.declared.task.JobId.{JobId}
use Rattle.mc_model.specs.declared.row.How.TheVariants.{More, Done, Stop, Over}
use Rattle.mc_model.specs.declared.row.Row.{Row}
use Rattle.mc_model.specs.declared.row.Row.TheVariants.{Release, Tick, Idle}
use Rattle.mc_model.proofs.WorkedSets.{control, tap_and_arm}
use Rattle.sched_report.specs.ReportText.{counts_text, report_line, report_text, summary_text}

-- the c-th job of task number k
abbrev job : ℕ → ℕ → JobId
job k c = record { task = record { 0 = k }; count = c }

-- an overrun at tick 1, the high job done at tick 5, and the low task's second job from tick 10 on
abbrev overrun : List Row
overrun =
    Release (job 1 1) true ∷ Release (job 2 1) true ∷ Tick (job 1 1) More ∷ Tick (job 1 1) Over ∷ Tick (job 1 1) More
    ∷ Tick (job 1 1) More ∷ Tick (job 1 1) More ∷ Tick (job 1 1) Done ∷ Idle ∷ Idle ∷ Idle ∷ Idle
    ∷ Release (job 2 2) true ∷ Tick (job 2 2) More ∷ Tick (job 2 2) More ∷ []

-- a low job that was done before the overrun, and two that are dropped after it
abbrev done_before : List Row
done_before =
    Release (job 1 1) true ∷ Release (job 2 1) true ∷ Tick (job 1 1) Done ∷ Tick (job 2 1) Over ∷ Release (job 1 2) false ∷ Tick (job 2 1) More
    ∷ Tick (job 2 1) Done ∷ Release (job 1 3) false ∷ Idle ∷ []

-- a job that is stopped, and a shorter one
abbrev stopped_first : List Row
stopped_first =
    Release (job 2 1) true ∷ Tick (job 2 1) More ∷ Tick (job 2 1) More ∷ Tick (job 2 1) More ∷ Tick (job 2 1) More ∷ Tick (job 2 1) Stop
    ∷ Idle ∷ Idle ∷ Idle ∷ Idle ∷ Idle ∷ Release (job 2 2) true ∷ Tick (job 2 2) Done ∷ []

report_of_an_overrun :
    report_text control (reverse overrun) ≡ codes "task ctl released 1 kept 1 dropped 0 discarded 0 done 1 stopped 0 ticks 6 response 6\ntask log released 2 kept 2 dropped 0 discarded 1 done 0 stopped 0 ticks 2 response -\nidle 4\nswitches 1\n"
unfolding report_text report_line counts_text digits
report_of_an_overrun = refl

summary_of_an_overrun :
    summary_text control (reverse overrun) ≡ codes "released 3 kept 3 dropped 0 discarded 1 done 1 stopped 0\nticks 8 idle 4 switches 1\n"
unfolding summary_text counts_text digits
summary_of_an_overrun = refl

report_of_dropped_releases :
    report_text (tap_and_arm 3) (reverse done_before) ≡ codes "task tap released 3 kept 1 dropped 2 discarded 0 done 1 stopped 0 ticks 1 response 1\ntask arm released 1 kept 1 dropped 0 discarded 0 done 1 stopped 0 ticks 3 response 4\nidle 1\nswitches 1\n"
unfolding report_text report_line counts_text digits
report_of_dropped_releases = refl

greatest_response :
    report_text control (reverse stopped_first) ≡ codes "task ctl released 0 kept 0 dropped 0 discarded 0 done 0 stopped 0 ticks 0 response -\ntask log released 2 kept 2 dropped 0 discarded 0 done 1 stopped 1 ticks 6 response 5\nidle 5\nswitches 0\n"
unfolding report_text report_line counts_text digits
greatest_response = refl
