-- The definitions of runs, computed at worked traces.
use Rattle.std.proofs.Common.{◌≡◌, ℕ, true, false, List, [], ◌∷◌, reverse, codes, refl}
use Rattle.std.specs.Fmt.{digits}
use Rattle.mc_task.specs.declared.task.Rule.TheVariants.{Virtual}
use Rattle.mc_task.specs.declared.task.JobId.{JobId}
use Rattle.mc_model.specs.declared.row.How.TheVariants.{More, Done, Over}
use Rattle.mc_model.specs.declared.row.Row.{Row}
use Rattle.mc_model.specs.declared.row.Row.TheVariants.{Release, Tick, Idle}
use Rattle.mc_model.specs.declared.run.Run.TheVariants as run
use Rattle.mc_model.specs.declared.verdict.Why.TheVariants.{WrongHow}
use Rattle.mc_model.specs.declared.verdict.Verdict.TheVariants.{Illegal}
use Rattle.mc_model.specs.Verdict.{verdict}
use Rattle.mc_model.specs.Runs.{expand, pack}
use Rattle.mc_model.specs.TraceText.{run_line, trace_text}
use Rattle.mc_model.proofs.WorkedSets.{control}

-- the c-th job of task number k
abbrev job : ℕ → ℕ → JobId
job k c = record { task = record { 0 = k }; count = c }

-- the run of an overrun, row by row
abbrev overrun : List Row
overrun =
    Release (job 1 1) true ∷ Release (job 2 1) true ∷ Tick (job 1 1) More ∷ Tick (job 1 1) Over ∷ Tick (job 1 1) More ∷ Tick (job 1 1) More ∷ Tick (job 1 1) More ∷ Tick (job 1 1) Done
    ∷ Idle ∷ Idle ∷ Idle ∷ Idle ∷ Release (job 2 2) true ∷ Tick (job 2 2) More ∷ Tick (job 2 2) More ∷ []

equal_rows_that_stand_together_are_one_run :
    pack overrun
    ≡ run.Release (job 1 1) true ∷ run.Release (job 2 1) true ∷ run.Ticks (job 1 1) More 1 ∷ run.Ticks (job 1 1) Over 1 ∷ run.Ticks (job 1 1) More 3 ∷ run.Ticks (job 1 1) Done 1
    ∷ run.Idles 4 ∷ run.Release (job 2 2) true ∷ run.Ticks (job 2 2) More 2 ∷ []
equal_rows_that_stand_together_are_one_run = refl

ticks_of_two_jobs_are_two_runs : pack (Tick (job 1 1) More ∷ Tick (job 1 2) More ∷ []) ≡ run.Ticks (job 1 1) More 1 ∷ run.Ticks (job 1 2) More 1 ∷ []
ticks_of_two_jobs_are_two_runs = refl

-- the number in an illegal verdict counts rows: the fifth tick is the sixth row
a_run_past_the_budget : verdict control (Virtual 2 5) (reverse (expand (run.Release (job 2 1) true ∷ run.Ticks (job 2 1) More 5 ∷ []))) ≡ Illegal 6 WrongHow
a_run_past_the_budget = refl

-- each line of a trace has the tick at which its run begins
the_lines_of_a_trace :
    trace_text control (Release (job 1 1) true ∷ Tick (job 1 1) More ∷ Tick (job 1 1) Over ∷ Idle ∷ Idle ∷ Release (job 2 1) false ∷ [])
    ≡ codes "event,tick,length,task,job,how\nrelease,0,,ctl,1,kept\ntick,0,1,ctl,1,more\ntick,1,1,ctl,1,over\nidle,2,2,,,\nrelease,4,,log,1,dropped\n"
unfolding digits run_line
the_lines_of_a_trace = refl
