-- The definitions of traces, computed at worked examples: the verdict on each, who is late, and the line of a
-- verdict.
use Rattle.std.proofs.Common.{◌≡◌, ℕ, true, false, List, [], ◌∷◌, ◌≤◌, Some, None, reverse, codes, refl, lit≤, arith}
use Rattle.std.specs.Fmt.{digits}
use Rattle.mc_task.specs.declared.task.Rule.TheVariants.{Virtual}
use Rattle.mc_task.specs.declared.task.JobId.{JobId}
use Rattle.mc_model.specs.declared.row.How.TheVariants.{More, Done, Over}
use Rattle.mc_model.specs.declared.row.Row.{Row}
use Rattle.mc_model.specs.declared.row.Row.TheVariants.{Release, Tick, Idle}
use Rattle.mc_model.specs.declared.verdict.Why.TheVariants.{TooSoon, WrongCount, WrongKept, NotPending, NotLeast, WrongHow, IdlePending}
use Rattle.mc_model.specs.declared.verdict.Verdict.{Verdict}
use Rattle.mc_model.specs.declared.verdict.Verdict.TheVariants.{Legal, Illegal}
use Rattle.mc_model.specs.Verdict.{verdict}
use Rattle.mc_model.specs.VerdictText.{verdict_line}
use Rattle.mc_model.specs.Holds.{Holds}
use Rattle.mc_model.proofs.WorkedSets.{control, tap_and_arm}

-- the c-th job of task number k
abbrev job : ℕ → ℕ → JobId
job k c = record { task = record { 0 = k }; count = c }

-- the verdict on a trace of control under the scale 2/5, written with its oldest row first
abbrev judged : List Row → Verdict
judged rows = verdict control (Virtual 2 5) (reverse rows)

a_release_within_its_period : judged (Release (job 2 1) true ∷ Tick (job 2 1) Done ∷ Release (job 2 2) true ∷ []) ≡ Illegal 3 TooSoon
a_release_within_its_period = refl

a_first_job_with_count_2 : judged (Release (job 1 2) true ∷ []) ≡ Illegal 1 WrongCount
a_first_job_with_count_2 = refl

a_high_release_that_is_dropped : judged (Release (job 1 1) false ∷ []) ≡ Illegal 1 WrongKept
a_high_release_that_is_dropped = refl

a_tick_of_a_job_that_was_not_released : judged (Tick (job 1 1) More ∷ []) ≡ Illegal 1 NotPending
a_tick_of_a_job_that_was_not_released = refl

a_tick_past_an_earlier_virtual_deadline : judged (Release (job 1 1) true ∷ Release (job 2 1) true ∷ Tick (job 2 1) More ∷ []) ≡ Illegal 3 NotLeast
a_tick_past_an_earlier_virtual_deadline = refl

an_overrun_that_is_not_reported : judged (Release (job 1 1) true ∷ Tick (job 1 1) More ∷ Tick (job 1 1) More ∷ []) ≡ Illegal 3 WrongHow
an_overrun_that_is_not_reported = refl

an_idle_tick_while_a_job_is_pending : judged (Release (job 1 1) true ∷ Idle ∷ []) ≡ Illegal 2 IdlePending
an_idle_tick_while_a_job_is_pending = refl

a_low_job_that_an_overrun_discarded :
    judged (Release (job 1 1) true ∷ Release (job 2 1) true ∷ Tick (job 1 1) More ∷ Tick (job 1 1) Over ∷ Tick (job 2 1) More ∷ []) ≡ Illegal 5 NotPending
a_low_job_that_an_overrun_discarded = refl

a_low_release_dropped_after_the_return :
    judged (Release (job 1 1) true ∷ Tick (job 1 1) More ∷ Tick (job 1 1) Over ∷ Tick (job 1 1) Done ∷ Idle ∷ Release (job 2 1) false ∷ []) ≡ Illegal 6 WrongKept
a_low_release_dropped_after_the_return = refl

a_low_job_that_overruns :
    judged (Release (job 2 1) true ∷ Tick (job 2 1) More ∷ Tick (job 2 1) More ∷ Tick (job 2 1) More ∷ Tick (job 2 1) More ∷ Tick (job 2 1) Over ∷ []) ≡ Illegal 6 WrongHow
a_low_job_that_overruns = refl

a_low_release_kept_in_high_mode : judged (Release (job 1 1) true ∷ Tick (job 1 1) More ∷ Tick (job 1 1) Over ∷ Release (job 2 1) true ∷ []) ≡ Illegal 4 WrongKept
a_low_release_kept_in_high_mode = refl

a_tick_after_the_job_was_done : judged (Release (job 2 1) true ∷ Tick (job 2 1) Done ∷ Tick (job 2 1) More ∷ []) ≡ Illegal 3 NotPending
a_tick_after_the_job_was_done = refl

a_job_done_before_its_budget : judged (Release (job 1 1) true ∷ Tick (job 1 1) Done ∷ Idle ∷ []) ≡ Legal 0 None
a_job_done_before_its_budget = refl

an_overrun_and_the_return :
    judged (
    Release (job 1 1) true ∷ Release (job 2 1) true ∷ Tick (job 1 1) More ∷ Tick (job 1 1) Over ∷ Tick (job 1 1) More ∷ Tick (job 1 1) More ∷ Tick (job 1 1) More ∷ Tick (job 1 1) Done
    ∷ Idle ∷ Idle ∷ Idle ∷ Idle ∷ Release (job 2 2) true ∷ Tick (job 2 2) More ∷ Tick (job 2 2) More ∷ []) ≡ Legal 0 None
an_overrun_and_the_return = refl

-- a high job that overruns and is done at the tick before its deadline
abbrev done_at_its_deadline : List Row
done_at_its_deadline =
    reverse (
    Release (job 1 1) true ∷ Release (job 2 1) true ∷ Tick (job 1 1) Done ∷ Tick (job 2 1) Over ∷ Release (job 1 2) false ∷ Tick (job 2 1) More ∷ Tick (job 2 1) Done ∷ Release (job 1 3) false ∷ Idle ∷ [])

a_deadline_met_exactly : verdict (tap_and_arm 3) (Virtual 1 2) done_at_its_deadline ≡ Legal 0 None
a_deadline_met_exactly = refl

-- with unscaled deadlines the low job may run first, and the high job is then late
abbrev low_job_first : List Row
low_job_first =
    reverse (
    Release (job 1 1) true ∷ Release (job 2 1) true ∷ Tick (job 2 1) More ∷ Tick (job 2 1) More ∷ Tick (job 2 1) More ∷ Tick (job 2 1) More ∷ Tick (job 2 1) Done
    ∷ Tick (job 1 1) More ∷ Tick (job 1 1) Over ∷ Tick (job 1 1) More ∷ Tick (job 1 1) More ∷ Tick (job 1 1) More ∷ Tick (job 1 1) Done ∷ [])

late_under_a_scale_that_does_not_hold : verdict control (Virtual 1 1) low_job_first ≡ Legal 1 (Some (job 1 1))
late_under_a_scale_that_does_not_hold = refl

not_legal_under_the_scale_that_holds : verdict control (Virtual 2 5) low_job_first ≡ Illegal 3 NotLeast
not_legal_under_the_scale_that_holds = refl

control_holds : Holds control (Virtual 2 5)
control_holds = (lit≤ tt, lit≤ tt, lit≤ tt, lit≤ tt)

tap_and_arm_holds : Holds (tap_and_arm 3) (Virtual 1 2)
tap_and_arm_holds = (lit≤ tt, lit≤ tt, lit≤ tt, lit≤ tt)

control_does_not_hold_unscaled : Holds control (Virtual 1 1) → ⊥
control_does_not_hold_unscaled h = let more : 110 ≤ 100 = h.3 in omega (arith, more)

verdict_lines :
    (verdict_line control (Legal 0 None) ≡ codes "legal late 0\n")
    × (verdict_line control (Legal 12 (Some (job 1 3))) ≡ codes "legal late 12 first ctl 3\n")
    × (verdict_line control (Illegal 100 TooSoon) ≡ codes "illegal row 100 too_soon\n")
    × (verdict_line control (Illegal 101 WrongCount) ≡ codes "illegal row 101 wrong_count\n")
    × (verdict_line control (Illegal 102 WrongKept) ≡ codes "illegal row 102 wrong_kept\n")
    × (verdict_line control (Illegal 103 NotPending) ≡ codes "illegal row 103 not_pending\n")
    × (verdict_line control (Illegal 104 NotLeast) ≡ codes "illegal row 104 not_least\n")
    × (verdict_line control (Illegal 105 WrongHow) ≡ codes "illegal row 105 wrong_how\n")
    × (verdict_line control (Illegal 106 IdlePending) ≡ codes "illegal row 106 idle_pending\n")
unfolding digits verdict_line
verdict_lines = (refl, refl, refl, refl, refl, refl, refl, refl, refl)
