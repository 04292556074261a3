-- What `demand` promises.
use Rattle.std.proofs.Common.{◌≡◌, ◌≢◌, ◌⊎◌, inl, inr, ℕ, ◌^◌, List, arith}
use Rattle.command_line.specs.declared.form.Form.TheVariants as form
use Rattle.replies.specs.Reply.{Reply}
use Rattle.replies.specs.Refusal.{DemandFile}
use Rattle.command.specs.Command.{answer}
use Rattle.demand_test.specs.declared.demand.Demand.{Demand}
use Rattle.demand_test.specs.declared.row.EdfRow.{EdfRow}
use Rattle.demand_test.specs.declared.fit.Fit.{Fit}
use Rattle.demand_test.specs.declared.fit.Fit.TheVariants.{Within, Past}
use Rattle.demand_test.specs.DemandSet.{IsDemandSet}
use Rattle.demand_test.specs.DemandBound.{IsFit}
use Rattle.demand_test.specs.DemandFile.{demands_in}
use Rattle.demand_test.specs.EdfRuns.{IsEdfSchedule, NoneLate}
use Rattle.demand_test.specs.Counter.{SomeLate}
use Rattle.demand_test.proofs.Laws.{none_late_if_within}
use Rattle.demand_test.proofs.Exists.{late_if_past}
use Rattle.demand_commands.specs.declared.demand.DemandCommand.{DemandCommand}
use Rattle.demand_commands.specs.Demand.{IsFitReply, IsDemandReply}
use Rattle.promises.specs.Headline.{bytes_of}
use Rattle.promises.specs.Complete.{Succeeds}
use Rattle.promises.specs.Tested.{SaysDemands}
use Rattle.promises.proofs.AnswerSteps.{KeepsPromises, same_status, file_says, answer_by_file}

-- the reply reports that no job is late in any EDF schedule, or that a job is late in one
none_or_some_late : (set : List Demand) (fit : Fit) (reply : Reply) → IsDemandSet set → IsFit set fit → IsFitReply set fit reply
    → ((reply.status ≡ 0) × ((h : List EdfRow) → IsEdfSchedule set h → NoneLate set h)) ⊎ ((reply.status ≡ 10) × (h : List EdfRow) × IsEdfSchedule set h × SomeLate set h)
none_or_some_late set (Within n) reply is fit t = inl (same_status t, none_late_if_within set (Within n) is fit)
none_or_some_late set (Past n m) reply is fit t = let late = late_if_past set (Past n m) is fit in inr (same_status t.2, late.h, late.counter.run, late.late)

pub demand_keeps : (command : DemandCommand) → KeepsPromises (form.Demand command)
demand_keeps command files old reply h = (tt, tt, tt, record { none_late = none_late; some_late = some_late; complete = complete })
  where
    bytes : List ℕ
    bytes = bytes_of files command.demands

    tested : reply.status ≢ 7 → reply.status ≢ 11 → (set : List Demand) × SaysDemands bytes set × IsDemandReply set reply
    tested not_7 not_11 = file_says files reply 1 (2 ^ 24) command.demands DemandFile demands_in (λ set. answer (IsDemandReply set)) h not_7 (λ fault. not_11)

    none_late : reply.status ≡ 0 → (set : List Demand) × SaysDemands bytes set × ((h : List EdfRow) → IsEdfSchedule set h → NoneLate set h)
    none_late e =
        let (set, says, f) = tested (omega arith) (omega arith) in
        elim (none_or_some_late set f.fit reply f.is_set f.is f.fit_reply) [ inl none ↦ (set, says, none.1) | inr some ↦ absurd (omega (arith, e, some.0)) ]

    some_late : reply.status ≡ 10 → (set : List Demand) × (h : List EdfRow) × SaysDemands bytes set × IsEdfSchedule set h × SomeLate set h
    some_late e =
        let (set, says, f) = tested (omega arith) (omega arith) in
        elim (none_or_some_late set f.fit reply f.is_set f.is f.fit_reply) [ inl none ↦ absurd (omega (arith, e, none.0)) | inr some ↦ (set, some.1, says, some.2, some.3) ]

    complete : (set : List Demand) → SaysDemands bytes set → (reply.status ≡ 10) ⊎ Succeeds reply.status
    complete set says =
        let f : IsDemandReply set reply = answer_by_file files reply 1 (2 ^ 24) command.demands DemandFile demands_in (λ set. answer (IsDemandReply set)) h set says in
        elim (none_or_some_late set f.fit reply f.is_set f.is f.fit_reply) [ inl none ↦ inr (inl none.0) | inr some ↦ inl some.0 ]
