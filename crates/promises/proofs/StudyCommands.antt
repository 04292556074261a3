-- What `stretch` and `accept` promise.
use Rattle.std.proofs.Common.{◌≡◌, inl, ℕ, ◌^◌, List, ◌++◌, Option, Some, subst, arith}
use Rattle.mc_task.specs.TaskSet.{Set}
use Rattle.task_file.specs.TaskFile.{task_file}
use Rattle.mc_model.specs.Loads.{range_fault, IsWithinRange}
use Rattle.study.specs.Stretch as room
use Rattle.study.proofs.Percentages.{stretch-greatest}
use Rattle.command_line.specs.declared.form.Form.TheVariants as form
use Rattle.study_commands.specs.declared.stretch.StretchCommand.{StretchCommand}
use Rattle.replies.specs.Reply.{Reply, reply_of}
use Rattle.replies.specs.Refusal.{TaskFile, OutOfRange}
use Rattle.replies.specs.Reading.{none_or}
use Rattle.command.specs.Command.{Command, answer, read_or_refuse}
use Rattle.command.specs.Outcome.{IsAnswer}
use Rattle.study_commands.specs.Stretch.{stretch_text}
use Rattle.study_commands.specs.Accept.{IsAcceptReply}
use Rattle.promises.specs.Headline.{bytes_of, SaysSet}
use Rattle.promises.specs.Complete.{Succeeds}
use Rattle.promises.specs.Tested.{Tabulates}
use Rattle.promises.proofs.AnswerSteps.{KeepsPromises, same_status, same_written, file_says, answer_by_file}
use Rattle.promises.proofs.AdmittedSets.{range_accepts, no_range_fault}

pub stretch_keeps : (command : StretchCommand) → KeepsPromises (form.Stretch command)
stretch_keeps command files old reply h = (tt, tt, tt, record { writes = writes; complete = complete })
  where
    bytes : List ℕ
    bytes = bytes_of files command.tasks

    measured : Set → Unit {0} → Command
    measured set none = answer (λ reply. reply ≡ reply_of 0 (stretch_text set.tasks (room.stretch set.tasks)))

    next : Set → Command
    next set = read_or_refuse (none_or OutOfRange (range_fault set.tasks)) (measured set)

    writes : reply.status ≡ 0
        → (set : Set) × (s : Option ℕ) × SaysSet bytes set × IsWithinRange set.tasks × room.IsStretch set.tasks s
        × (Some (old ++ reply.text) ≡ Some (old ++ stretch_text set.tasks s))
    writes e =
        let (set, says, k) = file_says files reply 1 (2 ^ 24) command.tasks TaskFile task_file next h (omega arith) (λ fault. omega arith) in
        let (range, is) = range_accepts files reply set.tasks (measured set) k (omega arith) in
        (set, room.stretch set.tasks, says, range, stretch-greatest set.tasks, same_written old is)

    complete : (set : Set) → SaysSet bytes set → IsWithinRange set.tasks → Succeeds reply.status
    complete set says range =
        let k = answer_by_file files reply 1 (2 ^ 24) command.tasks TaskFile task_file next h set says in
        inl (same_status (subst (λ o. IsAnswer files 2 (read_or_refuse (none_or OutOfRange o) (measured set)) reply) (no_range_fault bytes set says range) k))

-- what `accept` promises of its answer
pub tabulates : (number sets tasks : ℕ) (old : List ℕ) (reply : Reply) → IsAcceptReply number sets tasks reply → Tabulates number sets tasks old reply.status (Some (old ++ reply.text))
tabulates number sets tasks old reply h = record { writes = λ e. same_written old h; complete = inl (same_status h) }
