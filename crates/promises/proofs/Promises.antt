-- What the program promises of each command follows from the answer.
use Rattle.std.proofs.Common.{inl, inr, ℕ, List, ◌++◌, Option, Some, None, IfSome, arith}
use Rattle.mc_world.specs.Shelf.{Files}
use Rattle.command_line.specs.declared.form.Form.{Form}
use Rattle.command_line.specs.declared.form.Form.TheVariants as form
use Rattle.command_line.specs.Form.{IsInRange, command}
use Rattle.replies.specs.Reply.{Reply}
use Rattle.command.specs.Outcome.{IsAnswer}
use Rattle.trace_commands.specs.declared.action.TraceAction.{TraceAction}
use Rattle.trace_commands.specs.declared.action.TraceAction.TheVariants.{JudgeBy}
use Rattle.promises.specs.Headline.{bytes_of, FindsUnder}
use Rattle.promises.specs.RightText.{WritesAboutUnder}
use Rattle.promises.specs.Complete.{FindsAll}
use Rattle.promises.specs.Promises.{Promises}
use Rattle.promises.proofs.AnswerSteps.{KeepsPromises}
use Rattle.promises.proofs.TaskCommands.{check_keeps}
use Rattle.promises.proofs.RunCommands.{run_keeps, live_keeps, soak_keeps}
use Rattle.promises.proofs.TraceCommands.{trace_keeps}
use Rattle.promises.proofs.PartCommands.{partition_keeps, run_all_keeps}
use Rattle.promises.proofs.StudyCommands.{stretch_keeps, tabulates}
use Rattle.promises.proofs.DemandCommands.{demand_keeps}

-- each answer to a command keeps what the program promises of it: the last line is for `accept`, and for a command with no
-- promise but its definition
form_keeps : (form : Form) → IsInRange form → KeepsPromises form
form_keeps (form.Check c) range = check_keeps c
form_keeps (form.Run c) range = run_keeps c range
form_keeps (form.Live c) range = live_keeps c range
form_keeps (form.Soak c) range = soak_keeps c range
form_keeps (form.Demand c) range = demand_keeps c
form_keeps (form.Partition c) range = partition_keeps c
form_keeps (form.RunAll c) range = run_all_keeps c range
form_keeps (form.Stretch c) range = stretch_keeps c
form_keeps (form.OnTrace c) range = trace_keeps c
form_keeps command range = λ files old reply h. (tt, tt, tt, search (tabulates))

-- each answer to words keeps what the program promises, whether the words have a form or none
pub answer_keeps : (form : Option Form) → IfSome form IsInRange → (files : Files) (old : List ℕ) (reply : Reply) → IsAnswer files 1 (command form) reply
    → Promises form files old reply.status (Some (old ++ reply.text))
answer_keeps None range files old reply h = (tt, tt, tt, tt)
answer_keeps (Some form) range files old reply h = form_keeps form range files old reply h

-- a command on a trace that ran out of memory promises nothing
no_memory_on_trace : (action : TraceAction) (bytes more old : List ℕ) (new : Option (List ℕ))
    → FindsUnder action bytes more old 9 new × WritesAboutUnder action bytes more old 9 new × FindsAll action bytes more 9 × Unit {0}
no_memory_on_trace (JudgeBy p q) bytes more old new = search (arith, inl, inr)
no_memory_on_trace action bytes more old new = search (arith, inl, inr)

-- a call that gave up because memory ran out keeps all that the program promises
pub no_memory_keeps : (form : Option Form) (files : Files) (old : List ℕ) (new : Option (List ℕ)) → Promises form files old 9 new
no_memory_keeps None files old new = (tt, tt, tt, tt)
no_memory_keeps (Some (form.Check c)) files old new = search (arith, inl, inr)
no_memory_keeps (Some (form.OnTrace c)) files old new = no_memory_on_trace c.action (bytes_of files c.tasks) (bytes_of files c.trace) old new
no_memory_keeps (Some command) files old new = search (arith, inl, inr)
