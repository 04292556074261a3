use Rattle.std.proofs.Common.{◌≡◌, ℕ, ◌+◌, List, ◌++◌, drop, length, slice_get, Some, sym, ap, ◌∙◌, append_assoc, refl}
use Rattle.std.specs.Prelude.{codes}
use Rattle.std.proofs.lemmas.Option.{slice_get_read}
use Rattle.mc_task.specs.declared.task.Task.{Task}
use Rattle.mc_model.proofs.Walk.{drop_at}
use Rattle.part_commands.specs.Partition.{spaced_names}
use Rattle.part_commands.proofs.partition.add_names.Goals as goal

-- after a space and the name of the task at an index, the names of the tasks after it are left to write
names-more : (tasks : List Task) (i : ℕ) (t : Task) (line spaced more whole : List ℕ) → slice_get tasks i ≡ Some t → line ++ spaced_names (drop i tasks) ≡ whole → spaced ≡ line ++ codes " "
    → more ≡ spaced ++ t.name → more ++ spaced_names (drop (i + 1) tasks) ≡ whole
names-more tasks i t line spaced more whole task inv space name =
    let rest : List ℕ = spaced_names (drop (i + 1) tasks) in
    let grows : more ≡ line ++ (codes " " ++ t.name) = name ∙ ap (λ l. l ++ t.name) space ∙ append_assoc line (codes " ") t.name in
    let here : spaced_names (drop i tasks) ≡ (codes " " ++ t.name) ++ rest = ap spaced_names (drop_at tasks i t task) in
    ap (λ l. l ++ rest) grows ∙ append_assoc line (codes " " ++ t.name) rest ∙ sym (ap (λ l. line ++ l) here) ∙ inv

pub loop-task-preserved : goal.loop-task-preserved
loop-task-preserved c =
    let tasks = c.args.tasks.now in
    let i = c.loop-task.task-index in
    names-more tasks i c.task-item.result c.loop-task.line.items _ _ _ (slice_get_read tasks (length tasks) i c.task-item.result refl c.loop-task-test.true c.task-item.is) c.loop-task.invariant
    c.in_ok-push.ensures.items (c.in_ok-extend_from_slice.ensures.items ∙ ap (λ l. c.push.new.self.items ++ l) c.bytes.ensures.value)
