-- The command `partition TASKS M`.
use Rattle.std.specs.Prelude.{◌≡◌, ℕ, List, ◌++◌, flat_map, codes, decimal}
use Rattle.std.specs.List.{range_with_len}
use Rattle.mc_task.specs.declared.task.Task.{Task}
use Rattle.replies.specs.Reply.{reply_of}
use Rattle.command.specs.Command.{Command, answer, read_or_refuse}
use Rattle.command.specs.Admitted.{fetch_table}
use Rattle.part_commands.specs.Parted.{Parted, tasks_on, parted}

-- the names of the tasks, each after a space
abbrev pub spaced_names : List Task → List ℕ
spaced_names tasks = flat_map (λ t. codes " " ++ t.name) tasks

-- the line of processor n, which names its tasks
abbrev pub processor_line : Parted → ℕ → List ℕ
processor_line parted n =
    codes "processor " ++ (decimal n ++ (spaced_names (tasks_on parted n) ++ codes "\n"))

-- the lines of processors 1 to m
abbrev pub partition_text : ℕ → Parted → List ℕ
partition_text m parted = flat_map (processor_line parted) (range_with_len 1 m)

-- the command `partition` on the task file of this name, for processors 1 to m: it writes the processors with
-- their tasks
abbrev pub partition : List ℕ → ℕ → Command
partition tasks m = fetch_table tasks (λ bytes.
    read_or_refuse (parted m bytes) (λ spread. answer (λ reply. reply ≡ reply_of 0 (partition_text m spread))))
