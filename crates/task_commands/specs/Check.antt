-- The command `check TASKS`.
use Rattle.std.specs.Prelude.{◌≡◌, ℕ, List}
use Rattle.mc_model.specs.CheckText.{check_text}
use Rattle.replies.specs.Reply.{reply_of}
use Rattle.command.specs.Command.{Command, answer, read_or_refuse}
use Rattle.command.specs.Admitted.{admitted, fetch_table}

-- the command `check` on the task file of this name: it writes the loads of the set and its rule, if the test
-- admits it
abbrev pub check : List ℕ → Command
check tasks = fetch_table tasks (λ bytes.
    read_or_refuse (admitted bytes) (λ ruled. answer (λ reply. reply ≡ reply_of 0 (check_text ruled.set ruled.rule))))
