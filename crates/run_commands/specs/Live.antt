-- The command `live TASKS TICKS`.
use Rattle.std.specs.Prelude.{◌≡◌, ℕ, List}
use Rattle.mc_model.specs.declared.row.Row.{Row}
use Rattle.mc_model.specs.LiveTrace.{LiveTrace}
use Rattle.replies.specs.Reply.{Reply}
use Rattle.command.specs.Command.{Command, answer, read_or_refuse}
use Rattle.command.specs.Admitted.{admitted, fetch_table}
use Rattle.command.specs.declared.admitted.SetWithRule.{SetWithRule}
use Rattle.run_commands.specs.Run.{traced}

-- the reply is the text of a live trace of this many ticks, of the set under its rule
abbrev pub IsLiveReply : ℕ → SetWithRule → Reply → Type 0
IsLiveReply ticks ruled reply =
    (h : List Row) × LiveTrace ruled.set.tasks ruled.rule ticks h × (reply ≡ traced ruled.set.tasks h)

-- the command `live` on the task file of this name
abbrev pub live : List ℕ → ℕ → Command
live tasks ticks =
    fetch_table tasks (λ bytes. read_or_refuse (admitted bytes) (λ ruled. answer (IsLiveReply ticks ruled)))
