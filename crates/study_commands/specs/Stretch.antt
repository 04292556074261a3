-- The command `stretch TASKS`: by how much the high budgets of a set could be greater.
use Rattle.std.specs.Prelude.{◌≡◌, ℕ, ◌+◌, nat_lt, if◌then◌else◌, List, [], ◌++◌, codes, decimal, Option, None, Some}
use Rattle.mc_task.specs.declared.task.Task.{Task}
use Rattle.tick_frac.specs.Fraction.{lowest, fraction_text}
use Rattle.mc_model.specs.Loads.{product, load_hh, range_fault}
use Rattle.study.specs.Stretch as room
use Rattle.study.specs.Stretch.{at_percent}
use Rattle.replies.specs.Reply.{reply_of}
use Rattle.replies.specs.Refusal.{OutOfRange}
use Rattle.replies.specs.Reading.{none_or}
use Rattle.command.specs.Command.{Command, answer, read_or_refuse}
use Rattle.command.specs.Admitted.{set_in, fetch_table}

-- the line of U_HH at s percent of the high budgets
unfoldable pub high_line : List Task → ℕ → List ℕ
high_line set s =
    codes "U_HH "
    ++ (fraction_text (lowest (load_hh (at_percent set s)) (product (at_percent set s)))
    ++ (codes " at " ++ (decimal s ++ codes "\n")))

-- what `stretch` writes of a percentage s: s, the load U_HH at s percent, and that at one percent more where
-- this is at most 1000; where there is no such percentage, the load at 0 percent
abbrev pub stretch_text : List Task → Option ℕ → List ℕ
stretch_text set None = codes "stretch none\n" ++ high_line set 0
stretch_text set (Some s) =
    codes "stretch " ++ (decimal s ++ (codes "\n"
    ++ (high_line set s ++ (if nat_lt s 1000 then high_line set (s + 1) else []))))

-- the command `stretch` on the task file of this name, whose set must have periods within range
abbrev pub stretch : List ℕ → Command
stretch tasks = fetch_table tasks (λ bytes.
    read_or_refuse (set_in bytes) (λ set.
    read_or_refuse (none_or OutOfRange (range_fault set.tasks)) (λ none.
    answer (λ reply. reply ≡ reply_of 0 (stretch_text set.tasks (room.stretch set.tasks))))))
