-- What the program promises of each answer, and the law that its answers keep it.
use Rattle.std.specs.Prelude.{ℕ, List, ◌++◌, Option, Some, IfSome}
use Rattle.mc_world.specs.Shelf.{Files}
use Rattle.replies.specs.Reply.{Reply}
use Rattle.command.specs.Outcome.{IsAnswer}
use Rattle.command_line.specs.declared.form.Form.{Form}
use Rattle.command_line.specs.Form.{IsInRange, command}
use Rattle.promises.specs.Headline.{Headline}
use Rattle.promises.specs.RightText.{RightText}
use Rattle.promises.specs.Complete.{Complete}
use Rattle.promises.specs.Tested.{Tested}

-- all that the program promises of a command, by what the files hold, what was written before, the status and
-- what is written after
abbrev pub Promises : Option Form → Files → List ℕ → ℕ → Option (List ℕ) → Type 0
Promises form files old ended new =
    Headline form files old ended new × RightText form files old ended new
    × Complete form files ended × Tested form files old ended new

-- each answer to a command, written whole, keeps all that the program promises of the command
abbrev pub AnswersKeepPromises : Type 0
AnswersKeepPromises = (form : Option Form) (files : Files) (old : List ℕ) (reply : Reply)
    → IfSome form IsInRange → IsAnswer files 1 (command form) reply
    → Promises form files old reply.status (Some (old ++ reply.text))
