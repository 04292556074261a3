-- The command `accept NUMBER SETS TASKCOUNT`: how many random sets have how large a stretch.
use Rattle.std.specs.Prelude.{◌≡◌, ℕ, ◌+◌, List, [], ◌∷◌, ◌++◌, codes, decimal}
use Rattle.study.specs.Acceptance.{accept_table}
use Rattle.replies.specs.Reply.{Reply, reply_of}
use Rattle.command.specs.Command.{Command, answer}

-- a line for each count, with its percentage: s for the first count, and 10 more for each next one
abbrev pub lines_from : ℕ → List ℕ → List ℕ
lines_from s [] = []
lines_from s (count ∷ counts) =
    (decimal s ++ (codes " " ++ (decimal count ++ codes "\n"))) ++ lines_from (s + 10) counts

-- what `accept` writes of a table: a line for each count, the first for 100 percent
abbrev pub table_text : List ℕ → List ℕ
table_text counts = lines_from 100 counts

-- the reply is the table of this many random sets, each of this many tasks, generated from the numbers from
-- this one on; with status 0
abbrev pub IsAcceptReply : ℕ → ℕ → ℕ → Reply → Type 0
IsAcceptReply number sets tasks reply = reply ≡ reply_of 0 (table_text (accept_table number sets tasks))

-- the command `accept` of the first number, the number of sets and the number of tasks
abbrev pub accept : ℕ → ℕ → ℕ → Command
accept number sets tasks = answer (IsAcceptReply number sets tasks)
