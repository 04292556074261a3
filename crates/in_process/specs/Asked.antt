-- What is asked in process: a few words, and two files named `1` and `2`.
use Rattle.std.specs.Prelude.{ℕ, List, [], ◌∷◌, Some, codes, All, IsUtf8, MatchOption}
use Rattle.mc_world.specs.Shelf.{Files}
use Rattle.mc_world.specs.CalmShelfState.{calm_files}
use Rattle.replies.specs.Reply.{Reply}
use Rattle.command_line.specs.Form.{form_of, command, StartsThreads}
use Rattle.command.specs.Outcome.{IsAnswer}
use Rattle.promises.specs.Promises.{Promises}
use Rattle.in_process.specs.declared.reply.NoReply.{NoReply}
use Rattle.in_process.specs.declared.reply.NoReply.TheVariants.{Memory, Threads, NotText}

-- the files `1` and `2`, each with its bytes
abbrev pub pair : List ℕ → List ℕ → List (List ℕ × List ℕ)
pair first second = (codes "1", first) ∷ (codes "2", second) ∷ []

-- the bytes under each name: those of `1` and `2`, and none under any other
abbrev pub two_files : List ℕ → List ℕ → Files
two_files first second = calm_files (pair first second)

-- the reply is the program's answer to the words over the two files, and keeps what the program promises
pub record IsAnswered (words : List (List ℕ)) (first second : List ℕ) (reply : Reply) : Type 0 where
  pub answer : IsAnswer (two_files first second) 1 (command (form_of words)) reply
  pub promises : Promises (form_of words) (two_files first second) [] reply.status (Some reply.text)

-- the words are a command that starts threads of its own
abbrev pub AskForThreads : List (List ℕ) → Type 0
AskForThreads words = MatchOption (form_of words) ⊥ StartsThreads

-- why there is no reply: the words are a command that starts threads, or one of them is not UTF-8; memory may
-- run out in each call
abbrev pub HasCause : List (List ℕ) → NoReply → Type 0
HasCause words Memory = Unit {0}
HasCause words Threads = AskForThreads words
HasCause words NotText = ¬ (All IsUtf8 words)
