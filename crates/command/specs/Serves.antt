-- What is true after a command was served: of the result, and of the shelf that the command's files are on.
use Rattle.std.specs.Prelude.{◌≡◌, ◌≢◌, ℕ, Result, Ok, Err}
use Rattle.mc_world.specs.Shelf.{ShelfState}
use Rattle.replies.specs.Reply.{Reply}
use Rattle.replies.specs.declared.stop.Stop.{Stop}
use Rattle.replies.specs.Stop.{Replies}
use Rattle.command.specs.Command.{Command}
use Rattle.command.specs.Outcome.{IsOwnReply, ReportsNoFault, AskedInOrder}

-- the result of serving a command whose next file is its file number k: a reply to it, returned as a value
-- or, for a refusal, as an error; or out of memory
pub record Serves (k : ℕ) (command : Command) (before after : ShelfState)
    (result : Result Reply Stop) : Type 0 where
  pub reply : Replies (IsOwnReply k command before after) result
  -- no fetch ran out of memory if there is a reply
  pub memory_faults : Replies (λ reply. after.memory_faults ≡ before.memory_faults) result
  -- even if memory ran out, no file is asked for except the command's, in their order
  pub asked : AskedInOrder command before after

-- the result of serving a command that asks for no file
abbrev pub ServesAlone : Command → Result Reply Stop → Type 0
ServesAlone command result = (shelf : ShelfState) → Serves 1 command shelf shelf result

-- the reply's status is none of 2, 7, 8 and 9: it is not the one for words that name no command, a fault of
-- the shelf, a fault of the sink, or out of memory
pub record IsOwn (reply : Reply) : Type 0 where
  pub faultless : ReportsNoFault reply
  pub other : reply.status ≢ 2

-- the command's files were read and give a job, and each result that replies to the job, with a status that
-- is its own, is the result of serving the command; or the command stopped while its files were read
abbrev pub Prepares : {A : Type 0} → ℕ → Command → (A → Type 0) → (A → Reply → Type 0)
    → ShelfState → ShelfState → Result A Stop → Type 0
Prepares k command IsJob RepliesTo before after (Ok job) =
    IsJob job × ((result : Result Reply Stop) → Replies (RepliesTo job) result → Replies IsOwn result
    → Serves k command before after result)
Prepares k command IsJob RepliesTo before after (Err stop) = Serves k command before after (Err stop)
