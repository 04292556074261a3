-- What a command is: it gives its answer, or it asks for a file and continues with the file's bytes.
use Rattle.std.specs.Prelude.{◌≡◌, ℕ, List, Result, Ok, Err}
use Rattle.replies.specs.Reply.{Reply}
use Rattle.replies.specs.Refusal.{Refusal, refuse}

-- a command: it gives its answer, a reply that must satisfy this; or it asks for a file by its name and the
-- most bytes that the file may have, and continues as the command that the file's bytes determine
pub data Command : Type 1 where
  answer : (Reply → Type 0) → Command
  fetch : (name : List ℕ) (limit : ℕ) → (List ℕ → Command) → Command

-- the command that continues with the value that was read, or, if reading was refused, replies with that
-- refusal
abbrev pub read_or_refuse : {A : Type 0} → Result A Refusal → (A → Command) → Command
read_or_refuse (Ok x) next = next x
read_or_refuse (Err refusal) next = answer (λ reply. reply ≡ refuse refusal)
