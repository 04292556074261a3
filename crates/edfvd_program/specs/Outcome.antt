-- What is true after a call of the program, whose words have a form or none: its reply, the files it fetched,
-- the bytes it wrote. The first two arguments are how contracts see its shelf and its sink.
use Rattle.std.specs.Prelude.{◌≡◌, ◌≢◌, ◌⊎◌, ℕ, List, ◌++◌, Option, Some}
use Rattle.mc_world.specs.Count.{Rose}
use Rattle.mc_world.specs.Shelf.{Files, ShelfState}
use Rattle.mc_world.specs.Sink.{SinkState}
use Rattle.replies.specs.Reply.{Reply}
use Rattle.replies.specs.Refusal.{ReadFault, refuse}
use Rattle.command_line.specs.declared.form.Form.{Form}
use Rattle.command.specs.Outcome.{IsAnswer, Exposes}
use Rattle.command.specs.Written.{IsWritten, IsCutShort}
use Rattle.command_line.specs.Form.{form_in, command}
use Rattle.promises.specs.Reply.{IsReply}
use Rattle.edfvd_program.specs.declared.edfvd.Call.{Call}

-- the program ended with status 9, out of memory, and nothing was written; or a reply of which this holds was
-- written, whole or up to a fault of the sink
abbrev pub Ends : (Reply → Type 0) → SinkState → SinkState → ℕ → Type 0
Ends Is before after ended =
    ((ended ≡ 9) × (after ≡ before))
    ⊎ ((reply : Reply) × Is reply
    × (IsWritten reply ended before after ⊎ IsCutShort reply ended before after))

-- the command's answer for these files was written whole after the bytes that were there, and the status is
-- the answer's; or memory ran out, with status 9, and nothing was written
abbrev pub WritesAnswer : Option Form → Files → List ℕ → ℕ → Option (List ℕ) → Type 0
WritesAnswer form files old ended new =
    ((ended ≡ 9) × (new ≡ Some old))
    ⊎ ((reply : Reply) × IsAnswer files 1 (command form) reply
    × (ended ≡ reply.status) × (new ≡ Some (old ++ reply.text)))

-- what is true after each call of the program: out of memory, or a reply to the words was written, whole or
-- up to a fault
abbrev pub Outcome : {S K : Type 0} → (S → ShelfState) → (K → SinkState) → Call S K → Call S K → ℕ → Type 0
Outcome shelf sink before after ended =
    Ends (IsReply (form_in before.words.now) (shelf before.shelf) (shelf after.shelf))
    (sink before.out) (sink after.out) ended

-- what is true after a call in which no fetch failed: out of memory, or a reply to the words that reports no
-- read fault was written, whole or up to a fault
abbrev pub CalmOutcome : {S K : Type 0} → (S → ShelfState) → (K → SinkState) → Call S K → Call S K → ℕ
    → Type 0
CalmOutcome shelf sink before after ended =
    Ends (λ reply. IsReply (form_in before.words.now) (shelf before.shelf) (shelf after.shelf) reply
    × ((k : ℕ) → reply ≢ refuse (ReadFault k)))
    (sink before.out) (sink after.out) ended

-- where the shelf exposes its files, the sink exposes what was written, and neither fails, a statement holds
-- of the form of the words, the files, the bytes written before the call, the status, and the bytes written
-- after the call
abbrev pub WhereReported : {S K : Type 0} → (S → ShelfState) → (K → SinkState)
    → (Option Form → Files → List ℕ → ℕ → Option (List ℕ) → Type 0) → Call S K → Call S K → ℕ → Type 0
WhereReported shelf sink Is before after ended =
    (files : Files) (old : List ℕ) → Exposes files (shelf before.shelf) (shelf after.shelf)
    → (sink before.out).written ≡ Some old → (Rose (sink before.out).faults (sink after.out).faults → ⊥)
    → Is (form_in before.words.now) files old ended (sink after.out).written
