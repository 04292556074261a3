-- What a command asked in process leaves in the caller's memory, and why it returns each status.
use Rattle.std.specs.Prelude.{◌≡◌, ◌≢◌, ◌⊎◌, ◌<◌, ◌≤◌, ℕ, List, ◌++◌, length, drop, All, IsUtf8}
use Rattle.replies.specs.Reply.{Reply}
use Rattle.in_process.specs.Asked.{IsAnswered, AskForThreads}
use Rattle.in_process.specs.declared.reply.NoReply.{NoReply}
use Rattle.in_process.specs.declared.reply.NoReply.TheVariants.{Memory, Threads, NotText}

-- the status where there is no reply
abbrev pub no_reply_status : NoReply → ℕ
no_reply_status Memory = 9
no_reply_status NotText = 43
no_reply_status Threads = 45

-- the program's reply to the words over the two files is stored: its status, its length, and its text at the
-- start of the buffer, where it fits; the rest of the buffer is as it was
abbrev pub IsReplied : List (List ℕ) → List ℕ → List ℕ → ℕ → ℕ → List ℕ → List ℕ → Type 0
IsReplied words first second ended len old new =
    (reply : Reply) × IsAnswered words first second reply
    × (ended ≡ reply.status) × (len ≡ length reply.text)
    × (len ≤ length old) × (new ≡ reply.text ++ drop len old)

-- the text of the program's reply has this length, which exceeds the capacity of the buffer
abbrev pub IsTooLong : List (List ℕ) → List ℕ → List ℕ → ℕ → ℕ → Type 0
IsTooLong words first second len capacity =
    (reply : Reply) × IsAnswered words first second reply × (len ≡ length reply.text) × (capacity < len)

-- what a call with these words and files means by its status, and what it leaves in the numbers and the
-- buffer. A call that does not run out of memory returns 43 exactly if a word is not UTF-8; otherwise 45 exactly
-- if the words are a command that starts threads; otherwise 44 exactly if the text exceeds the buffer, and 0 if
-- it fits
pub record Asks (words : List (List ℕ)) (first second : List ℕ) (status ended len : ℕ)
    (old new : List ℕ) : Type 0 where
  pub replied : status ≡ 0 → IsReplied words first second ended len old new
  pub short : status ≡ 44 → IsTooLong words first second len (length old)
  -- a command that starts threads gets no reply, and status 45 if each word is UTF-8
  pub threads : status ≡ 45 → AskForThreads words × All IsUtf8 words
  pub alone : (status ≡ 0) ⊎ (status ≡ 44) → ¬ AskForThreads words
  -- a word that is not UTF-8 gets no reply, and status 43
  pub not_text : status ≡ 43 → ¬ (All IsUtf8 words)
  pub text : (status ≡ 0) ⊎ (status ≡ 44) → All IsUtf8 words
  -- only these statuses are returned; 9 is out of memory
  pub only : (status ≡ 0) ⊎ (status ≡ 9) ⊎ (status ≡ 43) ⊎ (status ≡ 44) ⊎ (status ≡ 45)
  -- with any status but 0 the buffer is as it was, and the exit status is 0
  pub untouched : status ≢ 0 → (new ≡ old) × (ended ≡ 0)
  -- the length is 0 if no text was found that has one
  pub no_length : status ≢ 0 → status ≢ 44 → len ≡ 0
