-- The answer to a command, followed step by step: what the files say, if the reply's status is none of their refusals; and which
-- reply comes of what the files say.
use Rattle.std.proofs.Common.{◌≡◌, ◌≢◌, ℕ, ◌+◌, ◌≤◌, ◌^◌, nat_lt, Bool, true, false, List, [], ◌++◌, length, Option, Some, None, Result, Ok, Err, refl, ap, ◌∙◌, subst, ltb-false, le-ltb}
use Rattle.std.specs.Prelude.{MatchBool, IsSomeAnd, unwrap_or}
use Rattle.mc_world.specs.Shelf.{Files}
use Rattle.mc_task.specs.TaskSet.{Set}
use Rattle.task_file.specs.TaskFile.{task_file}
use Rattle.replies.specs.Reply.{Reply}
use Rattle.replies.specs.Refusal.{Refusal, TaskFile, Longer, status_of, refuse}
use Rattle.replies.specs.Reading.{◌>>=◌, refused_as}
use Rattle.command.specs.Command.{Command, fetch, read_or_refuse}
use Rattle.command.specs.Outcome.{IsAnswer}
use Rattle.command.specs.Admitted.{set_in}
use Rattle.command_line.specs.declared.form.Form.{Form}
use Rattle.command_line.specs.Form.{command}
use Rattle.promises.specs.Headline.{bytes_of, SaysSet}
use Rattle.promises.specs.Promises.{Promises}

-- each answer to a command of this form, written whole, keeps what the program promises of the command
abbrev pub KeepsPromises : Form → Type 0
KeepsPromises form =
    (files : Files) (old : List ℕ) (reply : Reply) → IsAnswer files 1 (command (Some form)) reply → Promises (Some form) files old reply.status (Some (old ++ reply.text))

-- equal replies have the same status
pub same_status : {reply other : Reply} → reply ≡ other → reply.status ≡ other.status
same_status same = ap (λ (r : Reply). r.status) same

-- equal replies, written after the same bytes, leave the same bytes
pub same_written : (old : List ℕ) {reply other : Reply} → reply ≡ other → Some (old ++ reply.text) ≡ Some (old ++ other.text)
same_written old same = ap (λ (r : Reply). Some (old ++ r.text)) same

-- what is so of the bytes of a file that exists
bytes_have : (f : Option (List ℕ)) (P : List ℕ → Type 0) → IsSomeAnd f P → P (unwrap_or f [])
bytes_have None P h = absurd h
bytes_have (Some bytes) P h = h

-- the command that fetches a task file, decides something of the set in it, and goes on with `next` for that
abbrev pub on_set : {A : Type 0} → List ℕ → (Set → Result A Refusal) → (A → Command) → Command
on_set tasks decide next = fetch tasks (2 ^ 24) (λ bytes. read_or_refuse (set_in bytes >>= decide) next)

module _ (files : Files) (reply : Reply) where
  -- a reply by what a reader returned, whose status is none of the reader's refusals: the reader returned a value, and the reply
  -- is an answer by that value
  reader_accepts : {A E : Type 0} (k : ℕ) (f : E → Refusal) (read : Result A E) (next : A → Command) → IsAnswer files k (read_or_refuse (refused_as f read) next) reply
      → ((e : E) → reply.status ≢ status_of (f e)) → (x : A) × (read ≡ Ok x) × IsAnswer files k (next x) reply
  reader_accepts k f (Ok x) next h other = (x, refl, h)
  reader_accepts k f (Err e) next h other = absurd (other e (same_status h))

  -- a reply by two steps of reading in one is also one by the first step and then the second
  pub one_by_one : {A B : Type 0} (k : ℕ) (read : Result A Refusal) (f : A → Result B Refusal) (next : B → Command) → IsAnswer files k (read_or_refuse (read >>= f) next) reply
      → IsAnswer files k (read_or_refuse read (λ x. read_or_refuse (f x) next)) reply
  one_by_one k (Ok x) f next h = h
  one_by_one k (Err refusal) f next h = h

  -- a reply to a command that fetches a file
  module _ (k limit : ℕ) (name : List ℕ) (next : List ℕ → Command) (h : IsAnswer files k (fetch name limit next) reply) where
    -- where it is decided whether the file is longer than its limit, the reply reports that it is, or is an answer by its bytes
    by_length : (b : Bool) → nat_lt limit (length (bytes_of files name)) ≡ b → MatchBool b (reply ≡ refuse (Longer k limit)) (IsAnswer files (k + 1) (next (bytes_of files name)) reply)
    by_length b is =
        subst (λ b. MatchBool b (reply ≡ refuse (Longer k limit)) (IsAnswer files (k + 1) (next (bytes_of files name)) reply)) is
        (bytes_have (files name) (λ bytes. MatchBool (nat_lt limit (length bytes)) (reply ≡ refuse (Longer k limit)) (IsAnswer files (k + 1) (next bytes) reply)) h)

    -- if the status is not that of a file that is too long, the file is within its limit, and the reply is an answer by its bytes
    pub fetch_accepts : reply.status ≢ 7 → (length (bytes_of files name) ≤ limit) × IsAnswer files (k + 1) (next (bytes_of files name)) reply
    fetch_accepts not_7 = go (nat_lt limit (length (bytes_of files name))) refl
      where
        go : (b : Bool) → nat_lt limit (length (bytes_of files name)) ≡ b → (length (bytes_of files name) ≤ limit) × IsAnswer files (k + 1) (next (bytes_of files name)) reply
        go true is = absurd (not_7 (same_status (by_length true is)))
        go false is = (ltb-false _ _ is, by_length false is)

    -- if the file is within its limit, the reply is an answer by its bytes
    pub answer_by_bytes : length (bytes_of files name) ≤ limit → IsAnswer files (k + 1) (next (bytes_of files name)) reply
    answer_by_bytes short = by_length false (le-ltb limit (length (bytes_of files name)) short)

  -- a reply to a command that fetches a file and reads it
  module _ {A E : Type 0} (k limit : ℕ) (name : List ℕ) (f : E → Refusal) (read : List ℕ → Result A E) (next : A → Command)
      (h : IsAnswer files k (fetch name limit (λ bytes. read_or_refuse (refused_as f (read bytes)) next)) reply) where
    -- if the status is none of the file's refusals, the file says a value, within its limit, and the reply is an answer by it
    pub file_says : reply.status ≢ 7 → ((e : E) → reply.status ≢ status_of (f e))
        → (x : A) × ((length (bytes_of files name) ≤ limit) × (read (bytes_of files name) ≡ Ok x)) × IsAnswer files (k + 1) (next x) reply
    file_says not_7 other =
        let (short, by_bytes) = fetch_accepts k limit name (λ bytes. read_or_refuse (refused_as f (read bytes)) next) h not_7 in
        let (x, is, by_value) = reader_accepts (k + 1) f (read (bytes_of files name)) next by_bytes other in (x, (short, is), by_value)

    -- if the file says a value, within its limit, the reply is an answer by it
    pub answer_by_file : (x : A) → (length (bytes_of files name) ≤ limit) × (read (bytes_of files name) ≡ Ok x) → IsAnswer files (k + 1) (next x) reply
    answer_by_file x says =
        subst (λ r. IsAnswer files (k + 1) (read_or_refuse (refused_as f r) next) reply) says.1
        (answer_by_bytes k limit name (λ bytes. read_or_refuse (refused_as f (read bytes)) next) h says.0)

  -- a reply to a command that decides something of the set in a task file
  module _ {A : Type 0} (tasks : List ℕ) (decide : Set → Result A Refusal) (next : A → Command) (h : IsAnswer files 1 (on_set tasks decide next) reply) where
    -- if the status is none of the file's refusals, the file says a set, and the reply is an answer by what is decided of it
    pub file_says_set : reply.status ≢ 7 → reply.status ≢ 3 → (set : Set) × SaysSet (bytes_of files tasks) set × IsAnswer files 2 (read_or_refuse (decide set) next) reply
    file_says_set not_7 not_3 =
        let bytes = bytes_of files tasks in
        let (short, by_bytes) = fetch_accepts 1 (2 ^ 24) tasks (λ bytes. read_or_refuse (set_in bytes >>= decide) next) h not_7 in
        let (set, is, by_set) = reader_accepts 2 TaskFile (task_file bytes) (λ set. read_or_refuse (decide set) next) (one_by_one 2 (set_in bytes) decide next by_bytes) (λ fault. not_3) in
        (set, (short, is), by_set)

    -- if the file says a set, the reply is an answer by what is decided of it
    pub answer_by_set : (set : Set) (r : Result A Refusal) → SaysSet (bytes_of files tasks) set → decide set ≡ r → IsAnswer files 2 (read_or_refuse r next) reply
    answer_by_set set r says is =
        subst (λ x. IsAnswer files 2 (read_or_refuse x next) reply) (ap (λ read. refused_as TaskFile read >>= decide) says.1 ∙ is)
        (answer_by_bytes 1 (2 ^ 24) tasks (λ bytes. read_or_refuse (set_in bytes >>= decide) next) h says.0)
