-- How the reply to a command comes from the reply to what is left of it after a step.
use Rattle.std.proofs.Common.{◌≡◌, ◌≢◌, inl, inr, ℕ, ◌+◌, ◌≤◌, List, Result, Ok, Err, refl, ap, ◌∙◌, arith}
use Rattle.mc_world.specs.Shelf.{ShelfState}
use Rattle.replies.specs.Reply.{Reply, reply_of}
use Rattle.replies.specs.Refusal.{Refusal, refuse}
use Rattle.replies.specs.declared.stop.Stop.{Stop}
use Rattle.replies.specs.declared.stop.Stop.TheVariants.{Refused, Memory}
use Rattle.replies.specs.Stop.{StopsBy, Replies, ReadsOrRefuses}
use Rattle.command.specs.Command.{Command, answer, fetch, read_or_refuse}
use Rattle.command.specs.Outcome.{HasBytes, IsRefused, IsOwnReply, AddsAtMost, AskedInOrder}
use Rattle.command.specs.Serves.{Serves, IsOwn}

-- over a shelf that stays as it is, no file is asked for
pub not_asked : (command : Command) (before after : ShelfState) → after ≡ before → AskedInOrder command before after
not_asked (answer Is) before after same = ap (λ (s : ShelfState). s.fetches) same
not_asked (fetch name limit next) before after same = inl (inl (ap (λ (s : ShelfState). s.fetches) same))

-- a fact about each reply gives a weaker one
pub Replies-weaker : {P : Reply → Type 0} (Q : Reply → Type 0) (result : Result Reply Stop) → ((reply : Reply) → P reply → Q reply) → Replies P result → Replies Q result
Replies-weaker Q (Ok reply) then is = then reply is
Replies-weaker Q (Err (Refused reply)) then is = (then reply is.0, is.1)
Replies-weaker Q (Err Memory) then is = tt

-- after a value is read, the reply to the rest is the reply to the command
pub serves_need : {A B : Type 0} (k : ℕ) (Is : A → B → Type 0) (read : Result A Refusal) (given : B) (next : A → Command) (before after : ShelfState) (result : Result Reply Stop)
    → ReadsOrRefuses Is read (Ok given) → ((x : A) → Is x given → Serves k (next x) before after result) → Serves k (read_or_refuse read next) before after result
serves_need k Is (Ok x) given next before after result reads then = then x reads
serves_need k Is (Err refusal) given next before after result reads then = absurd reads

-- after a file is fetched, the reply to the rest is the reply to the command
pub serves_fetch : (k : ℕ) (name : List ℕ) (limit : ℕ) (next : List ℕ → Command) (bytes : List ℕ) (before mid after : ShelfState) (result : Result Reply Stop)
    → HasBytes name limit bytes before mid → mid.memory_faults ≡ before.memory_faults → Serves (k + 1) (next bytes) mid after result → Serves k (fetch name limit next) before after result
serves_fetch k name limit next bytes before mid after result has same s = record {
  reply = Replies-weaker {P = IsOwnReply (k + 1) (next bytes) mid after} (IsOwnReply k (fetch name limit next) before after) result
      (λ reply is. (inr (bytes, mid, has, is.0), is.1)) s.reply;
  memory_faults = Replies-weaker {P = λ reply. after.memory_faults ≡ mid.memory_faults} (λ reply. after.memory_faults ≡ before.memory_faults) result (λ reply is. is ∙ same) s.memory_faults;
  asked = inr (bytes, mid, has, s.asked);
}

-- after a value is read of a file, the reply to the rest is the reply to the command
pub serves_read : {A B : Type 0} (k : ℕ) (name : List ℕ) (limit : ℕ) (read : List ℕ → Result A Refusal) (next : A → Command) (Is : A → B → Type 0) (given : B) (bytes : List ℕ) (before mid after : ShelfState)
    (result : Result Reply Stop) → HasBytes name limit bytes before mid → mid.memory_faults ≡ before.memory_faults → ReadsOrRefuses Is (read bytes) (Ok given)
    → ((x : A) → Is x given → Serves (k + 1) (next x) mid after result) → Serves k (fetch name limit (λ bytes. read_or_refuse (read bytes) next)) before after result
serves_read k name limit read next Is given bytes before mid after result has same reads then =
    serves_fetch k name limit (λ bytes. read_or_refuse (read bytes) next) bytes before mid after result has same (serves_need (k + 1) Is (read bytes) given next mid after result reads then)

-- the refusal of a file is the reply to the command that asks for it
pub serves_unfetched : (k : ℕ) (name : List ℕ) (limit : ℕ) (next : List ℕ → Command) (before after : ShelfState) (stop : Stop) → StopsBy (IsRefused k name limit before after) stop
    → StopsBy (λ reply. after.memory_faults ≡ before.memory_faults) stop → AddsAtMost name before after → Serves k (fetch name limit next) before after (Err stop)
serves_unfetched k name limit next before after (Refused reply) refused same asked =
    let other : reply.status ≢ 2 = λ e. elim refused.0 [ inl failed ↦ absurd (omega (arith, e, ap (λ (r : Reply). r.status) failed.1)) | inr long ↦ absurd (omega (arith, e, ap (λ (r : Reply). r.status) long.1)) ] in
    record { reply = ((inl refused.0, other), refused.1); memory_faults = same; asked = inl asked }
serves_unfetched k name limit next before after Memory refused same asked = record { reply = tt; memory_faults = tt; asked = inl asked }

-- an answer is the reply to a command that asks for no file
pub serves_answer : (k : ℕ) (Is : Reply → Type 0) (shelf : ShelfState) (result : Result Reply Stop) → Replies Is result → Replies IsOwn result → Serves k (answer Is) shelf shelf result
serves_answer k Is shelf (Ok reply) is own = record { reply = ((refl, is, own.faultless), own.other); memory_faults = refl; asked = refl }
serves_answer k Is shelf (Err (Refused reply)) is own = record { reply = (((refl, is.0, own.0.faultless), own.0.other), is.1); memory_faults = (refl, is.1); asked = refl }
serves_answer k Is shelf (Err Memory) is own = record { reply = tt; memory_faults = tt; asked = refl }

-- a text with status 0 is the reply to a command whose answer it is
pub serves_text : (k : ℕ) (Is : Reply → Type 0) (shelf : ShelfState) (reply : Reply) (text : List ℕ) → reply ≡ reply_of 0 text → Is reply
    → Serves k (answer Is) shelf shelf (Ok reply)
serves_text k Is shelf reply text same is =
    let status : reply.status ≡ 0 = ap (λ (r : Reply). r.status) same in
    let no : (n : ℕ) → 1 ≤ n → reply.status ≢ n = λ n some e. absurd (omega (arith, status, some, e)) in
    serves_answer k Is shelf (Ok reply) is (record { faultless = record { read = no 7 (omega arith); write = no 8 (omega arith); memory = no 9 (omega arith) }; other = no 2 (omega arith) })

-- the refusal of a value is the reply to the command that needs it
pub serves_refused : {A B : Type 0} (k : ℕ) (Is : A → B → Type 0) (read : Result A Refusal) (next : A → Command) (shelf : ShelfState) (stop : Stop)
    → ReadsOrRefuses Is read (Err stop) → StopsBy IsOwn stop → Serves k (read_or_refuse read next) shelf shelf (Err stop)
serves_refused k Is (Err refusal) next shelf stop refuses own = serves_answer k (λ reply. reply ≡ refuse refusal) shelf (Err stop) refuses own
serves_refused k Is (Ok x) next shelf (Refused reply) refuses own = absurd cc
serves_refused k Is (Ok x) next shelf Memory refuses own = record { reply = tt; memory_faults = tt; asked = not_asked (next x) shelf shelf refl }
