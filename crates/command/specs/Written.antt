-- How a reply is written.
use Rattle.std.specs.Prelude.{◌≡◌, ℕ, ◌≤◌, ◌++◌, length, take, List, option_map}
use Rattle.mc_world.specs.Count.{one_more}
use Rattle.mc_world.specs.Sink.{SinkState}
use Rattle.replies.specs.Reply.{Reply}

-- the first n bytes of the text were written, where the sink exposes its bytes
abbrev pub Wrote : ℕ → List ℕ → SinkState → SinkState → Type 0
Wrote n text before after = after.written ≡ option_map (λ bytes. bytes ++ take n text) before.written

-- the reply was written whole, without a fault, and the program ended with the reply's status
pub record IsWritten (reply : Reply) (ended : ℕ) (before after : SinkState) : Type 0 where
  pub status : ended ≡ reply.status
  pub text : Wrote (length reply.text) reply.text before after
  pub faults : after.faults ≡ before.faults

-- the sink failed after some first bytes of the reply, nothing was written after the fault, and the program
-- ended with status 8
pub record IsCutShort (reply : Reply) (ended : ℕ) (before after : SinkState) : Type 0 where
  pub status : ended ≡ 8
  pub text : (n : ℕ) × (n ≤ length reply.text) × Wrote n reply.text before after
  pub once : after.faults ≡ one_more before.faults
  pub last : after.since_fault ≡ 0
