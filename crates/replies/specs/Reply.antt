-- What the program replies: a status and a text.
use Rattle.std.specs.Prelude.{ℕ, List}

-- the status that the program ends with, and the bytes that it writes
pub record Reply : Type 0 where
  pub status : ℕ
  pub text : List ℕ

-- the reply with this status and text
abbrev pub reply_of : ℕ → List ℕ → Reply
reply_of status text = record { status = status; text = text }
