-- What is read of files, step by step: each step gives a value, or the refusal that ends the command.
use Rattle.std.specs.Prelude.{ℕ, List, Option, Some, None, Result, Ok, Err}
pub use Rattle.mc_task.specs.Refusals.{◌>>=◌}
use Rattle.replies.specs.Reply.{Reply, reply_of}
use Rattle.replies.specs.Refusal.{Refusal, refuse}

-- the value that a reader read, or the refusal that is made of its fault
abbrev pub refused_as : {A E : Type 0} → (E → Refusal) → Result A E → Result A Refusal
refused_as refusal (Ok x) = Ok x
refused_as refusal (Err fault) = Err (refusal fault)

-- no refusal where the option is None; otherwise the refusal that is made of the option's value
abbrev pub none_or : {A : Type 0} → (A → Refusal) → Option A → Result (Unit {0}) Refusal
none_or refusal None = Ok tt
none_or refusal (Some x) = Err (refusal x)

-- the reply by a text or a refusal: the text with status 0, or the refusal's own status and text
abbrev pub reply_by : Result (List ℕ) Refusal → Reply
reply_by (Ok text) = reply_of 0 text
reply_by (Err refusal) = refuse refusal
