-- The calls of one task whose jobs end by their needs.
use Rattle.std.specs.Prelude.{◌≡◌, ℕ, ◌+◌, ◌==◌, List, [], ◌∷◌, Option, Some, Ok, IfSome, ⊤}
use Rattle.mode_core.specs.declared.answers.Granted.{Granted}
use Rattle.executive.specs.declared.entry.Call.{Call}
use Rattle.executive.specs.declared.entry.Call.TheVariants.{Outcome}
use Rattle.executive.specs.declared.entry.Answer.{Answer}
use Rattle.executive.specs.declared.entry.Answer.TheVariants.{Taken}
use Rattle.executive.specs.declared.entry.Entry.{Entry}

-- the last grant of the task, after a call with this answer
abbrev pub granted_then : Answer → Option Granted → Option Granted
granted_then (Taken (Ok g)) was = Some g
granted_then _ was = was

-- the last grant of the task, after these calls
abbrev pub granted_last : Option Granted → List Entry → Option Granted
granted_last was [] = was
granted_last was (e ∷ es) = granted_last (granted_then e.answer was) es

-- an outcome is done exactly if the job that was granted last has, with this tick, had the ticks that it
-- needs by its number
abbrev pub IsByNeed : (ℕ → ℕ) → Option Granted → Call → Type 0
IsByNeed need last (Outcome done) = IfSome last (λ g. done ≡ (g.before + 1 == need g.job.count))
IsByNeed need last _ = ⊤

-- each outcome among these calls is done exactly if the job that was granted last has had the ticks that it
-- needs
abbrev pub AreByNeed : (ℕ → ℕ) → Option Granted → List Entry → Type 0
AreByNeed need was [] = ⊤
AreByNeed need was (e ∷ es) = IsByNeed need was e.call × AreByNeed need (granted_then e.answer was) es
