-- What a handle owns: the scheduler or the monitor that its pointer leads to, if it holds one. And what a call does that opens
-- it, changes what it holds, or reads it.
pub mod Lending
use Rattle.std.specs.Prelude.{◌≡◌, ◌≢◌, ◌↔◌, ℕ, Bool, true, false, Option, Some, None, IsSome, IsSomeAnd, MatchOption}
use Rattle.std.specs.Coded.{Coded, coded_option}
use base.Fml.{Fml, ftrue}
use denote.RawPtr.{Ptr}
use Rattle.std.specs.Box.Ownership.{box_owns}
use Rattle.std.specs.Global.{Global}
use Rattle.std_heap.specs.contracts.GlobalAllocator.TheImpl.{ghosts}
use Rattle.edfvd_c.specs.contracts.handle.held.Held.{the_row}
use Rattle.edfvd_c.specs.declared.handle.held.Held.{Held}
use Rattle.edfvd_c.specs.declared.handle.held.Held.TheVariants as held
use Rattle.mc_model.specs.Core.{State}
use Rattle.restart.specs.Restarted.{Restarted}
use Rattle.trace_judge.specs.Watched.{Watched}
use Rattle.edfvd_c.specs.declared.scheduler.event.CAnswer.{CAnswer}
use Rattle.edfvd_c.specs.Scheduler.Event.{Returned, nothing}
use Rattle.edfvd_c.specs.Scheduler.Latest.{latest_from}
use Rattle.edfvd_c.specs.Status.{OK, CLOSED, OPEN}

-- what a handle owns: nothing, or the memory that its pointer leads to, with a scheduler or a monitor in it
abbrev pub block_owns : Global → Ptr → Option Held → Fml
block_owns alloc at None = ftrue
block_owns alloc at (Some x) = box_owns (ghosts.dealloc_token alloc) the_row at x

-- how what a handle holds is stored in proofs
abbrev pub held_coded : Coded (Option Held)
held_coded = coded_option the_row.coded

-- the scheduler that a handle holds, if it holds one
abbrev pub scheduler_of : Option Held → Option Restarted
scheduler_of (Some (held.Core s)) = Some s
scheduler_of (Some (held.Endless s)) = Some s
scheduler_of other = None

-- the state of the scheduler that a handle holds, since its counts began
abbrev pub core_of : Option Held → Option State
core_of (Some (held.Core s)) = Some s.core
core_of (Some (held.Endless s)) = Some s.core
core_of other = None

-- whether a handle holds a scheduler without an end
abbrev pub is_endless : Option Held → Bool
is_endless (Some (held.Endless s)) = true
is_endless other = false

-- the number of the oldest row that is kept: a scheduler without an end keeps its latest 256 runs of equal rows, and any other
-- keeps each row
abbrev pub kept_from : Option Held → ℕ
kept_from (Some (held.Endless s)) = latest_from s.core.rows
kept_from other = 0

-- the monitor that a handle holds, if it holds one
abbrev pub monitor_of : Option Held → Option Watched
monitor_of (Some (held.Monitor w)) = Some w
monitor_of other = None

-- the mark of an open handle: the letters edfvd_op in ASCII, the first of them in the highest byte of the number
abbrev pub open_mark : ℕ
open_mark = 7306077154177937264

-- with the mark of an open handle a scheduler or a monitor is held, and with any other mark nothing
abbrev pub IsMarked : ℕ → Option Held → Type 0
IsMarked mark h = (mark ≡ open_mark → IsSome h) × (mark ≢ open_mark → h ≡ None)

-- what a handle holds before and after a call that opens it: the status is OPEN exactly if the handle held something before; with OK
-- the handle holds what was made, and with any other status what it held
pub record Opens (old new : Option Held) (status : ℕ) (IsMade : Held → Type 0) : Type 0 where
  pub is_open : (status ≡ OPEN) ↔ IsSome old
  pub made : status ≡ OK → IsSomeAnd new IsMade
  pub same : status ≢ OK → new ≡ old

-- an event through a handle: with a closed one the status is CLOSED and it stays closed; with an open one its scheduler
-- says what is returned, and how it is after
abbrev pub Does : Option Restarted → Option Restarted → ℕ → CAnswer → (Restarted → Returned) → (Restarted → Restarted) → Type 0
Does old new status answer returns after =
    MatchOption old ((new ≡ None) × (status ≡ CLOSED) × (answer ≡ nothing))
    (λ s. (new ≡ Some (after s)) × (status ≡ (returns s).0) × (answer ≡ (returns s).1))

-- what is read through a handle: with a closed one the status is CLOSED with nothing, and with an open one what it holds
-- says what is returned
abbrev pub Reads : {S T : Type 0} → Option S → ℕ → T → T → (S → ℕ × T) → Type 0
Reads held status found nothing returns =
    MatchOption held ((status ≡ CLOSED) × (found ≡ nothing)) (λ s. (status ≡ (returns s).0) × (found ≡ (returns s).1))
