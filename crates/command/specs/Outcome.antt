-- Which replies a command may get, and which files may be fetched for it.
use Rattle.std.specs.Prelude.{◌≡◌, ◌≢◌, ◌⊎◌, ℕ, ◌+◌, ◌<◌, ◌≤◌, nat_lt, MatchBool, Bool, true, false, List, [], ◌∷◌, ◌++◌, length, None, Some, option_map, IfSome, IsSomeAnd}
use Rattle.mc_world.specs.Count.{Rose, RoseByMoreThan}
use Rattle.mc_world.specs.Shelf.{Files, fetch_of, ShelfState}
use Rattle.replies.specs.Reply.{Reply}
use Rattle.replies.specs.Refusal.{ReadFault, Longer, refuse}
use Rattle.command.specs.Command.{Command, answer, fetch}

-- where the shelf exposes its fetches, there is one more at their end: of this name, failed or not
abbrev pub AddsFetch : List ℕ → Bool → ShelfState → ShelfState → Type 0
AddsFetch name failed before after =
    after.fetches ≡ option_map (λ fetches. fetches ++ fetch_of name failed ∷ []) before.fetches

-- a fetch of the file failed: the shelf's count of faults rose, and its list of fetches has one more, which
-- failed
pub record IsFailed (name : List ℕ) (before after : ShelfState) : Type 0 where
  pub rose : Rose before.faults after.faults
  pub adds : AddsFetch name true before after

-- the file is longer than its limit: its bytes are, where the shelf exposes its files, and where it does not,
-- more bytes than the limit were read
pub record IsLonger (name : List ℕ) (limit : ℕ) (before after : ShelfState) : Type 0 where
  pub exposed : IfSome before.holds (λ files. IsSomeAnd (files name) (λ bytes. limit < length bytes))
  pub hidden : before.holds ≡ None → RoseByMoreThan limit before.bytes_read after.bytes_read
  pub calm : after.faults ≡ before.faults
  pub adds : AddsFetch name false before after

-- the fetch gave these bytes, no more than the limit; where the shelf exposes its files, they are the bytes
-- of the file
pub record HasBytes (name : List ℕ) (limit : ℕ) (bytes : List ℕ) (before after : ShelfState) : Type 0 where
  pub exposed : IfSome before.holds (λ files. files name ≡ Some bytes)
  pub short : length bytes ≤ limit
  pub calm : after.faults ≡ before.faults
  pub adds : AddsFetch name false before after
  pub same : after.holds ≡ before.holds

-- the reply's status is none of 7, 8 and 9: it is not the one for a fault of the shelf, a fault of the sink,
-- or out of memory
pub record ReportsNoFault (reply : Reply) : Type 0 where
  pub read : reply.status ≢ 7
  pub write : reply.status ≢ 8
  pub memory : reply.status ≢ 9

-- file number k could not be read or is too long, and the reply says so
abbrev pub IsRefused : ℕ → List ℕ → ℕ → ShelfState → ShelfState → Reply → Type 0
IsRefused k name limit before after reply =
    (IsFailed name before after × (reply ≡ refuse (ReadFault k)))
    ⊎ (IsLonger name limit before after × (reply ≡ refuse (Longer k limit)))

-- a reply to a command whose next file is its file number k. If the command gives its answer, nothing is
-- fetched, and the reply is that answer and has no status of a fault. If it asks for a file, the reply
-- refuses that file, or the file has some bytes, and the reply is one to the command that these determine
abbrev pub IsReply : ℕ → Command → ShelfState → ShelfState → Reply → Type 0
IsReply k (answer Is) before after reply = (after ≡ before) × Is reply × ReportsNoFault reply
IsReply k (fetch name limit next) before after reply =
    IsRefused k name limit before after reply
    ⊎ ((bytes : List ℕ) × (mid : ShelfState) × HasBytes name limit bytes before mid
    × IsReply (k + 1) (next bytes) mid after reply)

-- a reply to the command whose status is not 2, the one for words that name no command
abbrev pub IsOwnReply : ℕ → Command → ShelfState → ShelfState → Reply → Type 0
IsOwnReply k command before after reply = IsReply k command before after reply × (reply.status ≢ 2)

-- where the shelf exposes its fetches, there is no new one, or one of this name
abbrev pub AddsAtMost : List ℕ → ShelfState → ShelfState → Type 0
AddsAtMost name before after =
    (after.fetches ≡ before.fetches) ⊎ ((failed : Bool) × AddsFetch name failed before after)

-- no file is asked for except the command's, in their order, even if memory runs out: none after one that
-- failed or is too long, and each only where the files before it let the command go on
abbrev pub AskedInOrder : Command → ShelfState → ShelfState → Type 0
AskedInOrder (answer Is) before after = after.fetches ≡ before.fetches
AskedInOrder (fetch name limit next) before after =
    AddsAtMost name before after
    ⊎ ((bytes : List ℕ) × (mid : ShelfState) × HasBytes name limit bytes before mid
    × AskedInOrder (next bytes) mid after)

-- the shelf exposes that it holds these files, and its count of faults does not rise
pub record Exposes (files : Files) (before after : ShelfState) : Type 0 where
  pub exposed : before.holds ≡ Some files
  pub calm : Rose before.faults after.faults → ⊥

-- the reply is the answer of a command whose next file is its file number k, over a shelf with these files,
-- on which each file that the command asks for exists; a file longer than its limit is refused
abbrev pub IsAnswer : Files → ℕ → Command → Reply → Type 0
IsAnswer files k (answer Is) reply = Is reply
IsAnswer files k (fetch name limit next) reply =
    IsSomeAnd (files name) (λ bytes.
    MatchBool (nat_lt limit (length bytes)) (reply ≡ refuse (Longer k limit))
    (IsAnswer files (k + 1) (next bytes) reply))
