-- The records that a reader of a text has left.
use Rattle.std.specs.Prelude.{◌≡◌, ℕ, ◌+◌, ⊤, Bool, true, false, List, [], length, Option, Some, None, IsSome}
use Rattle.std.specs.Borrow.{Bor}
use Rattle.csv.specs.Reading.{Ready, default_config, is_flexible, records_from, source_of}
use Rattle.csv.specs.declared.error.ErrorKind.{ErrorKind}
use Rattle.csv.specs.declared.error.ErrorKind.TheVariants as kind
use Rattle.csv.specs.declared.parser.State.{State}
use Rattle.csv.specs.declared.reader.Reader.{Reader}
use Rattle.csv.specs.declared.reader.Trim.TheVariants as trim

-- the bytes that a slice has left
abbrev pub bytes_left : Bor (List ℕ) → Option (List ℕ)
bytes_left s = Some s.now

-- the records of these bytes, from a state of csv's machine on
abbrev pub records_after : State → Option (List ℕ) → List (List (List ℕ))
records_after s None = []
records_after s (Some bytes) = records_from default_config (length bytes + 1) s bytes

-- the records that a reader has left, unless it was dropped after memory ran out
abbrev pub records_left : Bool → Reader (Bor (List ℕ)) → List (List (List ℕ))
records_left true r = []
records_left false r = records_after r.state (source_of bytes_left r)

-- the errors of reading records of any lengths: a failed read of the bytes, and a failed allocation
abbrev pub IsOfReader : ErrorKind → Type 0
IsOfReader (kind.Io e) = ⊤
IsOfReader (kind.UnequalLengths pos expected len) = ⊥
IsOfReader (kind.Utf8 pos err) = ⊥
IsOfReader kind.OutOfMemory = ⊤
IsOfReader (kind.Serialize text) = ⊥
IsOfReader (kind.Deserialize pos err) = ⊥

-- the reader returns the records of the bytes that are left, unchanged and of any lengths
pub record ReturnsRecords (r : Reader (Bor (List ℕ))) : Type 0 where
  pub trim : r.trim ≡ trim.None
  pub ready : Ready r
  pub flexible : is_flexible r ≡ true
  pub config : r.config ≡ default_config
  pub source : IsSome (source_of bytes_left r)

-- a reader that was not dropped returns the records of the bytes that are left
abbrev pub ReadsText : Bool → Reader (Bor (List ℕ)) → Type 0
ReadsText is_dropped r = is_dropped ≡ false → ReturnsRecords r
