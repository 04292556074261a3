-- A shelf over the system's files, as contracts see it.
use Rattle.std.specs.Prelude.{ℕ}

-- a shelf over files: its counts, each kept in a u64
pub record FileShelfState : Type 0 where
  -- how many fetches failed
  pub faults : ℕ
  -- how many fetches ran out of memory
  pub memory_faults : ℕ
  -- how many bytes were read, over all fetches
  pub bytes_read : ℕ
