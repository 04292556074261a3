-- Standard output as contracts see it.
use Rattle.std.specs.Prelude.{ℕ}

-- standard output: its counts, each kept in a u64
pub record StdoutSinkState : Type 0 where
  -- how many writes failed
  pub faults : ℕ
  -- how many bytes were taken since the last failed write, up to its type's end
  pub since_fault : ℕ
