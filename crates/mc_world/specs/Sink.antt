-- Sinks as contracts see them, and what a write does to the bytes written.
use Rattle.std.specs.Prelude.{◌≡◌, ℕ, List, ◌++◌, take, Option, option_map}

-- the first n bytes of the piece are added at the end, if the sink exposes its bytes
abbrev pub Appends : Option (List ℕ) → Option (List ℕ) → List ℕ → ℕ → Type 0
Appends old new piece n = new ≡ option_map (λ bytes. bytes ++ take n piece) old

-- a sink as contracts see it
pub record SinkState : Type 0 where
  -- the bytes written so far, if the sink exposes them
  pub written : Option (List ℕ)
  -- how many writes have failed
  pub faults : ℕ
  -- how many bytes were taken since the last failed write
  pub since_fault : ℕ
