-- A sink in memory as contracts see it, and the effect of a write.
use Rattle.std.specs.Prelude.{ℕ, ◌+◌, ◌-◌, ◌^◌, ◌++◌, List, [], length, min, take}
use Rattle.mc_world.specs.Count.{one_more}

-- a sink in memory: what was written, which writes it takes or fails, and its counts
pub record MemorySinkState : Type 0 where
  -- the bytes written
  pub written : List ℕ
  -- the most bytes that the sink takes altogether
  pub room : ℕ
  -- the most bytes that one write takes
  pub most : ℕ
  -- the writes that the sink is configured to fail, counted from 1
  pub fails : List ℕ
  -- the writes that the sink is configured to take nothing of and return 0, counted from 1
  pub stops : List ℕ
  -- how many writes there were, failed ones included; this is the last one's number, up to its type's end
  pub writes : ℕ
  -- how many writes failed or took nothing as configured
  pub faults : ℕ
  -- how many bytes were taken since the last fault, up to its type's end
  pub since_fault : ℕ

-- a sink without any write
abbrev pub new_sink : ℕ → ℕ → List ℕ → List ℕ → MemorySinkState
new_sink room most fails stops = record {
  written = [];
  room = room;
  most = most;
  fails = fails;
  stops = stops;
  writes = 0;
  faults = 0;
  since_fault = 0;
}

-- how many bytes of a piece the next write takes, unless it is configured to fail or to take nothing
abbrev pub next_count : MemorySinkState → List ℕ → ℕ
next_count s piece = min (min (length piece) s.most) (s.room - length s.written)

-- the sink after a write that took n bytes of the piece
abbrev pub after_write : MemorySinkState → List ℕ → ℕ → MemorySinkState
after_write s piece count = record s {
  written = s.written ++ take count piece;
  writes = one_more s.writes;
  since_fault = min (s.since_fault + count) (2 ^ 64 - 1);
}

-- the sink after a write that failed, or that took nothing as configured
abbrev pub after_fault : MemorySinkState → MemorySinkState
after_fault s = record s { writes = one_more s.writes; faults = one_more s.faults; since_fault = 0 }
