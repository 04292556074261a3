use Rattle.std.proofs.Common.{◌≡◌, ◌+◌, ◌-◌, ◌≤◌, ◌^◌, min, vec_len}
use Rattle.std.specs.Io.KnownBytes.{Consumes}
use Rattle.mc_world.proofs.edge.read_whole.Given as goal

abbrev pub invariant-pieces : goal.invariant-pieces
invariant-pieces g l = record {
  within : vec_len l.bytes ≤ l.limit + 1;
  consumed : Consumes (g.T.Read.remaining l.fn.reader.inner) (g.T.Read.remaining l.reader.inner) l.bytes.items;
  more : l.fn.bytes_read ≤ l.bytes_read;
  counted : l.bytes_read ≡ min (l.fn.bytes_read + vec_len l.bytes) (2 ^ 64 - 1);
  no_failure : l.reader.tally.failures ≡ l.fn.reader.tally.failures;
}

-- each turn of the loop reads a byte or uses up a try
abbrev pub decreases-pieces : goal.decreases-pieces
decreases-pieces g l = l.limit + 1 - vec_len l.bytes + l.reader.tally.tries
